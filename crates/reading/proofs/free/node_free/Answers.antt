use Rattle.reading.proofs.FreeLaws.{flags_minus, flags_joined}
use Rattle.reading.proofs.free.node_free.Goals as goal

pub returns : goal.returns
returns c = record {
  gives = λ fs xs gs ys f k s d.
      let own = flags_minus (flags_minus c.node_names.ensures d c.set_where.ensures) k c.set_where-own.ensures in
      flags_joined f (flags_joined (c.inner_free-inner.ensures.gives gs xs s k) own c.set_where-2.ensures) c.set_where-3.ensures;
}
