use native.Mathlib.Omega.{arith}
use Rattle.reporting.proofs.Soundness.{sound-width}
use Rattle.reporting.proofs.Arms.{ids-part}
use Rattle.reporting.proofs.eval.unary_at.Goals as goal

pub columns_into-w-requires : goal.columns_into-w-requires
columns_into-w-requires c = (c.requires.sound_at.0, sound-width c.requires.sound_at.0)

pub slice_bounds-act-end : goal.slice_bounds-act-end
slice_bounds-act-end c = omega (arith, sound-width c.requires.sound_at.0, c.columns_into-w.ensures.0, c.columns_into-w.auto.ids)

pub act-requires : goal.act-requires
act-requires c =
    let s = c.requires in
    let e = ids-part c.columns_into-w.result c.columns_into-w.new.ids c.columns_into-w.ensures.1 in
    rw e (record { node_value = (s.sound_at.1, s.sound_at.2, s.sound_at.3, sound-width s.sound_at.0); unary_room = s.unary_room })

pub returns : goal.returns
returns c =
    let e = ids-part c.columns_into-w.result c.columns_into-w.new.ids c.columns_into-w.ensures.1 in
    rw e at c.act.ensures
