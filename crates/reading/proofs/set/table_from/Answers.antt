use Prim.Native.Nat.{suc, ◌+◌, ◌-◌}
use native.Mathlib.Omega.{arith}
use mathlib.Core.Path.{◌≡◌, sym, ◌∙◌}
use Rattle.reading.specs.TableSet.{table_from}
use Rattle.reading.proofs.Laws.{table-next}
use Rattle.reading.proofs.set.table_from.Goals as goal

pub loop-preserved : goal.loop-preserved
loop-preserved c =
    let l = c.loop in
    let q : c.args.t - l.counter ≡ suc (c.args.t - (l.counter + 1)) = omega arith in
    l.invariant ∙ rw (q, table-next, ← c.cell_bytes.ensures.value, ← c.tail-rest.ensures)

pub returns : goal.returns
unfolding table_from
returns c =
    let l = c.loop in
    let q : c.args.t - l.counter ≡ 0 = omega arith in
    sym (l.invariant ∙ rw q)
