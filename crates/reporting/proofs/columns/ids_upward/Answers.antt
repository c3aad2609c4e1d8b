use native.Mathlib.Omega.{arith}
use lib.ListN.{length-set}
use Rattle.reporting.proofs.ColumnWays.{next-id, byte-upward}
use Rattle.reporting.proofs.columns.ids_upward.Goals as goal

pub overflow_cast-ids : goal.overflow_cast-ids
overflow_cast-ids c =
    let a = c.args in
    omega (arith, byte-upward a.n a.first c.loop-k.k c.requires.1 (omega arith))

pub loop-k-preserved : goal.loop-k-preserved
loop-k-preserved c =
    let l = c.loop-k in
    (simp length-set l.invariant.0, next-id l.ids c.args.first l.k l.invariant.1 (omega arith))
