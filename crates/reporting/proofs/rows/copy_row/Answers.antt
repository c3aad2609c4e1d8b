use native.Mathlib.Omega.{arith}
use lib.ListN.{length-set}
use Rattle.reporting.proofs.Copies.{copied_more}
use Rattle.reporting.proofs.rows.copy_row.Goals as goal

pub loop-i-preserved : goal.loop-i-preserved
loop-i-preserved c =
    let a = c.args in
    let l = c.loop-i in
    (simp length-set (omega arith), copied_more a.cells.now l.cells a.src a.dst l.i l.invariant.1 (omega arith) (omega arith))
