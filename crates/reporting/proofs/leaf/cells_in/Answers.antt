use native.Mathlib.Omega.{arith}
use lib.ListN.{length-set}
use Rattle.reading.specs.TableSet.{cell_at}
use Rattle.reporting.proofs.TableRows.{next-cell}
use Rattle.reporting.proofs.leaf.cells_in.Goals as goal

pub loop-i-preserved : goal.loop-i-preserved
loop-i-preserved c =
    let l = c.loop-i in
    let a = c.args in
    (simp length-set l.invariant.0, rw c.cell.ensures (next-cell (cell_at a.version a.from.now) l.cells l.i l.invariant.1 (omega arith)))
