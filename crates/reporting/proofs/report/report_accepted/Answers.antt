use native.Mathlib.Omega.{arith}
use Rattle.reporting.proofs.Reports.{scratch_short}
use Rattle.reporting.proofs.report.report_accepted.Goals as goal

pub returns-then-scratch-cells : goal.returns-then-scratch-cells
returns-then-scratch-cells c =
    let a = c.args in
    scratch_short a.set.now a.plan.now a.out.now a.scratch.now c.requires.plan_value (omega (arith, c.requires.cells_value, c.if-scratch-cells.true))
