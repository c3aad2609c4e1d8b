use mathlib.Core.Path.{◌≡◌}
use native.Mathlib.Omega.{arith}
use lib.ListN.{get_or, length-set}
use mir.Syntax.{w64}
use mir.Val.{to_z, of_z}
use Rattle.reporting.specs.Report.{code_of}
use Rattle.reporting.proofs.Codes.{written_next, stored}
use Rattle.reporting.proofs.output.write_codes.Goals as goal

pub loop-i-preserved : goal.loop-i-preserved
loop-i-preserved c =
    let l = c.loop-i in
    let a = c.args in
    let cell = get_or a.cells.now l.i 0 in
    let e : to_z w64 (of_z w64 c.code.result) ≡ code_of cell = stored cell (omega (arith, c.type_inv.cells l.i)) c.code.ensures in
    (simp length-set l.invariant.0, rw (l.invariant.1, e) (written_next code_of a.cells.now a.out.now l.i (omega arith) (omega arith)))
