use mathlib.Core.Path.{◌∙◌}
use native.Mathlib.Omega.{arith}
use Rattle.reporting.proofs.Codes.{code-moved, stored}
use Rattle.reporting.proofs.output.code.Goals as goal

pub returns : goal.returns
returns c =
    let cell = c.args.cell in
    stored cell (omega arith) (c.cast_signed.ensures ∙ code-moved cell (omega arith))
