use mathlib.Core.Path.{refl}
use Rattle.std.proofs.lemmas.Result.{err_from_is_err_and}
use Rattle.unnesting.proofs.CheckStepsLaws.{check_turned-back}
use Rattle.unnesting.proofs.check_steps.check_steps.Goals as goal

pub returns-in_err-input : goal.returns-in_err-input
returns-in_err-input c =
    let p = err_from_is_err_and c.from_residual.result c.from_residual.ensures.1 in
    rw (p.1, p.2) (check_turned-back c.args.set.now c.args.plan.now c.args.steps.now c.args.theirs.now c.args.scratch.now _ _ _ c.in_err-input.ensures.0 c.in_err-input.ensures.1 refl refl)
