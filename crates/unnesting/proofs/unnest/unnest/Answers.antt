use mathlib.Core.Path.{refl}
use Rattle.std.proofs.lemmas.Result.{err_from_is_err_and}
use Rattle.unnesting.proofs.UnnestLaws.{turned-back}
use Rattle.unnesting.proofs.unnest.unnest.Goals as goal

pub returns-in_err-input : goal.returns-in_err-input
returns-in_err-input c =
    let a = c.args in
    let p = err_from_is_err_and c.from_residual.result c.from_residual.ensures.1 in
    rw (p.1, p.2) (turned-back a.set.now a.plan.now a.out_plan.now a.out_steps.now a.scratch.now a.scratch.now _ _ _ _ c.in_err-input.ensures.0 c.in_err-input.ensures.1 (refl, refl, refl) refl)
