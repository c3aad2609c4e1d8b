use mathlib.Core.Path.{◌≡◌, refl, sym, ap, ◌∙◌}
use mathlib.Core.Bool.{true, false}
use native.Mathlib.Omega.{arith}
use Prim.Native.Nat.{ℕ}
use lib.ListN.{length, replicate}
use Rattle.std.proofs.lemmas.Result.{err_from_is_err_and}
use Rattle.reading.proofs.Acceptance.{number-positive}
use Rattle.unnesting.specs.CheckSteps.{list_number}
use Rattle.unnesting.proofs.CheckStepsLaws.{check_20, check_stopped, check_end}
use Rattle.unnesting.proofs.check_steps.check_accepted.Goals as goal
use Rattle.unnesting.proofs.check_steps.check_accepted.Goals.{After-clear-2}

allowed : (c : After-clear-2) → list_number c.args.steps.now ≡ 0
allowed c = sym c.in_default.ensures

clean : (c : After-clear-2) → c.clear-2.new.cells ≡ replicate (length c.args.scratch.now) 0
clean c = c.clear-2.ensures ∙ ap (λ (n : ℕ). replicate n 0) c.follow-followed.auto.scratch

pub returns-in-Err : goal.returns-in-Err
returns-in-Err c = check_20 c.args.input.set.now c.args.input.plan.now c.args.steps.now c.args.theirs.now c.args.scratch.now _ _ c.args.input.accepted c.clear.ensures (λ e. absurd (omega (arith, number-positive c.in-Err.refusal, c.in-Err.ensures, e))) c.in-Err.ensures

pub returns-in_err-length : goal.returns-in_err-length
returns-in_err-length c =
    let g = goal.at.returns-in_err-length c in
    let p = err_from_is_err_and c.from_residual.result c.from_residual.ensures.1 in
    rw p.1 (check_stopped c.args.input.set.now c.args.input.plan.now c.args.steps.now c.args.theirs.now c.args.scratch.now _ _ c.args.input.accepted (clean g.After-clear-2) (allowed g.After-clear-2) c.follow-followed.new.current _ c.in_err-length.ensures p.2)

pub returns-then-not-same_bytes : goal.returns-then-not-same_bytes
returns-then-not-same_bytes c = check_end c.args.input.set.now c.args.input.plan.now c.args.steps.now c.args.theirs.now c.args.scratch.now _ _ c.args.input.accepted (clean (goal.at.returns-then-not-same_bytes c).After-clear-2) (allowed (goal.at.returns-then-not-same_bytes c).After-clear-2) _ _ c.in_ok-length.ensures false (sym c.same_bytes.ensures ∙ c.if-not-same_bytes.true) refl

pub returns : goal.returns
returns c = check_end c.args.input.set.now c.args.input.plan.now c.args.steps.now c.args.theirs.now c.args.scratch.now _ _ c.args.input.accepted (clean (goal.at.returns c).After-clear-2) (allowed (goal.at.returns c).After-clear-2) _ _ c.in_ok-length.ensures true (sym c.same_bytes.ensures ∙ c.if-not-same_bytes.false) refl
