use native.Mathlib.Omega.{arith}
use mathlib.Core.Path.{◌≡◌, sym, ◌∙◌, subst}
use Prim.Native.Nat.{ℕ, ◌-◌}
use lib.ListN.{take}
use Rattle.reading.specs.Check.{check_of}
use Rattle.reading.proofs.PlanBytes.{plan_passed}
use Rattle.reading.proofs.Acceptance.{check-over}
use Rattle.unnesting.proofs.Demand3.{input-parts}
use Rattle.unnesting.proofs.CandidateLaws.{possible-none, tried-no, tried_yes}
use Rattle.unnesting.proofs.step.possible_at.Goals as goal
use Rattle.unnesting.proofs.step.possible_at.Goals.{After-check_plan}

told : (c : After-check_plan) → c.check_plan.result ≡ check_of c.args.input.set.now (take c.write_change-length.result c.write_change-length.new.out)
told c =
    let r = c.write_change-length.result in
    let l = c.write_change-length.new.out in
    let z : r - 0 ≡ r = omega arith in
    subst (λ (n : ℕ). c.check_plan.result ≡ check_of c.args.input.set.now (take n l)) z
    (c.check_plan.ensures ∙ check-over c.args.input.set.now (take (r - 0) l) _ c.args.input.known)

pub returns-in_err-change : goal.returns-in_err-change
returns-in_err-change c =
    let a = c.args in
    rw c.from_residual.ensures (possible-none a.input.set.now a.input.plan.now c.args.input.accepted a.i c.requires.i_bound.0 c.in_err-change.ensures)

pub write_change-length-requires : goal.write_change-length-requires
write_change-length-requires c =
    let a = c.args in
    let p = plan_passed a.input.set.now a.input.plan.now (input-parts a.input.set.now a.input.plan.now c.args.input.accepted).1 in
    (c.in_ok-change.ensures.inside, p.known.long, omega (arith, c.requires.i_bound.2))

pub returns-in-Err : goal.returns-in-Err
returns-in-Err c =
    let a = c.args in
    let e = c.write_change-length in
    tried-no a.input.set.now a.input.plan.now a.i _ c.args.input.accepted c.args.input.passed c.in_ok-change.ensures e.new.out e.result (omega (arith, e.auto.out, c.requires.i_bound.2)) e.ensures.0 e.ensures.1 _ (sym (told (goal.at.returns-in-Err c).After-check_plan) ∙ c.in-Err.is)

pub returns-in-Ok : goal.returns-in-Ok
returns-in-Ok c =
    let a = c.args in
    let e = c.write_change-length in
    tried_yes a.input.set.now a.input.plan.now a.i _ c.args.input.accepted c.args.input.passed c.in_ok-change.ensures e.new.out e.result (omega (arith, e.auto.out, c.requires.i_bound.2)) e.ensures.0 e.ensures.1 _ (sym (told (goal.at.returns-in-Ok c).After-check_plan) ∙ c.in-Ok.is)
