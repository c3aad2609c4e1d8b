use native.Mathlib.Omega.{arith}
use mathlib.Core.Path.{◌≡◌, refl, ap, ◌∙◌}
use Prim.Native.Nat.{ℕ}
use lib.ListN.{length, replicate}
use Rattle.unnesting.proofs.RunLaws.{ended_plan, ended-steps, ended-count, ended-few}
use Rattle.unnesting.proofs.UnnestLaws.{short_scratch, short_plan, short-steps, unnested}
use Rattle.unnesting.proofs.unnest.unnest_accepted.Goals as goal
use Rattle.unnesting.proofs.unnest.unnest_accepted.Goals.{After-clear}

clean : (c : After-clear) → c.clear.new.cells ≡ replicate (length c.args.scratch.now) 0
clean c = c.clear.ensures ∙ ap (λ (n : ℕ). replicate n 0) c.run-ended.auto.scratch

pub returns-in_default : goal.returns-in_default
returns-in_default c =
    let a = c.args in
    short_scratch a.input.set.now a.input.plan.now a.out_plan.now a.out_steps.now a.scratch.now _ _ _ _ c.args.input.accepted (clean (goal.at.returns-in_default c).After-clear) c.in_default.ensures (refl, refl, refl)

pub returns-then-out_plan-bytes : goal.returns-then-out_plan-bytes
returns-then-out_plan-bytes c =
    let a = c.args in
    short_plan a.input.set.now a.input.plan.now a.out_plan.now a.out_steps.now a.scratch.now _ _ _ _ c.args.input.accepted (clean (goal.at.returns-then-out_plan-bytes c).After-clear) c.in-Some.ensures.enough (omega (arith, c.if-out_plan-bytes.true, c.in-Some.ensures.bytes)) (refl, refl, refl)

pub overflow_mul-count : goal.overflow_mul-count
overflow_mul-count c = omega (arith, ended-few c.args.input.set.now c.args.input.plan.now c.args.input.accepted _ _ _ _ _ c.in-Some.ensures)

pub returns-then-out_steps-count : goal.returns-then-out_steps-count
returns-then-out_steps-count c =
    let a = c.args in
    short-steps a.input.set.now a.input.plan.now a.out_plan.now a.out_steps.now a.scratch.now _ _ _ _ c.args.input.accepted (clean (goal.at.returns-then-out_steps-count c).After-clear) c.in-Some.ensures.enough (omega (arith, c.if-out_plan-bytes.false, c.in-Some.ensures.bytes)) (omega (arith, c.if-out_steps-count.true, ended-count a.input.set.now a.input.plan.now c.args.input.accepted _ _ _ _ _ c.in-Some.ensures)) (refl, refl, refl)

pub slice_bounds-write_bytes-end-2 : goal.slice_bounds-write_bytes-end-2
slice_bounds-write_bytes-end-2 c = omega (arith, ended-few c.args.input.set.now c.args.input.plan.now c.args.input.accepted _ _ _ _ _ c.in-Some.ensures, c.run-ended.auto.steps)

pub returns : goal.returns
returns c =
    let a = c.args in
    let d = c.in-Some.ensures in
    unnested a.input.set.now a.input.plan.now a.out_plan.now a.out_steps.now a.scratch.now _ _ _ _ c.args.input.accepted (clean (goal.at.returns c).After-clear) d.enough _ _ (omega (arith, c.if-out_plan-bytes.false, d.bytes)) (omega (arith, c.if-out_steps-count.false, ended-count a.input.set.now a.input.plan.now c.args.input.accepted _ _ _ _ _ d)) refl d.counted d.bytes (c.write_bytes.ensures ∙ ended_plan a.input.set.now a.input.plan.now c.args.input.accepted _ _ _ _ _ d _) (c.write_bytes-2.ensures ∙ ended-steps a.input.set.now a.input.plan.now c.args.input.accepted _ _ _ _ _ d _)
