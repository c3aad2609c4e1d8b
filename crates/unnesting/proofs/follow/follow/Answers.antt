use native.Mathlib.Omega.{arith}
use mathlib.Core.Path.{◌≡◌, ap, ◌∙◌}
use mathlib.Core.List.{List, []}
use Prim.Native.Nat.{ℕ, ◌+◌, ◌*◌, ◌-◌, ◌/◌}
use lib.ListN.{length, take, get_or}
use Rattle.reading.proofs.PlanBytes.{plan_passed}
use Rattle.unnesting.proofs.Demand3.{input-parts}
use Rattle.unnesting.proofs.RunLaws.{front-written, front-part, held}
use Rattle.unnesting.proofs.FollowLaws.{Following, paired, following_start, following_short, following_end, following_unfit, following_step}
use Rattle.unnesting.proofs.follow.follow.Goals as goal
use Rattle.unnesting.proofs.follow.follow.Goals.{After-write_bytes, In-loop-pair, After-write_bytes-in-loop-pair}

whole : (c : In-loop-pair) → take (c.loop-pair.bytes - 0) c.loop-pair.current ≡ take c.loop-pair.bytes c.loop-pair.current
whole c = let z : c.loop-pair.bytes - 0 ≡ c.loop-pair.bytes = omega arith in rw z

rule : (c : In-loop-pair) → get_or (get_or c.as_chunks.result.0.now c.loop-pair.pair-index []) 0 0 ≡ get_or c.args.steps.now (2 * c.loop-pair.pair-index) 0
rule c =
    ap (λ (pairs : List (List ℕ)). get_or (get_or pairs c.loop-pair.pair-index []) 0 0) c.as_chunks.ensures.front ∙ paired c.args.steps.now (length c.args.steps.now / 2) c.loop-pair.pair-index 0 _ (omega arith) (omega (arith, c.as_chunks.ensures.front_len)) (omega arith) (omega arith)

place : (c : In-loop-pair) → get_or (get_or c.as_chunks.result.0.now c.loop-pair.pair-index []) 1 0 ≡ get_or c.args.steps.now (2 * c.loop-pair.pair-index + 1) 0
place c =
    ap (λ (pairs : List (List ℕ)). get_or (get_or pairs c.loop-pair.pair-index []) 1 0) c.as_chunks.ensures.front ∙ paired c.args.steps.now (length c.args.steps.now / 2) c.loop-pair.pair-index 1 _ (omega arith) (omega (arith, c.as_chunks.ensures.front_len)) (omega arith) (omega arith)

begun : (c : After-write_bytes) → Following c.args.input.set.now c.args.input.plan.now c.args.steps.now (length c.args.scratch.now) c.write_bytes.new.out (length c.args.input.plan.now) c.args.input.need 0
begun c =
    let a = c.args in
    following_start a.input.set.now a.input.plan.now a.steps.now _ _ _ c.args.input.accepted c.args.input.passed c.args.input.needed (ap (take (length a.input.plan.now)) c.write_bytes.ensures ∙ front-written _ _)

next : (c : After-write_bytes-in-loop-pair)
    → Following c.args.input.set.now c.args.input.plan.now c.args.steps.now (length c.args.scratch.now) c.write_bytes-in-loop-pair.new.out c.in-Some.found.length c.in-Some.found.need (c.loop-pair.pair-index + 1)
next c =
    let a = c.args in
    let l = c.loop-pair in
    let i = (goal.at.After-write_bytes-in-loop-pair c).In-loop-pair in
    following_step a.input.set.now a.input.plan.now a.steps.now _ _ _ _ _ l.invariant.4 l.invariant.3 _ (whole i) (omega (arith, c.loop-pair-test.true, c.as_chunks.ensures.front_len)) _ _ (rule i) (place i) _ _ _ _ c.in-Some.ensures
    (ap (take c.in-Some.found.length) c.write_bytes-in-loop-pair.ensures ∙ front-part l.current c.try_step.new.out c.in-Some.found.length (omega (arith, c.in-Some.ensures.stored.short, c.try_step.auto.out, l.invariant.1, c.requires.1)))

pub write_bytes-requires : goal.write_bytes-requires
write_bytes-requires c =
    let a = c.args in
    let k = (plan_passed a.input.set.now a.input.plan.now (input-parts a.input.set.now a.input.plan.now c.args.input.accepted).1).known in
    omega (arith, k.long, k.most, c.requires.0)

pub returns-then-scratch-needed : goal.returns-then-scratch-needed
returns-then-scratch-needed c = following_short c.args.input.set.now c.args.input.plan.now c.args.steps.now _ _ _ _ _ (begun (goal.at.returns-then-scratch-needed c).After-write_bytes) c.if-scratch-needed.true

pub loop-pair-init : goal.loop-pair-init
loop-pair-init c = (omega arith, omega arith, omega arith, c.if-scratch-needed.false, begun (goal.at.loop-pair-init c).After-write_bytes)

pub invariant_of-held : goal.invariant_of-held
invariant_of-held c =
    let l = c.loop-pair in
    let h = held c.args.input.set.now _ _ _ _ _ l.invariant.4.stored (whole (goal.at.invariant_of-held c).In-loop-pair) in
    record { accepted = h.allowed; passed = h.passed; known = c.args.input.known; needed = h.needs }

pub returns-in_default : goal.returns-in_default
returns-in_default c =
    let l = c.loop-pair in
    let i = (goal.at.returns-in_default c).In-loop-pair in
    following_unfit c.args.input.set.now c.args.input.plan.now c.args.steps.now _ _ _ _ _ l.invariant.4 l.invariant.3 _ (whole i) (omega (arith, c.loop-pair-test.true, c.as_chunks.ensures.front_len)) _ _ (rule i) (place i) c.in_default.ensures

pub returns-then-scratch-needed-2 : goal.returns-then-scratch-needed-2
returns-then-scratch-needed-2 c =
    following_short c.args.input.set.now c.args.input.plan.now c.args.steps.now _ _ _ _ _ (next (goal.at.returns-then-scratch-needed-2 c).After-write_bytes-in-loop-pair) (omega (arith, c.if-scratch-needed-2.true, c.try_step.auto.scratch, c.loop-pair.invariant.2))

pub loop-pair-preserved : goal.loop-pair-preserved
loop-pair-preserved c =
    let l = c.loop-pair in (
      omega (arith, l.invariant.0, c.write_bytes-in-loop-pair.auto.out),
      omega (arith, l.invariant.1, c.try_step.auto.out),
      omega (arith, l.invariant.2, c.try_step.auto.scratch),
      omega (arith, c.if-scratch-needed-2.false, c.try_step.auto.scratch, l.invariant.2),
      next (goal.at.loop-pair-preserved c).After-write_bytes-in-loop-pair,
    )

pub returns : goal.returns
returns c =
    let l = c.loop-pair in
    following_end c.args.input.set.now c.args.input.plan.now c.args.steps.now _ _ _ _ _ l.invariant.4 l.invariant.3 (omega (arith, c.loop-pair-test.false, c.as_chunks.ensures.front_len))
