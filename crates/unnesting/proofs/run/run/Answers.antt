use native.Mathlib.Omega.{arith}
use mathlib.Core.Path.{◌≡◌, ap, ◌∙◌}
use Prim.Native.Nat.{◌-◌, ◌+◌, ◌≤◌}
use lib.ListN.{length, take}
use Rattle.reading.proofs.PlanBytes.{plan_passed}
use Rattle.unnesting.proofs.Demand3.{input-parts}
use Rattle.unnesting.proofs.RunLaws.{front-written, front-part, running_start, held, running_short, running_end, running_room, running_step}
use Rattle.unnesting.proofs.run.run.Goals as goal
use Rattle.unnesting.proofs.run.run.Goals.{At-loop-needed, In-Some, In-loop-needed}

whole : (c : At-loop-needed) → take (c.loop-needed.bytes - 0) c.loop-needed.current ≡ take c.loop-needed.bytes c.loop-needed.current
whole c = let z : c.loop-needed.bytes - 0 ≡ c.loop-needed.bytes = omega arith in rw z

fits : (c : In-loop-needed) → c.loop-needed.needed ≤ length c.args.scratch.now
fits c = omega (arith, c.loop-needed-test.true, c.loop-needed.invariant.3)

room : (c : In-Some) → c.loop-needed.count + 1 ≤ 192
room c =
    let here-whole : take (c.loop-needed.bytes - 0) c.loop-needed.current ≡ take c.loop-needed.bytes c.loop-needed.current = let z : c.loop-needed.bytes - 0 ≡ c.loop-needed.bytes = omega arith in rw z in
    let here-fits : c.loop-needed.needed ≤ length c.args.scratch.now = omega (arith, c.loop-needed-test.true, c.loop-needed.invariant.3) in
    running_room c.args.input.set.now c.args.input.plan.now c.args.input.accepted _ _ _ _ _ _ _ c.loop-needed.invariant.4 here-whole here-fits _ _ _ _ _ c.in-Some.ensures

pub write_bytes-requires : goal.write_bytes-requires
write_bytes-requires c =
    let a = c.args in
    let k = (plan_passed a.input.set.now a.input.plan.now (input-parts a.input.set.now a.input.plan.now c.args.input.accepted).1).known in
    omega (arith, k.long, k.most, c.requires.0)

pub loop-needed-init : goal.loop-needed-init
loop-needed-init c =
    let a = c.args in
    (omega arith, omega arith, omega arith, omega arith, running_start a.input.set.now a.input.plan.now c.args.input.accepted _ _ _ _ c.args.input.passed c.args.input.needed (ap (take (length a.input.plan.now)) c.write_bytes.ensures ∙ front-written _ _))

pub invariant_of-held : goal.invariant_of-held
invariant_of-held c =
    let l = c.loop-needed in
    let h = held c.args.input.set.now _ _ _ _ _ l.invariant.4.stored (whole (goal.at.invariant_of-held c).At-loop-needed) in
    record { accepted = h.allowed; passed = h.passed; known = c.args.input.known; needed = h.needs }

pub returns-in_default : goal.returns-in_default
returns-in_default c =
    let a = c.args in
    let l = c.loop-needed in
    running_end a.input.set.now a.input.plan.now c.args.input.accepted _ _ _ _ _ _ _ l.invariant.4 (whole (goal.at.returns-in_default c).At-loop-needed) (fits (goal.at.returns-in_default c).In-loop-needed) (omega (arith, l.invariant.0, c.requires.0, c.write_bytes.auto.out)) c.in_default.ensures

pub write_step-requires : goal.write_step-requires
write_step-requires c = omega (arith, room (goal.at.write_step-requires c).In-Some, c.loop-needed.invariant.2, c.requires.2)

pub loop-needed-preserved : goal.loop-needed-preserved
loop-needed-preserved c =
    let a = c.args in
    let l = c.loop-needed in
    let e = c.smallest_step in
    let n = c.in-Some.ensures in
    (omega (arith, l.invariant.0, c.write_bytes-in-loop-needed.auto.out), omega (arith, l.invariant.1, e.auto.out), omega (arith, l.invariant.2, c.write_step.auto.steps), omega (arith, l.invariant.3, e.auto.scratch), running_step a.input.set.now a.input.plan.now c.args.input.accepted _ _ _ _ _ _ _ l.invariant.4 (whole (goal.at.loop-needed-preserved c).At-loop-needed) (fits (goal.at.loop-needed-preserved c).In-loop-needed) _ _ _ _ _ n _ _ (ap (take c.in-Some.found.next.length) c.write_bytes-in-loop-needed.ensures ∙ front-part l.current e.new.out c.in-Some.found.next.length (omega (arith, n.left.stored.short, e.auto.out, l.invariant.1, c.requires.1))) c.write_step.ensures)

pub returns : goal.returns
returns c =
    let a = c.args in
    let l = c.loop-needed in
    running_short a.input.set.now a.input.plan.now c.args.input.accepted _ _ _ (take l.bytes l.current) _ _ _ l.invariant.4 (omega (arith, c.loop-needed-test.false, l.invariant.3))
