use native.Mathlib.Omega.{arith}
use mathlib.Core.Bool.{true, false}
use mathlib.Core.Path.{◌≡◌, ap, ◌∙◌}
use mathlib.Core.List.{List, []}
use Prim.Native.Nat.{ℕ, ◌*◌, ◌/◌}
use lib.ListN.{length, get_or}
use Rattle.unnesting.proofs.FollowLaws.{paired}
use Rattle.unnesting.proofs.CheckStepsLaws.{list_odd, list-rules, rules-end, rules-next, rules-low, rules-high}
use Rattle.unnesting.proofs.check_steps.check_list.Goals as goal
use Rattle.unnesting.proofs.check_steps.check_list.Goals.{In-loop-pair}

rule : (c : In-loop-pair) → get_or (get_or c.as_chunks.result.0.now c.loop-pair.pair-index []) 0 0 ≡ get_or c.args.steps.now (2 * c.loop-pair.pair-index) 0
rule c =
    ap (λ (pairs : List (List ℕ)). get_or (get_or pairs c.loop-pair.pair-index []) 0 0) c.as_chunks.ensures.front ∙ paired c.args.steps.now (length c.args.steps.now / 2) c.loop-pair.pair-index 0 _ (omega arith) (omega (arith, c.as_chunks.ensures.front_len)) (omega arith) (omega arith)

pub returns-then-steps-ne0 : goal.returns-then-steps-ne0
returns-then-steps-ne0 c = list_odd c.args.steps.now c.if-steps-ne0.true

pub returns-then-rule-lt1 : goal.returns-then-rule-lt1
returns-then-rule-lt1 c = list-rules c.args.steps.now c.if-steps-ne0.false false (c.loop-pair.invariant ∙ rules-low c.args.steps.now c.if-steps-ne0.false _ _ (omega (arith, c.as_chunks.ensures.front_len)) (rule (goal.at.returns-then-rule-lt1 c).In-loop-pair) c.if-rule-lt1.true)

pub returns-then-rule-gt8 : goal.returns-then-rule-gt8
returns-then-rule-gt8 c = list-rules c.args.steps.now c.if-steps-ne0.false false (c.loop-pair.invariant ∙ rules-high c.args.steps.now c.if-steps-ne0.false _ _ (omega (arith, c.as_chunks.ensures.front_len)) (rule (goal.at.returns-then-rule-gt8 c).In-loop-pair) c.if-rule-gt8.true)

pub loop-pair-preserved : goal.loop-pair-preserved
loop-pair-preserved c = c.loop-pair.invariant ∙ rules-next c.args.steps.now c.if-steps-ne0.false _ _ (omega (arith, c.as_chunks.ensures.front_len)) (rule (goal.at.loop-pair-preserved c).In-loop-pair) c.if-rule-lt1.false c.if-rule-gt8.false

pub returns : goal.returns
returns c = list-rules c.args.steps.now c.if-steps-ne0.false true (c.loop-pair.invariant ∙ rules-end c.args.steps.now c.if-steps-ne0.false _ (omega (arith, c.loop-pair-test.false, c.as_chunks.ensures.front_len, c.if-steps-ne0.false)))
