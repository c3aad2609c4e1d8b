use native.Mathlib.Omega.{arith}
use mathlib.Core.Path.{◌≡◌, sym, ap, ◌∙◌}
use Rattle.reading.specs.TableSet.{tables_of}
use Rattle.reading.specs.Tree.{operator_at, operator_of, plan_of}
use Rattle.reading.specs.declared.plan.Node.{Node}
use Rattle.unnesting.specs.Shapes.{number_of_rule, operator_rule}
use Rattle.unnesting.proofs.AttemptLaws.{still-at, still-more, still-all, nodes-size, smallest-found, step-unruled}
use Rattle.unnesting.proofs.step.smallest_step.Goals as goal
use Rattle.unnesting.proofs.step.smallest_step.Goals.{After-rule_of, in-Some+in_default-step_at, in_default}

told : (c : After-rule_of) → number_of_rule c.rule_of.result ≡ operator_rule (operator_at c.args.input.plan.now c.loop-i.i)
told c = c.rule_of.ensures ∙ ap (λ (x : Node). operator_rule (operator_of x)) c.node_at-node.ensures

pub returns-in-Some-step_at : goal.returns-in-Some-step_at
returns-in-Some-step_at c =
    let a = c.args in
    let l = c.loop-i in
    let n = c.nodes_of-i-end.ensures.0 in
    smallest-found a.input.set.now a.input.plan.now c.args.input.accepted _ l.i _ _ _ (omega (arith, n, c.loop-i-test.true)) (sym (ap number_of_rule c.in-Some.is) ∙ told (goal.at.returns-in-Some-step_at c).After-rule_of) l.invariant.2 c.in-Some-step_at.ensures

pub loop-i-preserved : goal.loop-i-preserved
loop-i-preserved c =
    let a = c.args in
    let l = c.loop-i in
    let n = c.nodes_of-i-end.ensures.0 in
    let r = told (goal.at.loop-i-preserved c).After-rule_of in
    let more = still-more (tables_of a.input.set.now) (plan_of a.input.plan.now) l.i l.invariant.2 in
    elim c.match-rule_of.branch [
      | in-Some+in_default-step_at w ↦
          let e = w.step_at in
          (omega (arith, l.invariant.0, e.auto.out), omega (arith, l.invariant.1, e.auto.scratch), more (still-at (tables_of a.input.set.now) (plan_of a.input.plan.now) l.i w.in_default-step_at.ensures))
      | in_default w ↦
          (omega (arith, l.invariant.0), omega (arith, l.invariant.1), more (λ u low high. step-unruled a.input.set.now a.input.plan.now c.args.input.accepted l.i (omega (arith, n, c.loop-i-test.true)) (sym (ap number_of_rule w.in_default.is) ∙ r) u))
    ]

pub returns : goal.returns
returns c =
    let a = c.args in
    let l = c.loop-i in
    still-all (tables_of a.input.set.now) (plan_of a.input.plan.now) l.i (omega (arith, c.nodes_of-i-end.ensures.0, c.loop-i-test.false, nodes-size a.input.set.now a.input.plan.now c.args.input.accepted)) l.invariant.2
