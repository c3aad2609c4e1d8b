use native.Mathlib.Omega.{arith}
use mathlib.Core.Path.{◌≡◌, sym, ap, ◌∙◌, subst}
use Prim.Native.Nat.{ℕ, ◌<◌}
use Rattle.algebra.specs.Rules.{number_at}
use Rattle.algebra.specs.Steps.{attempt}
use Rattle.reading.specs.TableSet.{tables_of}
use Rattle.reading.specs.Plan.{nodes_of}
use Rattle.reading.specs.Tree.{operator_at, operator_of, plan_of}
use Rattle.reading.specs.declared.plan.Node.{Node}
use Rattle.unnesting.specs.Shapes.{number_of_rule, operator_rule}
use Rattle.unnesting.specs.Attempts.{Tells}
use Rattle.unnesting.proofs.CandidateLaws.{attempt-past}
use Rattle.unnesting.proofs.AttemptLaws.{nodes-size, other-rule, rule-named, step-unruled}
use Rattle.unnesting.proofs.step.try_step.Goals as goal
use Rattle.unnesting.proofs.step.try_step.Goals.{After-from, After-rule_of}

inside : (c : After-rule_of) → c.args.place < nodes_of c.args.input.plan.now
inside c = omega (arith, c.if-nodes_of-place.false, c.nodes_of.ensures.0)

told : (c : After-rule_of) → number_of_rule c.rule_of.result ≡ operator_rule (operator_at c.args.input.plan.now c.args.place)
told c = c.rule_of.ensures ∙ ap (λ (x : Node). operator_rule (operator_of x)) c.node_at-node.ensures

named : (c : After-from) → c.from.result ≡ number_at (plan_of c.args.input.plan.now) c.args.place
named c =
    let here-inside : c.args.place < nodes_of c.args.input.plan.now = omega (arith, c.if-nodes_of-place.false, c.nodes_of.ensures.0) in
    rule-named c.args.input.set.now c.args.input.plan.now c.args.input.accepted c.args.place _ here-inside
    (c.from.ensures ∙ (sym (ap number_of_rule c.in-Some.is) ∙ (c.rule_of.ensures ∙ ap (λ (x : Node). operator_rule (operator_of x)) c.node_at-node.ensures)))

pub returns-then-nodes_of-place : goal.returns-then-nodes_of-place
returns-then-nodes_of-place c = attempt-past (tables_of c.args.input.set.now) (plan_of c.args.input.plan.now) _ (omega (arith, c.if-nodes_of-place.true, c.nodes_of.ensures.0, nodes-size c.args.input.set.now c.args.input.plan.now c.args.input.accepted))

pub returns-in-Some : goal.returns-in-Some
returns-in-Some c =
    let a = c.args in
    subst (λ (u : ℕ). Tells a.input.set.now c.step_at.new.out (attempt (tables_of a.input.set.now) (record { number = u; place = a.place }) (plan_of a.input.plan.now)) c.step_at.result) (sym (named (goal.at.returns-in-Some c).After-from) ∙ c.if-from-rule.true) c.step_at.ensures

pub returns-in_default : goal.returns-in_default
returns-in_default c = other-rule (tables_of c.args.input.set.now) (plan_of c.args.input.plan.now) _ (λ e. c.if-from-rule.false (named (goal.at.returns-in_default c).After-from ∙ sym e))

pub returns-in_default-2 : goal.returns-in_default-2
returns-in_default-2 c =
    let g = (goal.at.returns-in_default-2 c).After-rule_of in
    step-unruled c.args.input.set.now c.args.input.plan.now c.args.input.accepted c.args.place (inside g) (sym (ap number_of_rule c.in_default.is) ∙ told g) c.args.rule
