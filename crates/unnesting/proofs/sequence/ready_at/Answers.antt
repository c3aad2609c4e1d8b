use native.Mathlib.Omega.{arith}
use Rattle.std.proofs.Common.{rules}
use Prim.Native.Nat.{ℕ}
use mathlib.Core.Bool.{Bool, true, false, not}
use Rattle.std.specs.Prelude.{Option, is_some, is_none}
use mathlib.Core.Path.{◌≡◌, sym, ap, ◌∙◌}
use Rattle.algebra.specs.Rules.{rule_of}
use Rattle.algebra.specs.StayNotes.{comparing}
use Rattle.reading.specs.TableSet.{tables_of}
use Rattle.reading.specs.Tree.{plan_at}
use Rattle.reporting.proofs.Reports.{whole-input}
use Rattle.unnesting.specs.Shapes.{number_of_rule}
use Rattle.unnesting.proofs.AttemptLaws.{nodes-few}
use Rattle.unnesting.proofs.SequenceLaws.{rule-here, found-each, ready-other, ready-same}
use Rattle.unnesting.proofs.sequence.ready_at.Goals as goal
use Rattle.unnesting.proofs.sequence.ready_at.Goals.{After-rule_of-rule, Else-not-compares}

none_by : (b : Bool) (o : Option ℕ) → is_some o ≡ not b → b ≡ is_none o
none_by true o e = sym (ap not e)
none_by false o e = sym (ap not e)

ruled : (c : After-rule_of-rule) → number_of_rule c.rule_of-rule.result ≡ rule_of (plan_at c.args.input.plan.now c.args.i)
ruled c = c.rule_of-rule.ensures ∙ rule-here c.args.input.plan.now c.args.i c.args.node c.requires.i_bound.0 c.requires.i_bound.1

compared : (c : Else-not-compares) → comparing (rule_of (plan_at c.args.input.plan.now c.args.i)) ≡ true
compared c =
    let here-ruled : number_of_rule c.rule_of-rule.result ≡ rule_of (plan_at c.args.input.plan.now c.args.i) = c.rule_of-rule.ensures ∙ rule-here c.args.input.plan.now c.args.i c.args.node c.requires.i_bound.0 c.requires.i_bound.1 in
    ap comparing (sym (here-ruled)) ∙ (sym c.compares.ensures ∙ c.if-not-compares.false)

pub overflow_add-i : goal.overflow_add-i
overflow_add-i c = omega (arith, c.requires.i_bound.0, nodes-few c.args.input.set.now c.args.input.plan.now c.args.input.accepted)

pub returns-then-eq : goal.returns-then-eq
returns-then-eq c =
    let a = c.args in
    c.gives_row.ensures ∙ sym (found-each a.input.plan.now a.i a.node c.requires.i_bound.0 c.requires.i_bound.1 (tables_of a.input.set.now) (whole-input a.input.set.now a.input.plan.now c.args.input.accepted) c.tree_end-f.result c.tree_end-f.ensures (sym (ruled (goal.at.returns-then-eq c).After-rule_of-rule) ∙ search (rules, c.if-eq.ensures)))

pub returns-then-not-compares : goal.returns-then-not-compares
returns-then-not-compares c =
    let a = c.args in
    let r = ruled (goal.at.returns-then-not-compares c).After-rule_of-rule in
    sym (ready-other (tables_of a.input.set.now) (plan_at a.input.plan.now a.i) (ap comparing (sym r) ∙ (sym c.compares.ensures ∙ c.if-not-compares.true)) (λ z. search (rules, c.if-eq.ensures, r ∙ z)))

pub sequences_at-requires-clause-i_bound : goal.sequences_at-requires-clause-i_bound
sequences_at-requires-clause-i_bound c = (c.requires.i_bound.0, c.requires.i_bound.1, compared (goal.at.sequences_at-requires-clause-i_bound c).Else-not-compares)

pub returns : goal.returns
returns c =
    let a = c.args in
    none_by c.is_none.result c.sequences_at.result c.is_none.ensures ∙ ready-same (tables_of a.input.set.now) (plan_at a.input.plan.now a.i) c.sequences_at.result (compared (goal.at.returns c).Else-not-compares) c.sequences_at.ensures
