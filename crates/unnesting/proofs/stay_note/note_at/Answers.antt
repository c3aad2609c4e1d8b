use Rattle.std.specs.Prelude.{Option, None, Some, is_none}
use native.Mathlib.Omega.{arith}
use borrow.Author.Rules.{rules}
use mathlib.Core.Bool.{true, false≢true}
use mathlib.Core.Path.{◌≡◌, refl, sym, ap, ◌∙◌}
use Prim.Native.Nat.{ℕ, ◌<◌}
use Rattle.algebra.specs.Rules.{rule_of}
use Rattle.algebra.specs.StayNotes.{comparing}
use Rattle.reading.specs.Plan.{nodes_of}
use Rattle.reading.specs.Tree.{operator_of, plan_at}
use Rattle.reading.specs.declared.plan.Node.{Node}
use Rattle.unnesting.specs.Shapes.{operator_rule}
use Rattle.unnesting.proofs.RuleLaws.{rule-at}
use Rattle.unnesting.proofs.AttemptLaws.{left-shape}
use Rattle.unnesting.proofs.NoteLaws.{note_outside, note_other, note_impossible, note_compared}
use Rattle.unnesting.proofs.stay_note.note_at.Goals as goal
use Rattle.unnesting.proofs.stay_note.note_at.Goals.{After-compares, Else-nodes_of-place, Else-not-compares}

inside : (c : Else-nodes_of-place) → c.args.place < nodes_of c.args.input.plan.now
inside c = omega (arith, c.if-nodes_of-place.false, c.nodes_of.ensures.0)

rule : (c : After-compares) → c.compares.result ≡ comparing (rule_of (plan_at c.args.input.plan.now c.args.place))
rule c =
    let here-inside : c.args.place < nodes_of c.args.input.plan.now = omega (arith, c.if-nodes_of-place.false, c.nodes_of.ensures.0) in
    c.compares.ensures ∙ ap comparing (c.rule_of.ensures ∙ (ap (λ (x : Node). operator_rule (operator_of x)) c.node_at-node.ensures ∙ sym (rule-at c.args.input.plan.now c.args.place (here-inside))))

compared : (c : Else-not-compares)
    → c.compares.result ≡ comparing (rule_of (plan_at c.args.input.plan.now c.args.place)) → comparing (rule_of (plan_at c.args.input.plan.now c.args.place)) ≡ true
compared c rule = sym rule ∙ c.if-not-compares.false

pub returns-then-nodes_of-place : goal.returns-then-nodes_of-place
returns-then-nodes_of-place c =
    note_outside c.args.input.set.now c.args.input.plan.now c.args.input.accepted c.args.place (omega (arith, c.if-nodes_of-place.true, c.nodes_of.ensures.0))

pub returns-then-not-compares : goal.returns-then-not-compares
returns-then-not-compares c =
    note_other c.args.input.set.now c.args.input.plan.now c.args.input.accepted c.args.place (inside (goal.at.returns-then-not-compares c).Else-nodes_of-place) (sym (rule (goal.at.returns-then-not-compares c).After-compares) ∙ c.if-not-compares.true)

pub sequences_at-note-requires-clause-i_bound : goal.sequences_at-note-requires-clause-i_bound
sequences_at-note-requires-clause-i_bound c =
    let g = goal.at.sequences_at-note-requires-clause-i_bound c in
    (inside g.Else-nodes_of-place, c.node_at-node.ensures, compared g.Else-not-compares (rule g.After-compares))

pub sequences_at-note-requires-clause-i_nonzero : goal.sequences_at-note-requires-clause-i_nonzero
sequences_at-note-requires-clause-i_nonzero c =
    left-shape c.args.input.set.now c.args.input.plan.now c.args.input.accepted c.args.place (inside (goal.at.sequences_at-note-requires-clause-i_nonzero c).Else-nodes_of-place) _ _ _ c.in-Some.ensures

pub returns-in-None : goal.returns-in-None
returns-in-None c =
    note_impossible c.args.input.set.now c.args.input.plan.now c.args.input.accepted c.args.place (inside (goal.at.returns-in-None c).Else-nodes_of-place) c.in-None.ensures

none-alone : (note : Option ℕ) → is_none note ≡ true → None ≡ note
none-alone None e = refl
none-alone (Some position) e = absurd (false≢true e)

pub returns-then-is_none : goal.returns-then-is_none
returns-then-is_none c =
    none-alone c.sequences_at-note.result (search rules)
    ∙ note_compared c.args.input.set.now c.args.input.plan.now c.args.input.accepted c.args.place (inside (goal.at.returns-then-is_none c).Else-nodes_of-place) (compared (goal.at.returns-then-is_none c).Else-not-compares (rule (goal.at.returns-then-is_none c).After-compares)) _ _ _ c.in-Some.ensures _ c.sequences_at-note.ensures

pub returns-else-is_none : goal.returns-else-is_none
returns-else-is_none c =
    note_compared c.args.input.set.now c.args.input.plan.now c.args.input.accepted c.args.place (inside (goal.at.returns-else-is_none c).Else-nodes_of-place) (compared (goal.at.returns-else-is_none c).Else-not-compares (rule (goal.at.returns-else-is_none c).After-compares)) _ _ _ c.in-Some.ensures _ c.sequences_at-note.ensures
