use borrow.Author.Count.{below_more}
use native.Mathlib.Omega.{arith}
use mathlib.Core.Path.{sym, ap, ◌∙◌}
use Rattle.reading.specs.Plan.{fields_allowed, nodes_allowed}
use Rattle.reading.proofs.Laws.{all-holds, all-fails}
use Rattle.reading.proofs.plan.nodes_allowed.Goals as goal

pub returns-then-not-fields_allowed : goal.returns-then-not-fields_allowed
unfolding nodes_allowed
returns-then-not-fields_allowed c =
    let l = c.loop-i in
    sym (all-fails _ _ l.i (omega arith)
    (sym (c.fields_allowed.ensures ∙ ap (fields_allowed _) c.node_part.ensures) ∙ c.if-not-fields_allowed.true))

pub loop-i-preserved : goal.loop-i-preserved
loop-i-preserved c =
    let l = c.loop-i in
    below_more _ _ l.invariant
    (sym (c.fields_allowed.ensures ∙ ap (fields_allowed _) c.node_part.ensures) ∙ c.if-not-fields_allowed.false)

pub returns : goal.returns
unfolding nodes_allowed
returns c =
    let l = c.loop-i in
    sym (all-holds _ _ (λ k h. l.invariant k (omega arith)))
