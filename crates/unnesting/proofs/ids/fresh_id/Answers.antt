use native.Mathlib.Omega.{arith}
use mathlib.Core.Path.{◌≡◌, sym, ap, ◌∙◌}
use Rattle.algebra.specs.Rules.{lacking}
use Rattle.reading.specs.TableSet.{tables_of}
use Rattle.reading.specs.Plan.{nodes_of}
use Rattle.reading.specs.Tree.{operator_at}
use Rattle.reading.specs.Nodes.{operator_new, ids_of}
use Rattle.reading.proofs.Places.{whole-introduced}
use Rattle.reading.proofs.IdLaws.{ids_more}
use Rattle.reading.proofs.FlagLaws.{members_swap}
use Rattle.unnesting.specs.Ids.{Holding}
use Rattle.unnesting.proofs.BitLaws.{holds_same}
use Rattle.unnesting.proofs.ids.fresh_id.Goals as goal

pub loop-i-init : goal.loop-i-init
unfolding ids_of
loop-i-init c = c.none-ids.ensures

pub loop-i-preserved : goal.loop-i-preserved
loop-i-preserved c =
    let a = c.args in
    let T = tables_of a.set.now in
    let p = a.plan.now in
    let l = c.loop-i in
    let k : Holding l.ids (operator_new T (operator_at p l.i)) c.put_node.new.self = rw (← c.node_at.ensures) c.put_node.ensures in
    rw ids_more (holds_same (λ j h. (members_swap (operator_new T (operator_at p l.i)) (ids_of T p l.i 0)).at j) (k.after _ l.invariant))

pub returns : goal.returns
returns c =
    let a = c.args in
    let T = tables_of a.set.now in
    let p = a.plan.now in
    let l = c.loop-i in
    let q : l.i ≡ nodes_of p = omega (arith, c.nodes_of-i-end.ensures.0) in
    c.smallest_free.ensures.found _ l.invariant ∙ ap (lacking 256 0) (ap (λ m. ids_of T p m 0) q ∙ sym (whole-introduced p c.requires T))
