use mathlib.Core.Path.{sym, ◌∙◌}
use Rattle.unnesting.proofs.MoveLaws.{cross-none, cross-made}
use Rattle.unnesting.proofs.shape.cross_shape.Goals as goal

pub returns-then-not-is_closed : goal.returns-then-not-is_closed
returns-then-not-is_closed c =
    let a = c.args in
    let p = c.requires in
    cross-none a.place.set.now a.place.plan.now a.place.accepted a.place.i a.place.within a.place.node a.place.is _ _ _ c.second-f.ensures p (sym c.is_closed.ensures ∙ c.if-not-is_closed.true)

pub returns : goal.returns
returns c =
    let a = c.args in
    let p = c.requires in
    rw c.plain_node.ensures
    (cross-made a.place.set.now a.place.plan.now a.place.accepted a.place.i a.place.within a.place.node a.place.is _ _ _ c.second-f.ensures p (sym c.is_closed.ensures ∙ c.if-not-is_closed.false))
