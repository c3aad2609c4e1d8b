use mathlib.Core.Path.{sym, ◌∙◌}
use Rattle.unnesting.proofs.MoveLaws.{move-none, move-made}
use Rattle.unnesting.proofs.shape.move_shape.Goals as goal

pub returns-then-not-local_at : goal.returns-then-not-local_at
returns-then-not-local_at c =
    let a = c.args in
    let p = c.requires in
    move-none a.place.set.now a.place.plan.now a.place.accepted a.place.i a.place.within a.place.node a.place.is _ _ _ c.second-f.ensures p.0 p.1
    (sym c.local_at.ensures ∙ c.if-not-local_at.true)

pub returns : goal.returns
returns c =
    let a = c.args in
    let p = c.requires in
    rw (c.plain_node.ensures, c.plain_node-2.ensures)
    (move-made a.place.set.now a.place.plan.now a.place.accepted a.place.i a.place.within a.place.node a.place.is _ _ _ c.second-f.ensures p.0 p.1
    (sym c.local_at.ensures ∙ c.if-not-local_at.false))
