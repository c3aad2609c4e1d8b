use mathlib.Core.Path.{sym, ◌∙◌}
use Rattle.unnesting.proofs.CountLaws.{Placed, pair_inside, group_unkeyed, group_unlocal, group_makes}
use Rattle.unnesting.proofs.count.group_shape.Goals as goal
use Rattle.unnesting.proofs.count.group_shape.Goals.{After-second-f, then-not-is_keyed-via-then-not-is_keyed, then-not-is_keyed-via-else-not-is_keyed+then-not-local_at}

placed : (c : After-second-f) → Placed c.args.place.set.now c.args.place.plan.now c.args.place.i c.args.place.node c.second-f.result
placed c = record { accepted = c.args.place.accepted; within = c.args.place.within; is = c.args.place.is; ends = c.second-f.ensures }

pub is_keyed-requires : goal.is_keyed-requires
is_keyed-requires c = (pair_inside (placed ((goal.at.is_keyed-requires c).After-second-f)) c.requires).0

pub returns-then-not-is_keyed : goal.returns-then-not-is_keyed
returns-then-not-is_keyed c =
    let p = placed (goal.at.returns-then-not-is_keyed c).After-second-f in
    elim c.then-not-is_keyed.branch [
      | then-not-is_keyed-via-then-not-is_keyed w ↦ group_unkeyed p c.requires _ (sym c.is_keyed.ensures ∙ w.if-not-is_keyed.true)
      | then-not-is_keyed-via-else-not-is_keyed+then-not-local_at w ↦
          group_unlocal p c.requires _ (sym c.is_keyed.ensures ∙ w.if-not-is_keyed.false) (sym w.local_at.ensures ∙ w.if-not-local_at.true)
    ]

pub returns : goal.returns
returns c =
    let k = sym c.is_keyed.ensures ∙ c.if-not-is_keyed.false in
    let g = sym c.local_at.ensures ∙ c.if-not-local_at.false in
    rw c.pair_group.ensures (group_makes (placed (goal.at.returns c).After-second-f) c.requires _ k g)
