use native.Mathlib.Omega.{arith}
use Prim.Native.Nat.{◌<◌}
use mathlib.Core.Path.{sym, ◌∙◌}
use Rattle.unnesting.proofs.CountLaws.{Placed, place-below, semi-inside, count_unkeyed, count-selected, count-other}
use Rattle.unnesting.proofs.count.count_under.Goals as goal
use Rattle.unnesting.proofs.count.count_under.Goals.{After-second-f, Start}

below : (c : Start) → c.args.place.i < 64
below c = place-below c.args.place.set.now c.args.place.plan.now c.args.place.accepted c.args.place.i c.args.place.within

placed : (c : After-second-f) → Placed c.args.place.set.now c.args.place.plan.now c.args.place.i c.args.place.node c.second-f.result
placed c = record { accepted = c.args.place.accepted; within = c.args.place.within; is = c.args.place.is; ends = c.second-f.ensures }

pub is_keyed-requires : goal.is_keyed-requires
is_keyed-requires c = (semi-inside (placed ((goal.at.is_keyed-requires c).After-second-f)) c.requires).0

pub returns-then-not-is_keyed : goal.returns-then-not-is_keyed
returns-then-not-is_keyed c = count_unkeyed (placed (goal.at.returns-then-not-is_keyed c).After-second-f) c.requires c.args.c (sym c.is_keyed.ensures ∙ c.if-not-is_keyed.true)

pub overflow_add-f : goal.overflow_add-f
overflow_add-f c =
    let f = (semi-inside (placed (goal.at.overflow_add-f c).After-second-f) c.requires).1 in
    omega (arith, place-below c.args.place.set.now c.args.place.plan.now c.args.place.accepted c.second-f.result f)

pub count_change-requires : goal.count_change-requires
count_change-requires c = below (goal.at.count_change-requires c).Start

pub returns-in-Select : goal.returns-in-Select
returns-in-Select c =
    let k = sym c.is_keyed.ensures ∙ c.if-not-is_keyed.false in
    rw c.count_change.ensures (count-selected (placed (goal.at.returns-in-Select c).After-second-f) c.requires c.args.c k c.node_at-inner.result c.node_at-inner.ensures c.in-Select.is)

pub count_change-requires-in_default : goal.count_change-requires-in_default
count_change-requires-in_default c = below (goal.at.count_change-requires-in_default c).Start

pub returns-in_default : goal.returns-in_default
returns-in_default c =
    let k = sym c.is_keyed.ensures ∙ c.if-not-is_keyed.false in
    rw c.count_change-in_default.ensures (count-other (placed (goal.at.returns-in_default c).After-second-f) c.requires c.args.c k c.node_at-inner.result c.node_at-inner.ensures c.in_default.not-Select)
