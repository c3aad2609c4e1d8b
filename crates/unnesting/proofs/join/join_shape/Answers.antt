use native.Mathlib.Omega.{arith}
use Prim.Native.Nat.{◌<◌}
use mathlib.Core.Path.{◌≡◌, sym, ap, ◌∙◌}
use mathlib.Core.Bool.{true}
use Rattle.reading.specs.Plan.{nodes_of}
use Rattle.reading.proofs.PlanBytes.{PlanPassed, plan_passed}
use Rattle.unnesting.specs.Images.{is_named}
use Rattle.unnesting.specs.Links.{key_link}
use Rattle.unnesting.proofs.Demand3.{input-parts}
use Rattle.unnesting.proofs.JoinLaws.{join_second, quantified, join_unlinked, join_meets, semi-unequal, semi-made, pair_made}
use Rattle.unnesting.proofs.join.join_shape.Goals as goal
use Rattle.unnesting.proofs.join.join_shape.Goals.{After-second-f, Start}

passed : (c : Start) → PlanPassed c.args.place.set.now c.args.place.plan.now
passed c = plan_passed _ _ (input-parts _ _ c.args.place.accepted).1

second : (c : After-second-f) → c.second-f.result < nodes_of c.args.place.plan.now
second c =
    let here-passed : PlanPassed c.args.place.set.now c.args.place.plan.now = plan_passed _ _ (input-parts _ _ c.args.place.accepted).1 in
    let p = here-passed in
    let a = c.args.place in
    let b = c.requires in
    join_second _ p.whole _ a.within _ c.second-f.ensures _ a.is b

pub unprojected_at-s-requires : goal.unprojected_at-s-requires
unprojected_at-s-requires c = ((passed (goal.at.unprojected_at-s-requires c).Start).whole, second ((goal.at.unprojected_at-s-requires c).After-second-f))

pub returns-in_err-link : goal.returns-in_err-link
returns-in_err-link c =
    let p = passed (goal.at.returns-in_err-link c).Start in
    let a = c.args.place in
    let b = c.requires in
    rw c.from_residual.ensures
    (join_unlinked _ _ _ p.known p.whole _ a.within _ c.second-f.ensures _ c.unprojected_at-s.ensures _ a.is b (sym c.link_at.ensures.result_value ∙ ap key_link c.in_err-link.was))

pub overflow_add-s : goal.overflow_add-s
overflow_add-s c = omega (arith, (passed (goal.at.overflow_add-s c).Start).known.most, c.unprojected_at-s.ensures.inside)

pub returns-then-not-avoids_at : goal.returns-then-not-avoids_at
returns-then-not-avoids_at c =
    let p = passed (goal.at.returns-then-not-avoids_at c).Start in
    let a = c.args.place in
    let b = c.requires in
    join_meets _ _ _ p.known p.whole _ a.within _ c.second-f.ensures _ c.unprojected_at-s.ensures _ a.is b _ _ c.in_ok-link.link.comparison (sym c.link_at.ensures.result_value ∙ ap key_link c.in_ok-link.was) (sym c.avoids_at.ensures ∙ c.if-not-avoids_at.true)

pub without_select-requires : goal.without_select-requires
without_select-requires c = omega (arith, (passed (goal.at.without_select-requires c).Start).known.most, c.unprojected_at-s.ensures.inside)

pub returns-in-Fold : goal.returns-in-Fold
returns-in-Fold c =
    let p = passed (goal.at.returns-in-Fold c).Start in
    let a = c.args.place in
    let b = c.requires in
    let s : is_named c.in_ok-link.link.comparison ≡ true = rw c.in_ok-link.was at c.link_at.ensures.result_value_2 in
    rw (c.without_select.ensures, c.pair_node.ensures)
    (pair_made _ _ _ p.known p.whole _ a.within _ c.second-f.ensures _ c.unprojected_at-s.ensures _ a.is b c.in-Fold.is _ _ c.in_ok-link.link.comparison (sym c.link_at.ensures.result_value ∙ ap key_link c.in_ok-link.was) s (sym c.avoids_at.ensures ∙ c.if-not-avoids_at.false))

pub returns-in_default-comparison : goal.returns-in_default-comparison
returns-in_default-comparison c =
    let p = passed (goal.at.returns-in_default-comparison c).Start in
    let a = c.args.place in
    let b = c.requires in
    semi-unequal _ _ _ p.known p.whole _ a.within _ c.second-f.ensures _ c.unprojected_at-s.ensures _ a.is b (quantified b c.in_default.not-Fold) _ _ c.in_ok-link.link.comparison (sym c.link_at.ensures.result_value ∙ ap key_link c.in_ok-link.was) c.in_default-comparison.not-Equal

pub without_select-requires-in-Equal : goal.without_select-requires-in-Equal
without_select-requires-in-Equal c = omega (arith, (passed (goal.at.without_select-requires-in-Equal c).Start).known.most, c.unprojected_at-s.ensures.inside)

pub returns-in-Equal : goal.returns-in-Equal
returns-in-Equal c =
    let p = passed (goal.at.returns-in-Equal c).Start in
    let a = c.args.place in
    let b = c.requires in
    rw (c.without_select-in-Equal.ensures, c.semi_node-first.ensures)
    (semi-made _ _ _ p.known p.whole _ a.within _ c.second-f.ensures _ c.unprojected_at-s.ensures _ a.is b (quantified b c.in_default.not-Fold) _ _ c.in_ok-link.link.comparison (sym c.link_at.ensures.result_value ∙ ap key_link c.in_ok-link.was) c.in-Equal.is (sym c.avoids_at.ensures ∙ c.if-not-avoids_at.false))
