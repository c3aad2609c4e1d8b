use mathlib.Core.List.{List, [], ◌∷◌}
use mathlib.Core.Path.{◌≡◌, refl, sym, ap, ◌∙◌, fun_ext}
use mathlib.Core.Bool.{Bool, cond}
use Prim.Native.Nat.{ℕ, ◌+◌, ◌*◌, ◌-◌, ◌≤◌}
use native.Mathlib.Omega.{arith}
use lib.ListN.{length, take, drop, length-drop}
use Rattle.algebra.specs.Lists.{filter}
use Rattle.algebra.specs.Plans.{Row}
use Rattle.reporting.specs.Rows.{chunk}
use Rattle.reporting.specs.Sides.{condition_holds, ConditionInside}
use Rattle.reporting.proofs.Chunks.{next_place}
use Rattle.reporting.proofs.Sides.{condition_wider, condition_left, condition_right}
use Rattle.reporting.proofs.Copies.{written_copy}
use Rattle.reporting.proofs.Building.{filter-kept, building_places, building_start, building_row, kept-below, kept-turn, skipped_turn, kept-done}
use Rattle.reporting.proofs.select.select.Goals as goal
use Rattle.reporting.proofs.select.select.Goals.{then-condition_holds, else-condition_holds}
use Rattle.reporting.proofs.select.select.Goals.{In-loop-i}

-- the row at hand lies within the cells, and its place at the front is no higher than it stands
in_row : (c : In-loop-i) → let w = length c.args.ids.now in let src = c.args.own + c.loop-i.i * w in (src + w ≤ length c.loop-i.cells) × (c.loop-i.out * w ≤ src)
in_row c = let p = c.loop-i.invariant.0 in omega (arith, building_row p c.loop-i-test.true, kept-below p, c.requires)

pub loop-i-init : goal.loop-i-init
loop-i-init c =
    let a = c.args in
    let p = condition_holds c.find_test-test.result [] in
    (building_places (building_start a.cells.now (sym (filter-kept p (chunk a.m (length a.ids.now) (drop a.own a.cells.now))))), refl)

pub condition_holds-requires : goal.condition_holds-requires
condition_holds-requires c =
    let a = c.args in
    let w = length a.ids.now in
    condition_wider c.find_test-test.result 0 w (length c.loop-i.cells - 0) (length c.loop-i.cells - (a.own + c.loop-i.i * w)) c.find_test-test.ensures.inside (omega arith) (omega (arith, in_row (goal.at.condition_holds-requires c).In-loop-i))

pub loop-i-preserved : goal.loop-i-preserved
loop-i-preserved c =
    let a = c.args in
    let l = c.loop-i in
    let w = length a.ids.now in
    let src = a.own + l.i * w in
    let test = c.find_test-test.result in
    let row : Row = take w (drop src l.cells) in
    let inside : ConditionInside test 0 w = c.find_test-test.ensures.inside in
    let met = condition_right 0 w [] (drop src l.cells) test inside ∙ condition_left 0 w (drop 0 l.cells) (drop src l.cells) test inside ∙ sym c.condition_holds.ensures in
    let p = l.invariant.0 in
    let h = c.loop-i-test.true in
    let (within, below) = in_row (goal.at.loop-i-preserved c).In-loop-i in
    let long : length (drop src l.cells) ≡ length l.cells - src = length-drop src l.cells in
    let j = c.if-condition_holds in
    elim j.branch [
      | then-condition_holds v ↦ (
        building_places (kept-turn p h row j.cells j.out (j.out * w) (ap (λ b. cond b (row ∷ []) []) (met ∙ v.if-condition_holds.true)) (written_copy l.cells j.cells (drop src l.cells) (l.out * w) w (v.cells-is ∙ v.copy_row.ensures) (omega arith) (omega arith)) (omega arith) v.out-is (ap (λ (n : ℕ). n * w) v.out-is ∙ sym (next_place l.out w))),
        ap length v.cells-is ∙ v.copy_row.auto.cells ∙ l.invariant.1,
      )
      | else-condition_holds v ↦ (
        building_places (skipped_turn p h j.cells j.out (j.out * w) (ap (λ b. cond b (row ∷ []) []) (met ∙ v.if-condition_holds.false)) v.cells-is v.out-is (ap (λ (n : ℕ). n * w) v.out-is)),
        ap length v.cells-is ∙ l.invariant.1,
      )
    ]

pub returns : goal.returns
returns c =
    let a = c.args in
    let rows : List Row = chunk a.m (length a.ids.now) (drop a.own a.cells.now) in
    let g = kept-done c.loop-i.invariant.0 c.loop-i-test.false in
    record { is = g.is ∙ ap (λ (p : Row → Bool). filter p rows) (fun_ext (λ q. c.find_test-test.ensures.same [] q)); few = g.few }
