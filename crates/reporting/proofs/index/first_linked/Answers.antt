use mathlib.Core.Path.{◌≡◌, refl, sym, ◌∙◌}
use mathlib.Core.List.{List}
use Prim.Native.Nat.{ℕ, ◌+◌, ◌*◌, ◌-◌, ◌≤◌, ◌<◌}
use native.Mathlib.Omega.{arith}
use lib.ListN.{length, drop, get_or}
use Rattle.algebra.specs.Plans.{Row}
use Rattle.reporting.specs.Held.{held_in}
use Rattle.reporting.specs.Index.{slot_of}
use Rattle.reporting.proofs.Chunks.{turns, length-chunk}
use Rattle.reporting.proofs.Chains.{walk_inside, walk_less, walk-on, found_walk}
use Rattle.reporting.proofs.Earliest.{key_at, earliest_start, earliest-here, earliest-next, earliest-end}
use Rattle.reporting.proofs.index.first_linked.Goals as goal
use Rattle.reporting.proofs.index.first_linked.Goals.{In-loop-h}

-- the row at hand lies within the cells
inside : (c : In-loop-h) → let r = c.args.rows in (c.loop-h.h - 1 < r.count) × (r.at + (c.loop-h.h - 1) * length r.columns.now + length r.columns.now ≤ length c.args.cells.now)
inside c =
    let a = c.args in
    let r = a.rows in
    let l = c.loop-h in
    let i : l.h - 1 < r.count = walk_inside r.count a.index.next.now l.h l.invariant.0 c.loop-h-test.true in
    (i, omega (arith, turns r.count (length r.columns.now) (l.h - 1) i, c.requires.inside))

pub loop-h-init : goal.loop-h-init
loop-h-init c =
    let a = c.args in
    let r = a.rows in
    let rs : List Row = held_in r a.cells.now in
    let many : length rs ≡ r.count = length-chunk r.count (length r.columns.now) (drop r.at a.cells.now) in
    let b = c.bucket in
    let h : ℕ = get_or a.index.heads.now b.result 0 in
    let x = c.requires.linked.index in (
      found_walk (slot_of a.index.keys.right) rs r.count many a.index.heads.now a.index.next.now x b.result b.ensures.0 h refl,
      earliest_start a.index.keys.right rs r.count a.index.heads.now a.index.next.now a.key b.result h many x b.ensures.0 b.ensures.1 refl,
    )

pub overflow_mul-i : goal.overflow_mul-i
overflow_mul-i c = let h = inside (goal.at.overflow_mul-i c).In-loop-h in omega (arith, h.0, h.1, c.requires.inside, c.well_formed)

pub overflow_add-rows : goal.overflow_add-rows
overflow_add-rows c = let h = inside (goal.at.overflow_add-rows c).In-loop-h in omega (arith, h.0, h.1, c.requires.inside, c.well_formed)

pub overflow_add-rows-in-loop-h : goal.overflow_add-rows-in-loop-h
overflow_add-rows-in-loop-h c = let h = inside (goal.at.overflow_add-rows-in-loop-h c).In-loop-h in omega (arith, h.0, h.1, c.requires.inside, c.well_formed)

pub offset_bounds-cells-rows : goal.offset_bounds-cells-rows
offset_bounds-cells-rows c = let h = inside (goal.at.offset_bounds-cells-rows c).In-loop-h in omega (arith, h.0, h.1, c.requires.inside, c.well_formed)

pub bounds-cells-rows : goal.bounds-cells-rows
bounds-cells-rows c = let h = inside (goal.at.bounds-cells-rows c).In-loop-h in omega (arith, h.0, h.1, c.requires.inside, c.well_formed)

pub returns-then-cells-rows : goal.returns-then-cells-rows
returns-then-cells-rows c =
    let a = c.args in
    let r = a.rows in
    let l = c.loop-h in
    sym (l.invariant.1 ∙ earliest-here r.at r.count (length r.columns.now) a.cells.now a.index.keys.right a.key a.index.next.now l.h l.invariant.0 c.loop-h-test.true (inside (goal.at.returns-then-cells-rows c).In-loop-h).0 c.requires.inside.0 c.if-cells-rows.true)

pub offset_bounds-index-i : goal.offset_bounds-index-i
offset_bounds-index-i c = omega (arith, (inside (goal.at.offset_bounds-index-i c).In-loop-h).0, c.requires.linked.all-next, c.well_formed)

pub bounds-index-i : goal.bounds-index-i
bounds-index-i c = omega (arith, (inside (goal.at.bounds-index-i c).In-loop-h).0, c.requires.linked.all-next, c.well_formed)

pub loop-h-smaller : goal.loop-h-smaller
loop-h-smaller c =
    let a = c.args in
    let l = c.loop-h in
    walk_less a.rows.count a.index.next.now l.h l.invariant.0 c.loop-h-test.true (get_or a.index.next.now (l.h - 1) 0) refl

pub loop-h-preserved : goal.loop-h-preserved
loop-h-preserved c =
    let a = c.args in
    let r = a.rows in
    let l = c.loop-h in
    let h : ℕ = get_or a.index.next.now (l.h - 1) 0 in (
      walk-on r.count a.index.next.now l.h l.invariant.0 c.loop-h-test.true h refl,
      l.invariant.1 ∙ earliest-next r.at r.count (length r.columns.now) a.cells.now a.index.keys.right a.key a.index.next.now l.h l.invariant.0 c.loop-h-test.true (inside (goal.at.loop-h-preserved c).In-loop-h).0 c.requires.inside.0 h refl c.if-cells-rows.false,
    )

pub returns : goal.returns
returns c =
    let a = c.args in
    let l = c.loop-h in
    sym (l.invariant.1 ∙ earliest-end (key_at a.index.keys.right a.key (held_in a.rows a.cells.now)) a.rows.count a.index.next.now l.h c.loop-h-test.false)
