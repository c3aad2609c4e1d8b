use mathlib.Core.Path.{◌≡◌, refl, sym, ap, ap₂, ◌∙◌}
use mathlib.Core.Bool.{Bool, ◌||◌}
use mathlib.Core.List.{List}
use Prim.Native.Nat.{ℕ, suc, ◌+◌, ◌*◌, ◌-◌, ◌≤◌, ◌<◌}
use native.Mathlib.Omega.{arith}
use lib.ListN.{length, get_or, take, drop}
use Rattle.algebra.specs.Lists.{any, same}
use Rattle.algebra.specs.Plans.{Row}
use Rattle.reporting.specs.Rows.{chunk}
use Rattle.reporting.specs.Index.{row_slot, nth, chain}
use Rattle.reporting.proofs.Chunks.{turns, length-chunk, part-row, part_length}
use Rattle.reporting.proofs.Numbers.{chunk-nth}
use Rattle.reporting.proofs.Chains.{walk_inside, walk-next, walk_less, walk-on, kept_walk, kept_any, chain-end}
use Rattle.reporting.proofs.Firsts.{same-only}
use Rattle.reporting.proofs.distinct.seen_linked.Goals as goal
use Rattle.reporting.proofs.distinct.seen_linked.Goals.{After-same_row, Else-steps-eq-LONG_CHAIN, In-loop-h}

-- the link at hand is one
linked : (c : In-loop-h) → 0 < c.loop-h.h
linked c = omega (arith, c.loop-h-test.true)

-- the row at hand lies within the cells
inside : (c : In-loop-h) → (c.loop-h.h - 1 < c.args.k) × ((c.loop-h.h - 1) * c.args.w + c.args.w ≤ length c.args.cells.now)
inside c =
    let a = c.args in
    let l = c.loop-h in
    let i : l.h - 1 < a.k = walk_inside a.k a.next.now l.h l.invariant.0 (linked (c)) in
    (i, omega (arith, turns a.k a.w (l.h - 1) i, c.requires.w_in_bounds))

-- one step more is within the bound
step : (c : Else-steps-eq-LONG_CHAIN) → c.loop-h.steps + 1 ≤ 8
step c = omega (arith, c.loop-h.invariant.2, c.if-steps-eq-LONG_CHAIN.false)

-- the row at hand, as it was compared
row : (c : After-same_row) → same (nth (chunk c.args.k c.args.w c.args.cells.now) (c.loop-h.h - 1)) (take c.args.w (drop c.args.src c.args.cells.now)) ≡ c.same_row.result
row c =
    let here-inside : (c.loop-h.h - 1 < c.args.k) × ((c.loop-h.h - 1) * c.args.w + c.args.w ≤ length c.args.cells.now) = let here-linked : 0 < c.loop-h.h = omega (arith, c.loop-h-test.true) in
    let a = c.args in
    let l = c.loop-h in
    let i : l.h - 1 < a.k = walk_inside a.k a.next.now l.h l.invariant.0 (here-linked) in
    (i, omega (arith, turns a.k a.w (l.h - 1) i, c.requires.w_in_bounds)) in
    let a = c.args in
    let l = c.loop-h in
    ap₂ same (chunk-nth a.k a.w a.cells.now (l.h - 1) (here-inside).0 ∙ part-row ((l.h - 1) * a.w) a.w a.cells.now) (part-row a.src a.w a.cells.now) ∙ sym c.same_row.ensures

pub loop-h-init : goal.loop-h-init
loop-h-init c =
    let a = c.args in
    let rs : List Row = chunk a.k a.w a.cells.now in
    let h : ℕ = get_or a.heads.now a.b 0 in
    let x = c.requires.index in
    let row : Row = take a.w (drop a.src a.cells.now) in (
      kept_walk row_slot rs a.k (length-chunk a.k a.w a.cells.now) a.heads.now a.next.now x a.b c.requires.b_bound.0 h refl,
      kept_any row_slot rs a.k (length-chunk a.k a.w a.cells.now) a.heads.now a.next.now x a.b c.requires.b_bound.0 h refl (λ q. same q row) (same-only row_slot a.b row c.requires.b_bound.1),
      omega arith,
    )

pub seen-requires : goal.seen-requires
seen-requires c = c.requires.w_in_bounds

pub returns-then-steps-eq-LONG_CHAIN : goal.returns-then-steps-eq-LONG_CHAIN
returns-then-steps-eq-LONG_CHAIN c = c.seen.ensures

pub overflow_add-steps : goal.overflow_add-steps
overflow_add-steps c = omega (arith, step ((goal.at.overflow_add-steps c).Else-steps-eq-LONG_CHAIN))

pub overflow_sub-i : goal.overflow_sub-i
overflow_sub-i c = omega (arith, linked (goal.at.overflow_sub-i c).In-loop-h)

pub overflow_mul-at : goal.overflow_mul-at
overflow_mul-at c = omega (arith, (inside (goal.at.overflow_mul-at c).In-loop-h).0, (inside (goal.at.overflow_mul-at c).In-loop-h).1, c.requires.w_in_bounds, c.well_formed)

pub overflow_add-at : goal.overflow_add-at
overflow_add-at c = omega (arith, (inside (goal.at.overflow_add-at c).In-loop-h).0, (inside (goal.at.overflow_add-at c).In-loop-h).1, c.requires.w_in_bounds, c.well_formed)

pub offset_bounds-cells-at : goal.offset_bounds-cells-at
offset_bounds-cells-at c = omega (arith, (inside (goal.at.offset_bounds-cells-at c).In-loop-h).0, (inside (goal.at.offset_bounds-cells-at c).In-loop-h).1, c.requires.w_in_bounds, c.well_formed)

pub slice_bounds-same_row-start : goal.slice_bounds-same_row-start
slice_bounds-same_row-start c = omega (arith, (inside (goal.at.slice_bounds-same_row-start c).In-loop-h).0, (inside (goal.at.slice_bounds-same_row-start c).In-loop-h).1, c.requires.w_in_bounds, c.well_formed)

pub slice_bounds-same_row-end : goal.slice_bounds-same_row-end
slice_bounds-same_row-end c = omega (arith, (inside (goal.at.slice_bounds-same_row-end c).In-loop-h).0, (inside (goal.at.slice_bounds-same_row-end c).In-loop-h).1, c.requires.w_in_bounds, c.well_formed)

pub overflow_add-src : goal.overflow_add-src
overflow_add-src c = omega (arith, (inside (goal.at.overflow_add-src c).In-loop-h).0, (inside (goal.at.overflow_add-src c).In-loop-h).1, c.requires.w_in_bounds, c.well_formed)

pub offset_bounds-cells-src : goal.offset_bounds-cells-src
offset_bounds-cells-src c = omega (arith, (inside (goal.at.offset_bounds-cells-src c).In-loop-h).0, (inside (goal.at.offset_bounds-cells-src c).In-loop-h).1, c.requires.w_in_bounds, c.well_formed)

pub slice_bounds-same_row-start-in-loop-h : goal.slice_bounds-same_row-start-in-loop-h
slice_bounds-same_row-start-in-loop-h c = omega (arith, (inside (goal.at.slice_bounds-same_row-start-in-loop-h c).In-loop-h).0, (inside (goal.at.slice_bounds-same_row-start-in-loop-h c).In-loop-h).1, c.requires.w_in_bounds, c.well_formed)

pub slice_bounds-same_row-end-in-loop-h : goal.slice_bounds-same_row-end-in-loop-h
slice_bounds-same_row-end-in-loop-h c = omega (arith, (inside (goal.at.slice_bounds-same_row-end-in-loop-h c).In-loop-h).0, (inside (goal.at.slice_bounds-same_row-end-in-loop-h c).In-loop-h).1, c.requires.w_in_bounds, c.well_formed)

pub same_row-requires : goal.same_row-requires
same_row-requires c = let a = c.args in omega (arith, part_length ((c.loop-h.h - 1) * a.w) a.w a.cells.now (inside (goal.at.same_row-requires c).In-loop-h).1, part_length a.src a.w a.cells.now c.requires.w_in_bounds.1)

pub returns-then-same_row : goal.returns-then-same_row
returns-then-same_row c =
    let a = c.args in
    let l = c.loop-h in
    let Q : ℕ → Bool = λ i. same (nth (chunk a.k a.w a.cells.now) i) (take a.w (drop a.src a.cells.now)) in
    sym (l.invariant.1 ∙ ap (any Q) (walk-next a.k a.next.now l.h l.invariant.0 (linked (goal.at.returns-then-same_row c).In-loop-h) (get_or a.next.now (l.h - 1) 0) refl) ∙ ap (λ (t : Bool). t || any Q (chain (suc a.k) a.next.now (get_or a.next.now (l.h - 1) 0))) (row (goal.at.returns-then-same_row c).After-same_row ∙ c.if-same_row.true))

pub offset_bounds-next-i : goal.offset_bounds-next-i
offset_bounds-next-i c = omega (arith, (inside (goal.at.offset_bounds-next-i c).In-loop-h).0, c.requires.heads_len, c.well_formed)

pub bounds-next-i : goal.bounds-next-i
bounds-next-i c = omega (arith, (inside (goal.at.bounds-next-i c).In-loop-h).0, c.requires.heads_len, c.well_formed)

pub loop-h-smaller : goal.loop-h-smaller
loop-h-smaller c =
    let a = c.args in
    let l = c.loop-h in
    walk_less a.k a.next.now l.h l.invariant.0 (linked (goal.at.loop-h-smaller c).In-loop-h) (get_or a.next.now (l.h - 1) 0) refl

pub loop-h-preserved : goal.loop-h-preserved
loop-h-preserved c =
    let a = c.args in
    let l = c.loop-h in
    let h : ℕ = get_or a.next.now (l.h - 1) 0 in
    let Q : ℕ → Bool = λ i. same (nth (chunk a.k a.w a.cells.now) i) (take a.w (drop a.src a.cells.now)) in (
      walk-on a.k a.next.now l.h l.invariant.0 (linked (goal.at.loop-h-preserved c).In-loop-h) h refl,
      l.invariant.1 ∙ ap (any Q) (walk-next a.k a.next.now l.h l.invariant.0 (linked (goal.at.loop-h-preserved c).In-loop-h) h refl) ∙ ap (λ (t : Bool). t || any Q (chain (suc a.k) a.next.now h)) (row (goal.at.loop-h-preserved c).After-same_row ∙ c.if-same_row.false),
      step (goal.at.loop-h-preserved c).Else-steps-eq-LONG_CHAIN,
    )

pub returns : goal.returns
returns c =
    let a = c.args in
    let l = c.loop-h in
    let Q : ℕ → Bool = λ i. same (nth (chunk a.k a.w a.cells.now) i) (take a.w (drop a.src a.cells.now)) in
    sym (l.invariant.1 ∙ ap (any Q) (chain-end (suc a.k) a.next.now l.h (omega (arith, c.loop-h-test.false))))
