use mathlib.Core.Path.{◌≡◌, refl, sym, ap, ◌∙◌}
use mathlib.Core.List.{List, []}
use Prim.Native.Nat.{ℕ, ◌+◌, ◌*◌, ◌-◌, ◌≤◌, ◌<◌}
use native.Mathlib.Omega.{arith}
use borrow.Author.Tests.{not-true, not-false}
use lib.ListN.{length, drop, get_or}
use lib.Seq.{get_or-drop}
use Rattle.algebra.specs.Cells.{is_number}
use Rattle.algebra.specs.Plans.{Row}
use Rattle.reporting.specs.Rows.{rows_from}
use Rattle.reporting.specs.Tallies.{added}
use Rattle.reporting.proofs.Chains.{walk_inside, walk_less, walk-on}
use Rattle.reporting.proofs.Chunks.{turns, length-chunk}
use Rattle.reporting.proofs.Meets.{cells-none, none_met, on_chain, chain_first, chain-none, met_walk, met_cells}
use Rattle.reporting.proofs.Sides.{side_wider, found_wider}
use Rattle.reporting.proofs.Tallies.{Tallying, tallying_start, tallying_few, tallying_done, tallying_room, tallying_met, tallying_not_met}
use Rattle.reporting.proofs.gather.gather_linked.Goals as goal
use Rattle.reporting.proofs.gather.gather_linked.Goals.{then-linked_meets, else-linked_meets}
use Rattle.reporting.proofs.gather.gather_linked.Goals.{In-loop-h, Start, Then-not-is_number}

key-is : (c : Start) → let a = c.args in get_or a.cells.now (a.src + a.index.keys.left) 0 ≡ get_or (drop a.src a.cells.now) a.index.keys.left 0
key-is c = let a = c.args in sym (get_or-drop a.src a.cells.now a.index.keys.left 0)

-- the row at hand is one of the rows, and lies within the cells
inside : (c : In-loop-h) → (c.loop-h.h - 1 < c.args.right.count) × (c.args.right.at + (c.loop-h.h - 1) * (length c.args.right.columns.now) + (length c.args.right.columns.now) ≤ length c.args.cells.now)
inside c =
    let a = c.args in
    let l = c.loop-h in
    let i : l.h - 1 < a.right.count = walk_inside a.right.count a.index.next.now l.h l.invariant.0 c.loop-h-test.true in
    (i, omega (arith, turns a.right.count (length a.right.columns.now) (l.h - 1) i, c.requires.inside.held))

-- a key that is no number meets no row: nothing is added
unmet : (c : Then-not-is_number) → let a = c.args in Tallying a.found.now (drop a.src a.cells.now) (rows_from a.right.at a.right.count (length a.right.columns.now) a.cells.now) [] c.none-tally.result
unmet c =
    let here-key-is : let a = c.args in get_or a.cells.now (a.src + a.index.keys.left) 0 ≡ get_or (drop a.src a.cells.now) a.index.keys.left 0 = let a = c.args in sym (get_or-drop a.src a.cells.now a.index.keys.left 0) in
    let a = c.args in
    let left : Row = drop a.src a.cells.now in
    let all : List Row = rows_from a.right.at a.right.count (length a.right.columns.now) a.cells.now in
    let off = ap is_number (sym (here-key-is)) ∙ sym c.is_number.ensures ∙ not-true c.is_number.result c.if-not-is_number.true-raw in
    tallying_start a.found.now left all [] c.none-tally.result ((none_met a.found.now left a.index.keys.left a.index.keys.right c.requires.indexed.equals off all).1 ∙ sym (cells-none a.found.now left)) c.none-tally.ensures.0 c.none-tally.ensures.1

pub returns-then-not-is_number : goal.returns-then-not-is_number
returns-then-not-is_number c =
    let a = c.args in
    let cells = a.cells.now in
    tallying_done a.found.now (drop a.src cells) (rows_from a.right.at a.right.count (length a.right.columns.now) cells) [] c.none-tally.result (unmet (goal.at.returns-then-not-is_number c).Then-not-is_number) refl c.result.result c.result.ensures

pub loop-h-init : goal.loop-h-init
loop-h-init c =
    let a = c.args in
    let b = c.bucket.result in
    let h : ℕ = (get_or c.args.index.heads.now c.bucket.result 0) in
    let key = get_or a.cells.now (a.src + a.index.keys.left) 0 in
    let left : Row = drop a.src a.cells.now in
    let all : List Row = rows_from a.right.at a.right.count (length a.right.columns.now) a.cells.now in
    let same = met_cells a.found.now left a.index.keys.left a.index.keys.right c.requires.indexed.equals a.right.at a.right.count (length a.right.columns.now) a.cells.now a.index.heads.now a.index.next.now c.requires.indexed.linked key b h (key-is (goal.at.loop-h-init c).Start) c.bucket.ensures.0 c.bucket.ensures.1 refl in (
      met_walk a.found.now left a.index.keys.left a.index.keys.right c.requires.indexed.equals a.right.at a.right.count (length a.right.columns.now) a.cells.now a.index.heads.now a.index.next.now c.requires.indexed.linked key b h (key-is (goal.at.loop-h-init c).Start) c.bucket.ensures.0 c.bucket.ensures.1 refl,
      tallying_start a.found.now left all (on_chain a.right.count all a.index.next.now h) c.none-tally.result same c.none-tally.ensures.0 c.none-tally.ensures.1,
    )

pub overflow_mul-at : goal.overflow_mul-at
overflow_mul-at c = omega (arith, (inside ((goal.at.overflow_mul-at c).In-loop-h)).1, c.well_formed)

pub overflow_add-at : goal.overflow_add-at
overflow_add-at c = omega (arith, (inside ((goal.at.overflow_add-at c).In-loop-h)).1, c.well_formed)

pub linked_meets-requires : goal.linked_meets-requires
linked_meets-requires c =
    let a = c.args in
    let n = length a.cells.now in
    let at = a.right.at + (c.loop-h.h - 1) * (length a.right.columns.now) in record { found_inside = (found_wider a.found.now (n - a.src) (length a.right.columns.now) (n - a.src) (n - at) c.requires.inside.found (omega arith) (omega (arith, (inside ((goal.at.linked_meets-requires c).In-loop-h)).1)), c.requires.indexed.equals); key_value = (key-is (goal.at.linked_meets-requires c).Start, sym c.is_number.ensures ∙ not-false c.is_number.result c.if-not-is_number.false-raw) }

pub side_cell-requires : goal.side_cell-requires
side_cell-requires c =
    let a = c.args in
    let n = length a.cells.now in
    let at = a.right.at + (c.loop-h.h - 1) * (length a.right.columns.now) in
    side_wider a.found.now.measured (n - a.src) (length a.right.columns.now) (n - a.src) (n - at) c.requires.inside.found.measured (omega arith) (omega (arith, (inside (goal.at.side_cell-requires c).In-loop-h).1))

pub add-tally-requires : goal.add-tally-requires
add-tally-requires c =
    let a = c.args in
    let l = c.loop-h in
    let cells = a.cells.now in
    let all : List Row = rows_from a.right.at a.right.count (length a.right.columns.now) cells in
    let h : ℕ = get_or a.index.next.now (l.h - 1) 0 in
    let first = chain_first a.right.at a.right.count (length a.right.columns.now) cells a.index.next.now l.h h l.invariant.0 c.loop-h-test.true refl in
    let room = tallying_room a.found.now (drop a.src cells) all (on_chain a.right.count all a.index.next.now l.h) l.tally l.invariant.1 (length cells - a.src) (length a.right.columns.now) c.requires.inside.found (on_chain a.right.count all a.index.next.now h) (drop (a.right.at + (l.h - 1) * (length a.right.columns.now)) cells) first (sym c.linked_meets.ensures ∙ c.if-linked_meets.true) in
    (omega (arith, c.args.right.few, length-chunk a.right.count (length a.right.columns.now) (drop a.right.at cells), room), l.invariant.1.bounded)

pub offset_bounds-index-i : goal.offset_bounds-index-i
offset_bounds-index-i c = omega (arith, (inside (goal.at.offset_bounds-index-i c).In-loop-h).0, c.requires.indexed.linked.all-next, c.well_formed)

pub bounds-index-i : goal.bounds-index-i
bounds-index-i c = omega (arith, (inside (goal.at.bounds-index-i c).In-loop-h).0, c.requires.indexed.linked.all-next, c.well_formed)

pub loop-h-smaller : goal.loop-h-smaller
loop-h-smaller c =
    let a = c.args in
    let l = c.loop-h in
    walk_less a.right.count a.index.next.now l.h l.invariant.0 c.loop-h-test.true (get_or c.args.index.next.now (c.loop-h.h - 1) 0) refl

pub loop-h-preserved : goal.loop-h-preserved
loop-h-preserved c =
    let a = c.args in
    let l = c.loop-h in
    let cells = a.cells.now in
    let left : Row = drop a.src cells in
    let all : List Row = rows_from a.right.at a.right.count (length a.right.columns.now) cells in
    let h : ℕ = (get_or c.args.index.next.now (c.loop-h.h - 1) 0) in
    let rows : List Row = on_chain a.right.count all a.index.next.now l.h in
    let rest : List Row = on_chain a.right.count all a.index.next.now h in
    let row : Row = drop (a.right.at + (l.h - 1) * (length a.right.columns.now)) cells in
    let first = chain_first a.right.at a.right.count (length a.right.columns.now) cells a.index.next.now l.h h l.invariant.0 c.loop-h-test.true refl in
    let says = sym c.linked_meets.ensures in
    let t = c.if-linked_meets.tally in (
      walk-on a.right.count a.index.next.now l.h l.invariant.0 c.loop-h-test.true h refl,
      elim c.if-linked_meets.branch [
        | then-linked_meets x ↦ tallying_met a.found.now left all rows l.tally l.invariant.1 (length cells - a.src) (length a.right.columns.now) c.requires.inside.found rest row first (says ∙ x.if-linked_meets.true) t (x.tally-is ∙ x.add-tally.ensures.0 ∙ ap (added l.tally) x.side_cell.ensures) (rw x.tally-is x.add-tally.ensures.1)
        | else-linked_meets x ↦ tallying_not_met a.found.now left all rows l.tally l.invariant.1 (length cells - a.src) (length a.right.columns.now) c.requires.inside.found rest row first (says ∙ x.if-linked_meets.false) t x.tally-is
      ],
    )

pub result-requires-2 : goal.result-requires-2
result-requires-2 c =
    let a = c.args in
    let l = c.loop-h in
    let cells = a.cells.now in
    let all : List Row = rows_from a.right.at a.right.count (length a.right.columns.now) cells in (
      omega (arith, c.args.right.few, length-chunk a.right.count (length a.right.columns.now) (drop a.right.at cells), tallying_few a.found.now (drop a.src cells) all (on_chain a.right.count all a.index.next.now l.h) l.tally l.invariant.1),
      l.invariant.1.bounded,
    )

pub returns : goal.returns
returns c =
    let a = c.args in
    let l = c.loop-h in
    let cells = a.cells.now in
    let all : List Row = rows_from a.right.at a.right.count (length a.right.columns.now) cells in
    tallying_done a.found.now (drop a.src cells) all (on_chain a.right.count all a.index.next.now l.h) l.tally l.invariant.1 (chain-none a.right.count all a.index.next.now l.h c.loop-h-test.false) c.result-2.result c.result-2.ensures
