use mathlib.Core.Path.{◌≡◌, refl, sym, ap, ◌∙◌}
use mathlib.Core.Bool.{Bool, ◌||◌}
use mathlib.Core.List.{List}
use Prim.Native.Nat.{ℕ, ◌+◌, ◌*◌, ◌-◌, ◌≤◌, ◌<◌}
use native.Mathlib.Omega.{arith}
use borrow.Author.Tests.{not-true, not-false}
use lib.ListN.{length, drop, get_or}
use lib.Seq.{get_or-drop}
use Rattle.algebra.specs.Lists.{any}
use Rattle.algebra.specs.Cells.{is_number}
use Rattle.algebra.specs.Plans.{Row}
use Rattle.reporting.specs.Rows.{rows_from}
use Rattle.reporting.specs.Sides.{meets}
use Rattle.reporting.proofs.Chains.{walk_inside, walk_less, walk-on}
use Rattle.reporting.proofs.Chunks.{turns}
use Rattle.reporting.proofs.Meets.{any-first, none_met, on_chain, chain_first, chain-none, met_walk, met_any}
use Rattle.reporting.proofs.Sides.{found_wider}
use Rattle.reporting.proofs.test.any_linked.Goals as goal
use Rattle.reporting.proofs.test.any_linked.Goals.{After-linked_meets, In-loop-h, Start}

key-is : (c : Start) → let a = c.args in get_or a.cells.now (a.src + a.index.keys.left) 0 ≡ get_or (drop a.src a.cells.now) a.index.keys.left 0
key-is c = let a = c.args in sym (get_or-drop a.src a.cells.now a.index.keys.left 0)

-- the row at hand is one of the rows, and lies within the cells
inside : (c : In-loop-h) → (c.loop-h.h - 1 < c.args.right.count) × (c.args.right.at + (c.loop-h.h - 1) * (length c.args.right.columns.now) + (length c.args.right.columns.now) ≤ length c.args.cells.now)
inside c =
    let a = c.args in
    let l = c.loop-h in
    let i : l.h - 1 < a.right.count = walk_inside a.right.count a.index.next.now l.h l.invariant.0 c.loop-h-test.true in
    (i, omega (arith, turns a.right.count (length a.right.columns.now) (l.h - 1) i, c.requires.inside.held))

-- what is asked of the rest of the chain, by what was said of the row at hand
asked : (c : After-linked_meets) (h : ℕ) → let a = c.args in let l = c.loop-h in h ≡ get_or a.index.next.now (l.h - 1) 0 → any (meets a.found.now (drop a.src a.cells.now)) (rows_from a.right.at a.right.count (length a.right.columns.now) a.cells.now) ≡ (c.linked_meets.result || any (meets a.found.now (drop a.src a.cells.now)) (on_chain a.right.count (rows_from a.right.at a.right.count (length a.right.columns.now) a.cells.now) a.index.next.now h))
asked c h e =
    let a = c.args in
    let l = c.loop-h in
    let cells = a.cells.now in
    let rows : List Row = rows_from a.right.at a.right.count (length a.right.columns.now) cells in
    let rest : List Row = on_chain a.right.count rows a.index.next.now h in
    l.invariant.1
    ∙ any-first a.found.now (drop a.src cells) (length cells - a.src) (length a.right.columns.now) c.requires.inside.found (on_chain a.right.count rows a.index.next.now l.h) rest (drop (a.right.at + (l.h - 1) * (length a.right.columns.now)) cells) (chain_first a.right.at a.right.count (length a.right.columns.now) cells a.index.next.now l.h h l.invariant.0 c.loop-h-test.true e)
    ∙ ap (λ (b : Bool). b || any (meets a.found.now (drop a.src cells)) rest) (sym c.linked_meets.ensures)

pub returns-then-not-is_number : goal.returns-then-not-is_number
returns-then-not-is_number c =
    let a = c.args in
    sym (none_met a.found.now (drop a.src a.cells.now) a.index.keys.left a.index.keys.right c.requires.indexed.equals (ap is_number (sym (key-is (goal.at.returns-then-not-is_number c).Start)) ∙ sym c.is_number.ensures ∙ not-true c.is_number.result c.if-not-is_number.true-raw) (rows_from a.right.at a.right.count (length a.right.columns.now) a.cells.now)).0

pub loop-h-init : goal.loop-h-init
loop-h-init c =
    let a = c.args in
    let b = c.bucket.result in
    let h : ℕ = (get_or c.args.index.heads.now c.bucket.result 0) in
    let key = get_or a.cells.now (a.src + a.index.keys.left) 0 in (
      met_walk a.found.now (drop a.src a.cells.now) a.index.keys.left a.index.keys.right c.requires.indexed.equals a.right.at a.right.count (length a.right.columns.now) a.cells.now a.index.heads.now a.index.next.now c.requires.indexed.linked key b h (key-is (goal.at.loop-h-init c).Start) c.bucket.ensures.0 c.bucket.ensures.1 refl,
      met_any a.found.now (drop a.src a.cells.now) a.index.keys.left a.index.keys.right c.requires.indexed.equals a.right.at a.right.count (length a.right.columns.now) a.cells.now a.index.heads.now a.index.next.now c.requires.indexed.linked key b h (key-is (goal.at.loop-h-init c).Start) c.bucket.ensures.0 c.bucket.ensures.1 refl,
    )

pub overflow_mul-i : goal.overflow_mul-i
overflow_mul-i c = omega (arith, (inside ((goal.at.overflow_mul-i c).In-loop-h)).1, c.well_formed)

pub overflow_add-right : goal.overflow_add-right
overflow_add-right c = omega (arith, (inside ((goal.at.overflow_add-right c).In-loop-h)).1, c.well_formed)

pub linked_meets-requires : goal.linked_meets-requires
linked_meets-requires c =
    let a = c.args in
    let n = length a.cells.now in
    let at = a.right.at + (c.loop-h.h - 1) * (length a.right.columns.now) in record { found_inside = (found_wider a.found.now (n - a.src) (length a.right.columns.now) (n - a.src) (n - at) c.requires.inside.found (omega arith) (omega (arith, (inside ((goal.at.linked_meets-requires c).In-loop-h)).1)), c.requires.indexed.equals); key_value = (key-is (goal.at.linked_meets-requires c).Start, sym c.is_number.ensures ∙ not-false c.is_number.result c.if-not-is_number.false-raw) }

pub returns-then-linked_meets : goal.returns-then-linked_meets
returns-then-linked_meets c =
    let a = c.args in
    let l = c.loop-h in
    let h : ℕ = get_or a.index.next.now (l.h - 1) 0 in
    sym (asked (goal.at.returns-then-linked_meets c).After-linked_meets h refl ∙ ap (λ (b : Bool). b || any (meets a.found.now (drop a.src a.cells.now)) (on_chain a.right.count (rows_from a.right.at a.right.count (length a.right.columns.now) a.cells.now) a.index.next.now h)) c.if-linked_meets.true)

pub offset_bounds-index-i : goal.offset_bounds-index-i
offset_bounds-index-i c = omega (arith, (inside (goal.at.offset_bounds-index-i c).In-loop-h).0, c.requires.indexed.linked.all-next, c.well_formed)

pub bounds-index-i : goal.bounds-index-i
bounds-index-i c = omega (arith, (inside (goal.at.bounds-index-i c).In-loop-h).0, c.requires.indexed.linked.all-next, c.well_formed)

pub loop-h-smaller : goal.loop-h-smaller
loop-h-smaller c =
    let a = c.args in
    let l = c.loop-h in
    walk_less a.right.count a.index.next.now l.h l.invariant.0 c.loop-h-test.true (get_or c.args.index.next.now (c.loop-h.h - 1) 0) refl

pub loop-h-preserved : goal.loop-h-preserved
loop-h-preserved c =
    let a = c.args in
    let l = c.loop-h in
    let h : ℕ = (get_or c.args.index.next.now (c.loop-h.h - 1) 0) in (
      walk-on a.right.count a.index.next.now l.h l.invariant.0 c.loop-h-test.true h refl,
      asked (goal.at.loop-h-preserved c).After-linked_meets h refl ∙ ap (λ (b : Bool). b || any (meets a.found.now (drop a.src a.cells.now)) (on_chain a.right.count (rows_from a.right.at a.right.count (length a.right.columns.now) a.cells.now) a.index.next.now h)) c.if-linked_meets.false,
    )

pub returns : goal.returns
returns c =
    let a = c.args in
    let l = c.loop-h in
    sym (l.invariant.1 ∙ ap (any (meets a.found.now (drop a.src a.cells.now))) (chain-none a.right.count (rows_from a.right.at a.right.count (length a.right.columns.now) a.cells.now) a.index.next.now l.h c.loop-h-test.false))
