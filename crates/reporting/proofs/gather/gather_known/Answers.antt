use mathlib.Core.Path.{◌≡◌, refl, sym, ap, ◌∙◌}
use mathlib.Core.List.{List}
use Prim.Native.Nat.{ℕ, ◌+◌, ◌≤◌, ◌<◌}
use native.Mathlib.Omega.{arith}
use lib.Dec.{eqb}
use lib.ListN.{length, drop, get_or}
use lib.Seq.{get_or-drop}
use Rattle.algebra.specs.Plans.{Row}
use Rattle.reporting.specs.Index.{before}
use Rattle.reporting.specs.Rows.{rows_from}
use Rattle.reporting.specs.Known.{key_number}
use Rattle.reporting.proofs.Chunks.{length-chunk}
use Rattle.reporting.proofs.Known.{before-most, known_kept, known-set}
use Rattle.reporting.proofs.gather.gather_known.Goals as goal
use Rattle.reporting.proofs.gather.gather_known.Goals.{After-first_linked-first, Start}

-- the number of the left row's key
number : (c : After-first_linked-first) → let a = c.args in c.first_linked-first.result ≡ key_number a.index.keys.left a.index.keys.right (rows_from a.right.at a.right.count (length a.right.columns.now) a.cells.now) (drop a.src a.cells.now)
number c =
    let a = c.args in
    c.first_linked-first.ensures ∙ ap (λ (x : ℕ). before (λ q. eqb (get_or q a.index.keys.right 0) x) (rows_from a.right.at a.right.count (length a.right.columns.now) a.cells.now)) (sym (get_or-drop a.src a.cells.now a.index.keys.left 0))

-- it lies within what is kept
within : (c : After-first_linked-first) → (c.first_linked-first.result < length c.args.known.now) × (c.first_linked-first.result ≤ 4096)
within c =
    let a = c.args in
    let rs : List Row = rows_from a.right.at a.right.count (length a.right.columns.now) a.cells.now in
    let most : before (λ q. eqb (get_or q a.index.keys.right 0) (get_or a.cells.now (a.src + a.index.keys.left) 0)) rs ≤ length rs = before-most (λ q. eqb (get_or q a.index.keys.right 0) (get_or a.cells.now (a.src + a.index.keys.left) 0)) rs in
    let few : c.first_linked-first.result ≤ 4096 = omega (arith, most, c.first_linked-first.ensures, length-chunk a.right.count (length a.right.columns.now) (drop a.right.at a.cells.now), c.args.right.few) in
    (omega (arith, few, c.requires.shared.1.all), few)

pub offset_bounds-known-first : goal.offset_bounds-known-first
offset_bounds-known-first c = omega (arith, (within ((goal.at.offset_bounds-known-first c).After-first_linked-first)).1)

pub bounds-known-first : goal.bounds-known-first
bounds-known-first c = (within (goal.at.bounds-known-first c).After-first_linked-first).0

pub returns-then-kept-gt0 : goal.returns-then-kept-gt0
returns-then-kept-gt0 c =
    let a = c.args in
    let rs : List Row = rows_from a.right.at a.right.count (length a.right.columns.now) a.cells.now in record { value = known_kept a.found.now a.index.keys.left a.index.keys.right c.requires.indexed.equals rs a.known.now c.requires.shared.1 (drop a.src a.cells.now) c.first_linked-first.result (number (goal.at.returns-then-kept-gt0 c).After-first_linked-first) _ refl c.if-kept-gt0.true; known = c.requires.shared.1 }

pub offset_bounds-known-first-2 : goal.offset_bounds-known-first-2
offset_bounds-known-first-2 c = omega (arith, (within (goal.at.offset_bounds-known-first-2 c).After-first_linked-first).1)

pub bounds-known-first-2 : goal.bounds-known-first-2
bounds-known-first-2 c = (within (goal.at.bounds-known-first-2 c).After-first_linked-first).0

pub returns : goal.returns
returns c =
    let a = c.args in
    let rs : List Row = rows_from a.right.at a.right.count (length a.right.columns.now) a.cells.now in record { value = c.gather_linked-cell.ensures; known = known-set a.found.now a.index.keys.left a.index.keys.right c.requires.indexed.equals rs a.known.now c.requires.shared.1 (drop a.src a.cells.now) c.first_linked-first.result (number (goal.at.returns c).After-first_linked-first) c.requires.shared.0 c.gather_linked-cell.result c.gather_linked-cell.ensures (within (goal.at.returns c).After-first_linked-first).0 }
