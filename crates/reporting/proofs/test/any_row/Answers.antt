use mathlib.Core.Path.{◌≡◌, sym, ap, ◌∙◌}
use mathlib.Core.Bool.{Bool, ◌||◌}
use Prim.Native.Nat.{◌+◌, ◌-◌, ◌≤◌}
use native.Mathlib.Numerals.{add-one}
use native.Mathlib.Omega.{arith}
use lib.ListN.{length, drop}
use Rattle.algebra.specs.Lists.{any}
use Rattle.reporting.specs.Rows.{rows_from}
use Rattle.reporting.specs.Sides.{meets}
use Rattle.reporting.proofs.Chunks.{turns, times_suc, next_row}
use Rattle.reporting.proofs.Sides.{found_wider}
use Rattle.reporting.proofs.Meets.{any-first, none_left_lem}
use Rattle.reporting.proofs.test.any_row.Goals as goal
use Rattle.reporting.proofs.test.any_row.Goals.{After-row_meets, In-loop}

-- the row at hand lies within the cells
inside : (c : In-loop) → c.loop.at + (length c.args.right.columns.now) ≤ length c.args.cells.now
inside c =
    let a = c.args in
    omega (arith, turns a.right.count (length a.right.columns.now) c.loop.counter c.loop-test.true, c.loop.invariant.0, c.requires.held)

-- what is asked of the rows that are left, by what was said of the row at hand
asked : (c : After-row_meets) → let a = c.args in let l = c.loop in any (meets a.found.now (drop a.src a.cells.now)) (rows_from a.right.at a.right.count (length a.right.columns.now) a.cells.now) ≡ (c.row_meets.result || any (meets a.found.now (drop a.src a.cells.now)) (rows_from (l.at + (length a.right.columns.now)) (a.right.count - (l.counter + 1)) (length a.right.columns.now) a.cells.now))
asked c =
    let a = c.args in
    let l = c.loop in
    let cells = a.cells.now in
    let rest = rows_from (l.at + (length a.right.columns.now)) (a.right.count - (l.counter + 1)) (length a.right.columns.now) cells in
    l.invariant.1
    ∙ any-first a.found.now (drop a.src cells) (length cells - a.src) (length a.right.columns.now) c.requires.found (rows_from l.at (a.right.count - l.counter) (length a.right.columns.now) cells) rest (drop l.at cells) (next_row a.right.count (length a.right.columns.now) l.counter l.at cells c.loop-test.true)
    ∙ ap (λ (b : Bool). b || any (meets a.found.now (drop a.src cells)) rest) (sym c.row_meets.ensures)

pub row_meets-requires : goal.row_meets-requires
row_meets-requires c =
    let a = c.args in
    let n = length a.cells.now in
    found_wider a.found.now (n - a.src) (length a.right.columns.now) (n - a.src) (n - c.loop.at) c.requires.found (omega arith) (omega (arith, inside ((goal.at.row_meets-requires c).In-loop)))

pub returns-then-row_meets : goal.returns-then-row_meets
returns-then-row_meets c =
    let a = c.args in
    let l = c.loop in
    sym (asked (goal.at.returns-then-row_meets c).After-row_meets ∙ ap (λ (b : Bool). b || any (meets a.found.now (drop a.src a.cells.now)) (rows_from (l.at + (length a.right.columns.now)) (a.right.count - (l.counter + 1)) (length a.right.columns.now) a.cells.now)) c.if-row_meets.true)

pub loop-preserved : goal.loop-preserved
loop-preserved c =
    let a = c.args in
    let l = c.loop in (
      rw (add-one, times_suc) (omega (arith, l.invariant.0)),
      asked (goal.at.loop-preserved c).After-row_meets ∙ ap (λ (b : Bool). b || any (meets a.found.now (drop a.src a.cells.now)) (rows_from (l.at + (length a.right.columns.now)) (a.right.count - (l.counter + 1)) (length a.right.columns.now) a.cells.now)) c.if-row_meets.false,
    )

pub returns : goal.returns
returns c =
    let a = c.args in
    let l = c.loop in
    sym (l.invariant.1 ∙ ap (any (meets a.found.now (drop a.src a.cells.now))) (none_left_lem a.right.count (length a.right.columns.now) l.counter (drop l.at a.cells.now) c.loop-test.false))
