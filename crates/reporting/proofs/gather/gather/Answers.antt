use mathlib.Core.Path.{sym, ap, ◌∙◌}
use mathlib.Core.List.{List}
use Prim.Native.Nat.{◌+◌, ◌-◌, ◌≤◌}
use native.Mathlib.Numerals.{add-one}
use native.Mathlib.Omega.{arith}
use lib.ListN.{length, drop}
use Rattle.algebra.specs.Plans.{Row}
use Rattle.reporting.specs.Rows.{rows_from}
use Rattle.reporting.specs.Tallies.{added}
use Rattle.reporting.proofs.Chunks.{turns, times_suc, next_row, length-chunk}
use Rattle.reporting.proofs.Sides.{side_wider, found_wider}
use Rattle.reporting.proofs.Meets.{none_left_lem}
use Rattle.reporting.proofs.Tallies.{tallying_few, tallying_done, tallying_room, tallying_met, tallying_not_met}
use Rattle.reporting.proofs.gather.gather.Goals as goal
use Rattle.reporting.proofs.gather.gather.Goals.{then-row_meets, else-row_meets}
use Rattle.reporting.proofs.gather.gather.Goals.{In-loop}

-- the row at hand lies within the cells
inside : (c : In-loop) → c.loop.at + (length c.args.right.columns.now) ≤ length c.args.cells.now
inside c =
    let a = c.args in
    omega (arith, turns a.right.count (length a.right.columns.now) c.loop.counter c.loop-test.true, c.loop.invariant.0, c.requires.held)

pub row_meets-requires : goal.row_meets-requires
row_meets-requires c =
    let a = c.args in
    let n = length a.cells.now in
    found_wider a.found.now (n - a.src) (length a.right.columns.now) (n - a.src) (n - c.loop.at) c.requires.found (omega arith) (omega (arith, inside ((goal.at.row_meets-requires c).In-loop)))

pub side_cell-requires : goal.side_cell-requires
side_cell-requires c =
    let a = c.args in
    let n = length a.cells.now in
    side_wider a.found.now.measured (n - a.src) (length a.right.columns.now) (n - a.src) (n - c.loop.at) c.requires.found.measured (omega arith) (omega (arith, inside (goal.at.side_cell-requires c).In-loop))

pub add-tally-requires : goal.add-tally-requires
add-tally-requires c =
    let a = c.args in
    let l = c.loop in
    let cells = a.cells.now in (
      omega (arith, c.args.right.few, length-chunk a.right.count (length a.right.columns.now) (drop a.right.at cells), tallying_room a.found.now (drop a.src cells) (rows_from a.right.at a.right.count (length a.right.columns.now) cells) (rows_from l.at (a.right.count - l.counter) (length a.right.columns.now) cells) l.tally l.invariant.1 (length cells - a.src) (length a.right.columns.now) c.requires.found (rows_from (l.at + (length a.right.columns.now)) (a.right.count - (l.counter + 1)) (length a.right.columns.now) cells) (drop l.at cells) (next_row a.right.count (length a.right.columns.now) l.counter l.at cells c.loop-test.true) (sym c.row_meets.ensures ∙ c.if-row_meets.true)),
      l.invariant.1.bounded,
    )

pub loop-preserved : goal.loop-preserved
loop-preserved c =
    let a = c.args in
    let l = c.loop in
    let cells = a.cells.now in
    let left : Row = drop a.src cells in
    let all : List Row = rows_from a.right.at a.right.count (length a.right.columns.now) cells in
    let rows : List Row = rows_from l.at (a.right.count - l.counter) (length a.right.columns.now) cells in
    let rest : List Row = rows_from (l.at + (length a.right.columns.now)) (a.right.count - (l.counter + 1)) (length a.right.columns.now) cells in
    let first = next_row a.right.count (length a.right.columns.now) l.counter l.at cells c.loop-test.true in
    let says = sym c.row_meets.ensures in
    let t = c.if-row_meets.tally in (
      rw (add-one, times_suc) (omega (arith, l.invariant.0)),
      elim c.if-row_meets.branch [
        | then-row_meets x ↦ tallying_met a.found.now left all rows l.tally l.invariant.1 (length cells - a.src) (length a.right.columns.now) c.requires.found rest (drop l.at cells) first (says ∙ x.if-row_meets.true) t (x.tally-is ∙ x.add-tally.ensures.0 ∙ ap (added l.tally) x.side_cell.ensures) (rw x.tally-is x.add-tally.ensures.1)
        | else-row_meets x ↦ tallying_not_met a.found.now left all rows l.tally l.invariant.1 (length cells - a.src) (length a.right.columns.now) c.requires.found rest (drop l.at cells) first (says ∙ x.if-row_meets.false) t x.tally-is
      ],
    )

pub result-requires : goal.result-requires
result-requires c =
    let a = c.args in
    let l = c.loop in
    let cells = a.cells.now in (
      omega (arith, c.args.right.few, length-chunk a.right.count (length a.right.columns.now) (drop a.right.at cells), tallying_few a.found.now (drop a.src cells) (rows_from a.right.at a.right.count (length a.right.columns.now) cells) (rows_from l.at (a.right.count - l.counter) (length a.right.columns.now) cells) l.tally l.invariant.1),
      l.invariant.1.bounded,
    )

pub returns : goal.returns
returns c =
    let a = c.args in
    let l = c.loop in
    let cells = a.cells.now in
    tallying_done a.found.now (drop a.src cells) (rows_from a.right.at a.right.count (length a.right.columns.now) cells) (rows_from l.at (a.right.count - l.counter) (length a.right.columns.now) cells) l.tally l.invariant.1 (none_left_lem a.right.count (length a.right.columns.now) l.counter (drop l.at cells) c.loop-test.false) c.result.result c.result.ensures
