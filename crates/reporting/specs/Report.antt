-- The report, and the answer of the reporting call (docs/DEFINITION.md, "Rows" and "The calls"). A set and a plan are lists of bytes.
-- Definitions only.
use Rattle.std.specs.Prelude.{ℕ, zero, suc, ◌*◌, ◌-◌, ◌≡◌, List, ◌++◌, map, ltb, ℤ, pos, ◌-ℤ◌, length, drop, replicate, if◌then◌else◌, Result, Ok, Err}
use Rattle.algebra.specs.Lists.{flat_map}
use Rattle.algebra.specs.Plans.{Row, Plan, columns, eval}
use Rattle.algebra.specs.Refusals.{need}
use Rattle.algebra.specs.Rules.{outside}
use Rattle.reading.specs.TableSet.{tables_of}
use Rattle.reading.specs.Tree.{plan_of}
use Rattle.reading.specs.Refusals.{number_of}
use Rattle.reading.specs.Check.{or_next, input_refusal}
use Rattle.reading.specs.declared.refusal.Refusal.{Refusal}
use Rattle.reporting.specs.declared.answer.Report.{Report}

-- ---- the report

-- the rows that the plan gives, nested in no row
abbrev pub report_rows : List ℕ → List ℕ → List Row
report_rows set plan = eval (tables_of set) (plan_of plan) outside

-- the ids, in order, that node 0 gives
abbrev pub report_columns : List ℕ → List ℕ → List ℕ
report_columns set plan = columns (tables_of set) (plan_of plan)

abbrev pub row_count : List ℕ → List ℕ → ℕ
row_count set plan = length (report_rows set plan)

abbrev pub column_count : List ℕ → List ℕ → ℕ
column_count set plan = length (report_columns set plan)

-- A cell's signed 64-bit code: a cell is held as its code plus 2 ^ 63.
unfoldable pub code_of : ℕ → ℤ
code_of cell = pos cell -ℤ pos 9223372036854775808

-- its codes, row by row
abbrev pub report_codes : List ℕ → List ℕ → List ℤ
report_codes set plan = flat_map (map code_of) (report_rows set plan)

-- ---- the number

-- 16: scratch is below the need
abbrev pub scratch_number : List ℕ → List ℕ → ℕ → ℕ
scratch_number set plan scratch_room = if ltb scratch_room (need (tables_of set) (plan_of plan)) then 16 else 0

-- 15: the output is short of the report's cells
abbrev pub output_number : List ℕ → List ℕ → ℕ → ℕ
output_number set plan room = if ltb room (row_count set plan * column_count set plan) then 15 else 0

-- The number of the call whose output has room for so many codes and whose scratch has so many cells: 1 to 14, which are reading's, then
-- 16, then 15; 0 where nothing is turned back.
unfoldable pub report_number : List ℕ → List ℕ → ℕ → ℕ → ℕ
report_number set plan room scratch_room = or_next (input_refusal set plan) (or_next (scratch_number set plan scratch_room) (output_number set plan room))

-- ---- what the call leaves, by its number

-- a refusal returns zero counts
abbrev pub count_after : ℕ → ℕ → ℕ
count_after zero count = count
count_after (suc number) count = 0

-- the codes at the front and the rest as it was; a refusal leaves the output untouched
abbrev pub output_after : ℕ → List ℤ → List ℤ → List ℤ
output_after zero codes out = codes ++ drop (length codes) out
output_after (suc number) codes out = out

-- Untouched after 1 to 14, all zero after every other call. The number here is the input's alone.
abbrev pub scratch_after : ℕ → List ℕ → List ℕ
scratch_after zero scratch = replicate (length scratch) 0
scratch_after (suc number) scratch = scratch

-- ---- what is returned: the counts, or a refusal, which has zero counts

abbrev pub answered_rows : Result Report Refusal → ℕ
answered_rows (Ok report) = report.rows
answered_rows (Err refusal) = 0

abbrev pub answered_columns : Result Report Refusal → ℕ
answered_columns (Ok report) = report.columns
answered_columns (Err refusal) = 0

-- ---- the whole answer: r is returned, out and scratch become out' and scratch'
pub record Reported (set plan : List ℕ) (out out' : List ℤ) (scratch scratch' : List ℕ) (r : Result Report Refusal) : Type 0 where
  pub number : number_of r ≡ report_number set plan (length out) (length scratch)
  pub rows : answered_rows r ≡ count_after (report_number set plan (length out) (length scratch)) (row_count set plan)
  pub columns : answered_columns r ≡ count_after (report_number set plan (length out) (length scratch)) (column_count set plan)
  pub output : out' ≡ output_after (report_number set plan (length out) (length scratch)) (report_codes set plan) out
  pub cleared : scratch' ≡ scratch_after (input_refusal set plan) scratch

-- ---- the rows of a tree, for the layer above

-- nested in no row; of a closed subplan these are its rows wherever it stands
abbrev pub tree_rows : List ℕ → Plan → List Row
tree_rows set p = eval (tables_of set) p outside

abbrev pub tree_cells : List ℕ → Plan → List ℕ
tree_cells set p = flat_map (λ row. row) (tree_rows set p)

-- 1 to 14, then 16
unfoldable pub rows_number : List ℕ → List ℕ → ℕ → ℕ
rows_number set plan scratch_room = or_next (input_refusal set plan) (scratch_number set plan scratch_room)

-- Scratch by the input's number and by 16's: untouched after 1 to 14, all zero after 16, else the cells with zeros behind them.
abbrev pub rows_left : ℕ → ℕ → List ℕ → List ℕ → List ℕ
rows_left (suc input) short cells scratch = scratch
rows_left zero (suc short) cells scratch = replicate (length scratch) 0
rows_left zero zero cells scratch = cells ++ replicate (length scratch - length cells) 0

-- the rows of a tree p, over the tables of a set and in the scratch that a plan needs
pub record RowsGiven (set plan : List ℕ) (p : Plan) (scratch scratch' : List ℕ) (r : Result Report Refusal) : Type 0 where
  pub number : number_of r ≡ rows_number set plan (length scratch)
  pub rows : answered_rows r ≡ count_after (rows_number set plan (length scratch)) (length (tree_rows set p))
  pub columns : answered_columns r ≡ count_after (rows_number set plan (length scratch)) (length (columns (tables_of set) p))
  pub cells : scratch' ≡ rows_left (input_refusal set plan) (scratch_number set plan (length scratch)) (tree_cells set p) scratch
