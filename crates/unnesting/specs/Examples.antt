-- The examples M1 to M9 and the sample club with a Project between (docs/DEFINITION.md, "The examples"), as rows of one claim. Definitions
-- only; the proof is `examples` of proofs/Examples.antt.
use Rattle.std.specs.Prelude.{ℕ, ◌+◌, ◌*◌, Bool, true, false, ◌≡◌, List, [], ◌∷◌, ◌++◌, map, replicate, Ok, Some}
use Rattle.std.proofs.Math.Option.{none, some}
use Rattle.algebra.specs.Cells.{gt, sum, over, blank, off_scale, origin, aggregate}
use Rattle.algebra.specs.Plans.{Row, Tables, always, number_of, Test, test, holds, scan, select, quant, each, Plan, leaf, one, two, eval}
use Rattle.algebra.specs.Rules.{outside}
use Rattle.algebra.specs.Steps.{attempt}
use Rattle.reading.specs.TableSet.{table_mark, tables_of}
use Rattle.reading.specs.Plan.{plan_mark}
use Rattle.reading.specs.Check.{input_refusal}
use Rattle.reading.specs.declared.version.Version.TheVariants.{Second}
use Rattle.reporting.specs.Report.{report_rows, row_count, column_count, report_number}
use Rattle.unnesting.specs.Unnest.{unnest_plan, written_steps, written_plan, unnest_number}
use Rattle.unnesting.specs.StayNote.{note_due, stay_answer}
use Rattle.unnesting.specs.Demand3.{bytes_left}

-- the cell of a number
abbrev pub cell : ℕ → ℕ
cell x = origin + x

-- rows of one cell
abbrev pub single : List ℕ → List Row
single xs = map (λ x. cell x ∷ []) xs

-- ---- the listing's files

-- club.tbl: 7, 9, 7, 4; and (7, 36), (9, blank), (4, 31), (7, 33)
unfoldable pub club_set : List ℕ
club_set =
    84 ∷ 66 ∷ 76 ∷ 2 ∷ 0 ∷ 1 ∷ 4 ∷ 0 ∷
    7 ∷ 0 ∷ 0 ∷ 0 ∷ 0 ∷ 0 ∷ 0 ∷ 0 ∷
    9 ∷ 0 ∷ 0 ∷ 0 ∷ 0 ∷ 0 ∷ 0 ∷ 0 ∷
    7 ∷ 0 ∷ 0 ∷ 0 ∷ 0 ∷ 0 ∷ 0 ∷ 0 ∷
    4 ∷ 0 ∷ 0 ∷ 0 ∷ 0 ∷ 0 ∷ 0 ∷ 0 ∷
    84 ∷ 66 ∷ 76 ∷ 2 ∷ 0 ∷ 2 ∷ 4 ∷ 0 ∷
    7 ∷ 0 ∷ 0 ∷ 0 ∷ 0 ∷ 0 ∷ 0 ∷ 0 ∷ 36 ∷ 0 ∷ 0 ∷ 0 ∷ 0 ∷ 0 ∷ 0 ∷ 0 ∷
    9 ∷ 0 ∷ 0 ∷ 0 ∷ 0 ∷ 0 ∷ 0 ∷ 0 ∷ 0 ∷ 0 ∷ 0 ∷ 0 ∷ 0 ∷ 0 ∷ 0 ∷ 128 ∷
    4 ∷ 0 ∷ 0 ∷ 0 ∷ 0 ∷ 0 ∷ 0 ∷ 0 ∷ 31 ∷ 0 ∷ 0 ∷ 0 ∷ 0 ∷ 0 ∷ 0 ∷ 0 ∷
    7 ∷ 0 ∷ 0 ∷ 0 ∷ 0 ∷ 0 ∷ 0 ∷ 0 ∷ 33 ∷ 0 ∷ 0 ∷ 0 ∷ 0 ∷ 0 ∷ 0 ∷ 0 ∷ []

-- the same with (9, blank) moved first in table 1
unfoldable pub moved_set : List ℕ
moved_set =
    84 ∷ 66 ∷ 76 ∷ 2 ∷ 0 ∷ 1 ∷ 4 ∷ 0 ∷
    7 ∷ 0 ∷ 0 ∷ 0 ∷ 0 ∷ 0 ∷ 0 ∷ 0 ∷
    9 ∷ 0 ∷ 0 ∷ 0 ∷ 0 ∷ 0 ∷ 0 ∷ 0 ∷
    7 ∷ 0 ∷ 0 ∷ 0 ∷ 0 ∷ 0 ∷ 0 ∷ 0 ∷
    4 ∷ 0 ∷ 0 ∷ 0 ∷ 0 ∷ 0 ∷ 0 ∷ 0 ∷
    84 ∷ 66 ∷ 76 ∷ 2 ∷ 0 ∷ 2 ∷ 4 ∷ 0 ∷
    9 ∷ 0 ∷ 0 ∷ 0 ∷ 0 ∷ 0 ∷ 0 ∷ 0 ∷ 0 ∷ 0 ∷ 0 ∷ 0 ∷ 0 ∷ 0 ∷ 0 ∷ 128 ∷
    7 ∷ 0 ∷ 0 ∷ 0 ∷ 0 ∷ 0 ∷ 0 ∷ 0 ∷ 36 ∷ 0 ∷ 0 ∷ 0 ∷ 0 ∷ 0 ∷ 0 ∷ 0 ∷
    4 ∷ 0 ∷ 0 ∷ 0 ∷ 0 ∷ 0 ∷ 0 ∷ 0 ∷ 31 ∷ 0 ∷ 0 ∷ 0 ∷ 0 ∷ 0 ∷ 0 ∷ 0 ∷
    7 ∷ 0 ∷ 0 ∷ 0 ∷ 0 ∷ 0 ∷ 0 ∷ 0 ∷ 33 ∷ 0 ∷ 0 ∷ 0 ∷ 0 ∷ 0 ∷ 0 ∷ 0 ∷ []

-- club.rpt: Every (column 2 > 30) over Distinct of 0 over Scan 0, and Select 0 = 1 over Scan 1
unfoldable pub club_plan : List ℕ
club_plan =
    82 ∷ 80 ∷ 84 ∷ 2 ∷ 0 ∷ 5 ∷
    9 ∷ 0 ∷ 0 ∷ 0 ∷ 0 ∷ 0 ∷ 0 ∷ 0 ∷ 0 ∷ 0 ∷ 0 ∷ 0 ∷ 0 ∷ 0 ∷ 0 ∷ 0 ∷ 2 ∷ 4 ∷ 0 ∷ 2 ∷ 30 ∷ 0 ∷ 0 ∷ 0 ∷ 0 ∷ 0 ∷ 0 ∷ 0 ∷ 0 ∷ 0 ∷ 0 ∷ 0 ∷
    4 ∷ 0 ∷ 0 ∷ 0 ∷ 0 ∷ 0 ∷ 0 ∷ 0 ∷ 1 ∷ 0 ∷ 0 ∷ 0 ∷ 0 ∷ 0 ∷ 0 ∷ 0 ∷ 0 ∷ 0 ∷ 0 ∷ 0 ∷ 0 ∷ 0 ∷ 0 ∷ 0 ∷ 0 ∷ 0 ∷ 0 ∷ 0 ∷ 0 ∷ 0 ∷ 0 ∷ 0 ∷
    1 ∷ 0 ∷ 0 ∷ 0 ∷ 0 ∷ 0 ∷ 0 ∷ 0 ∷ 0 ∷ 0 ∷ 0 ∷ 0 ∷ 0 ∷ 0 ∷ 0 ∷ 0 ∷ 0 ∷ 0 ∷ 0 ∷ 0 ∷ 0 ∷ 0 ∷ 0 ∷ 0 ∷ 0 ∷ 0 ∷ 0 ∷ 0 ∷ 0 ∷ 0 ∷ 0 ∷ 0 ∷
    2 ∷ 0 ∷ 0 ∷ 0 ∷ 0 ∷ 0 ∷ 0 ∷ 0 ∷ 0 ∷ 0 ∷ 0 ∷ 0 ∷ 0 ∷ 0 ∷ 0 ∷ 0 ∷ 1 ∷ 0 ∷ 0 ∷ 0 ∷ 1 ∷ 0 ∷ 0 ∷ 0 ∷ 0 ∷ 0 ∷ 0 ∷ 0 ∷ 0 ∷ 0 ∷ 0 ∷ 0 ∷
    1 ∷ 1 ∷ 1 ∷ 0 ∷ 0 ∷ 0 ∷ 0 ∷ 0 ∷ 0 ∷ 0 ∷ 0 ∷ 0 ∷ 0 ∷ 0 ∷ 0 ∷ 0 ∷ 0 ∷ 0 ∷ 0 ∷ 0 ∷ 0 ∷ 0 ∷ 0 ∷ 0 ∷ 0 ∷ 0 ∷ 0 ∷ 0 ∷ 0 ∷ 0 ∷ 0 ∷ 0 ∷ []

-- the same with a Project of 2 over the Select
unfoldable pub projected_plan : List ℕ
projected_plan =
    82 ∷ 80 ∷ 84 ∷ 2 ∷ 0 ∷ 6 ∷
    9 ∷ 0 ∷ 0 ∷ 0 ∷ 0 ∷ 0 ∷ 0 ∷ 0 ∷ 0 ∷ 0 ∷ 0 ∷ 0 ∷ 0 ∷ 0 ∷ 0 ∷ 0 ∷ 2 ∷ 4 ∷ 0 ∷ 2 ∷ 30 ∷ 0 ∷ 0 ∷ 0 ∷ 0 ∷ 0 ∷ 0 ∷ 0 ∷ 0 ∷ 0 ∷ 0 ∷ 0 ∷
    4 ∷ 0 ∷ 0 ∷ 0 ∷ 0 ∷ 0 ∷ 0 ∷ 0 ∷ 1 ∷ 0 ∷ 0 ∷ 0 ∷ 0 ∷ 0 ∷ 0 ∷ 0 ∷ 0 ∷ 0 ∷ 0 ∷ 0 ∷ 0 ∷ 0 ∷ 0 ∷ 0 ∷ 0 ∷ 0 ∷ 0 ∷ 0 ∷ 0 ∷ 0 ∷ 0 ∷ 0 ∷
    1 ∷ 0 ∷ 0 ∷ 0 ∷ 0 ∷ 0 ∷ 0 ∷ 0 ∷ 0 ∷ 0 ∷ 0 ∷ 0 ∷ 0 ∷ 0 ∷ 0 ∷ 0 ∷ 0 ∷ 0 ∷ 0 ∷ 0 ∷ 0 ∷ 0 ∷ 0 ∷ 0 ∷ 0 ∷ 0 ∷ 0 ∷ 0 ∷ 0 ∷ 0 ∷ 0 ∷ 0 ∷
    3 ∷ 0 ∷ 0 ∷ 0 ∷ 0 ∷ 0 ∷ 0 ∷ 0 ∷ 1 ∷ 2 ∷ 0 ∷ 0 ∷ 0 ∷ 0 ∷ 0 ∷ 0 ∷ 0 ∷ 0 ∷ 0 ∷ 0 ∷ 0 ∷ 0 ∷ 0 ∷ 0 ∷ 0 ∷ 0 ∷ 0 ∷ 0 ∷ 0 ∷ 0 ∷ 0 ∷ 0 ∷
    2 ∷ 0 ∷ 0 ∷ 0 ∷ 0 ∷ 0 ∷ 0 ∷ 0 ∷ 0 ∷ 0 ∷ 0 ∷ 0 ∷ 0 ∷ 0 ∷ 0 ∷ 0 ∷ 1 ∷ 0 ∷ 0 ∷ 0 ∷ 1 ∷ 0 ∷ 0 ∷ 0 ∷ 0 ∷ 0 ∷ 0 ∷ 0 ∷ 0 ∷ 0 ∷ 0 ∷ 0 ∷
    1 ∷ 1 ∷ 1 ∷ 0 ∷ 0 ∷ 0 ∷ 0 ∷ 0 ∷ 0 ∷ 0 ∷ 0 ∷ 0 ∷ 0 ∷ 0 ∷ 0 ∷ 0 ∷ 0 ∷ 0 ∷ 0 ∷ 0 ∷ 0 ∷ 0 ∷ 0 ∷ 0 ∷ 0 ∷ 0 ∷ 0 ∷ 0 ∷ 0 ∷ 0 ∷ 0 ∷ 0 ∷ []

-- ---- other inputs

-- a table of one column and so many rows, below 256: each cell the number 0
abbrev pub table_of : ℕ → List ℕ
table_of rows = table_mark Second ++ (1 ∷ rows ∷ 0 ∷ replicate (8 * rows) 0)

-- Cross of Scan 0 (id 0) and Scan 1 (id 1)
unfoldable pub cross_plan : List ℕ
cross_plan = plan_mark Second ++ (3 ∷ ((5 ∷ replicate 31 0) ++ ((1 ∷ replicate 31 0) ++ (1 ∷ 1 ∷ 1 ∷ replicate 29 0))))

-- an inner plan with no row: Select of a test that never holds over Scan 1
unfoldable pub empty_inner : Plan
empty_inner = one (select (test true always)) (leaf (scan 1 1))

-- a column > 30, under a not-mark
abbrev pub over30 : Bool → ℕ → Test
over30 mark column = test mark (number_of gt column (cell 30))

abbrev pub club : Tables
club = tables_of club_set

-- ---- the claim
pub record Examples : Type 0 where
  -- M1: Cross 64 × 64 passes 14
  pub m1 : input_refusal (table_of 64 ++ table_of 64) cross_plan ≡ 0
  -- M2: 65 × 64 doesn't
  pub m2 : input_refusal (table_of 65 ++ table_of 64) cross_plan ≡ 14
  -- M3: sum 8,999,999,999,999,999 and 1 is 9,000,000,000,000,000
  pub m3 : aggregate (over sum 0) (cell 8999999999999999 ∷ cell 1 ∷ []) ≡ cell 9000000000000000
  -- M4: 9,000,000,000,000,000 and 1 is off scale
  pub m4 : aggregate (over sum 0) (cell 9000000000000000 ∷ cell 1 ∷ []) ≡ off_scale
  -- M5: Every over no inner rows keeps the row
  pub m5 : eval club (two (quant true (over30 false 2)) (leaf (scan 0 0)) empty_inner) outside ≡ single (7 ∷ 9 ∷ 7 ∷ 4 ∷ [])
  -- M6: blank > 30 false, not-marked true
  pub m6 : (holds (over30 false 0) (λ x. blank) ≡ false) × (holds (over30 true 0) (λ x. blank) ≡ true)
  -- M7: Each with an empty inner plan gives blanks, and U8 doesn't fit
  pub m7 : (eval club (two each (leaf (scan 0 0)) empty_inner) outside ≡ map (λ x. cell x ∷ blank ∷ blank ∷ []) (7 ∷ 9 ∷ 7 ∷ 4 ∷ []))
      × (attempt club (record { number = 8; place = 0 }) (two each (leaf (scan 0 0)) empty_inner) ≡ none)
  -- M8: the listing. Nothing is refused, the steps are U2, U7, U4, each at place 0, and the plan left gives 2 rows of 1 column: 7 and 4.
  pub m8 : (unnest_number club_set club_plan 2054 384 8192 ≡ 0)
      × (written_steps club_set club_plan ≡ 2 ∷ 0 ∷ 7 ∷ 0 ∷ 4 ∷ 0 ∷ [])
      × (report_number club_set (written_plan club_set club_plan) 2 8192 ≡ 0)
      × ((row_count club_set (written_plan club_set club_plan) ≡ 2) × (column_count club_set (written_plan club_set club_plan) ≡ 1))
      × (report_rows club_set (written_plan club_set club_plan) ≡ single (7 ∷ 4 ∷ []))
  -- M9: with (9, blank) moved first in table 1, U4 doesn't fit. A stay note is due there, of 7, 9, 4 and 9, 7, 4, and gives position 0;
  -- none is due after U2 alone, where the Anti still has its test.
  pub m9 : (written_steps moved_set club_plan ≡ 2 ∷ 0 ∷ 7 ∷ 0 ∷ [])
      × (attempt (tables_of moved_set) (record { number = 4; place = 0 }) (unnest_plan moved_set club_plan) ≡ none)
      × (note_due moved_set (written_plan moved_set club_plan) 0 ≡ some (record { first = single (7 ∷ 9 ∷ 4 ∷ []); second = single (9 ∷ 7 ∷ 4 ∷ []) }))
      × (stay_answer moved_set (written_plan moved_set club_plan) 0 8192 ≡ Ok (Some 0))
      × (note_due moved_set (bytes_left moved_set club_plan (record { number = 2; place = 0 } ∷ [])) 0 ≡ none)
  -- The sample club with a Project between is accepted, and its steps and the plan left are those without it.
  pub projected : (input_refusal club_set projected_plan ≡ 0)
      × (written_steps club_set projected_plan ≡ written_steps club_set club_plan)
      × (written_plan club_set projected_plan ≡ written_plan club_set club_plan)
