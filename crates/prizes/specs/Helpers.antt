-- What the contracts of the prize call's own functions speak of. Definitions only.
use Rattle.std.specs.Prelude.{ℕ, suc, ◌*◌, ◌≤◌, ◌≡◌, List, [], ◌∷◌, map, ℤ, length, if◌then◌else◌, Result}
use Rattle.reading.specs.Refusals.{number_of}
use Rattle.reading.specs.declared.refusal.Refusal.{Refusal}
use Rattle.reporting.specs.Rows.{chunk}
use Rattle.reporting.specs.Report.{count_after, output_after}
use Rattle.prizes.specs.Payments.{tied, payments}
use Rattle.prizes.specs.Prize.{player_of, score_of, table_codes, table_number, prize_table, prize_line, answered_payments, answered_line}
use Rattle.prizes.specs.declared.answer.Prizes.{Prizes}

-- ---- a report's rows at the front of cells, w cells each

-- no more of them, and no wider, than a report's rows are
pub record InCells (rows w : ℕ) (cells : List ℕ) : Type 0 where
  pub inside : rows * w ≤ length cells
  pub few : rows ≤ 4096
  pub narrow : w ≤ 32

-- .. and each has a player and a score
pub record Scored (rows w : ℕ) (cells : List ℕ) : Type 0 where
  pub in_cells : InCells rows w cells
  pub wide : 2 ≤ w

-- the players and the scores of the rows
unfoldable pub players_in : ℕ → ℕ → List ℕ → List ℕ
players_in rows w cells = map player_of (chunk rows w cells)

unfoldable pub scores_in : ℕ → ℕ → List ℕ → List ℕ
scores_in rows w cells = map score_of (chunk rows w cells)

-- their table, by the places' pence
abbrev pub table_in : ℕ → ℕ → List ℕ → List ℕ → List ℤ
table_in rows w cells pence = table_codes (players_in rows w cells) (payments (scores_in rows w cells) pence)

-- ---- runs

-- how many scores, from the first on, are tied with s
unfoldable pub tied_with : ℕ → List ℕ → ℕ
tied_with s [] = 0
tied_with s (t ∷ scores) = if tied s t then suc (tied_with s scores) else 0

-- how many rows the first run has
abbrev pub first_run : List ℕ → ℕ
first_run [] = 0
first_run (s ∷ scores) = suc (tied_with s scores)

-- ---- the answer of a report that 1 to 14 and 16 do not turn back, by its rows, w cells each

pub record PaidOut (rows w : ℕ) (cells : List ℕ) (purse : ℕ) (shares : List ℕ) (out out' : List ℤ) (r : Result Prizes Refusal) : Type 0 where
  pub number : number_of r ≡ table_number purse shares w rows (length out)
  pub rows_paid : answered_payments r ≡ count_after (table_number purse shares w rows (length out)) rows
  pub club : answered_line r ≡ count_after (table_number purse shares w rows (length out)) (prize_line (chunk rows w cells) purse shares)
  pub output : out' ≡ output_after (table_number purse shares w rows (length out)) (prize_table (chunk rows w cells) purse shares) out
