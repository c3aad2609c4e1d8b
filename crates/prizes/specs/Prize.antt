-- The answer of the prize call (docs/DEFINITION.md, "The prize fund table" and "The calls"). A set and a plan are lists of bytes.
-- Definitions only.
use Rattle.std.specs.Prelude.{ℕ, ◌*◌, Bool, ◌&&◌, ◌≡◌, List, [], ◌∷◌, map, eqb, ltb, leb, ℤ, pos, length, get_or, if◌then◌else◌, Result, Ok, Err}
use Rattle.algebra.specs.Lists.{total}
use Rattle.algebra.specs.Plans.{Row}
use Rattle.reading.specs.Refusals.{number_of}
use Rattle.reading.specs.Check.{or_next, input_refusal}
use Rattle.reading.specs.declared.refusal.Refusal.{Refusal}
use Rattle.reporting.specs.Report.{report_rows, row_count, column_count, code_of, rows_number, count_after, output_after, scratch_after}
use Rattle.prizes.specs.Payments.{place_pence, payments, club_line}
use Rattle.prizes.specs.declared.answer.Prizes.{Prizes}

-- ---- a report of players and scores

-- the first column is the player, the second the score
abbrev pub player_of : Row → ℕ
player_of row = get_or row 0 0

abbrev pub score_of : Row → ℕ
score_of row = get_or row 1 0

-- player and pence, two codes a row; there are as many of the one as of the other
abbrev pub table_codes : List ℕ → List ℕ → List ℤ
table_codes [] pence = []
table_codes (player ∷ players) [] = []
table_codes (player ∷ players) (paid ∷ pence) = code_of player ∷ pos paid ∷ table_codes players pence

-- what the rows are paid, the table, and the club line, by a report's rows, the purse and the shares
abbrev pub row_payments : List Row → ℕ → List ℕ → List ℕ
row_payments rows purse shares = payments (map score_of rows) (place_pence purse shares)

abbrev pub prize_table : List Row → ℕ → List ℕ → List ℤ
prize_table rows purse shares = table_codes (map player_of rows) (row_payments rows purse shares)

abbrev pub prize_line : List Row → ℕ → List ℕ → ℕ
prize_line rows purse shares = club_line (map score_of rows) (place_pence purse shares)

-- ---- the number

-- a valid fund: a purse of at most 100,000,000 pence, and 1 to 20 shares that sum to 10,000
abbrev pub valid_fund : ℕ → List ℕ → Bool
valid_fund purse shares = leb purse 100000000 && leb 1 (length shares) && leb (length shares) 20 && eqb (total shares) 10000

-- 17: the fund is not valid
unfoldable pub fund_number : ℕ → List ℕ → ℕ
fund_number purse shares = if valid_fund purse shares then 0 else 17

-- 18: fewer than two columns
abbrev pub columns_number : ℕ → ℕ
columns_number columns = if ltb columns 2 then 18 else 0

-- 15: the output is short of two cells a row
abbrev pub table_room : ℕ → ℕ → ℕ
table_room rows room = if ltb room (2 * rows) then 15 else 0

-- 17, then 18, then 15, by the purse, the shares, the report's columns and rows, and the output's room
unfoldable pub table_number : ℕ → List ℕ → ℕ → ℕ → ℕ → ℕ
table_number purse shares columns rows room = or_next (fund_number purse shares) (or_next (columns_number columns) (table_room rows room))

-- The number of the call whose output has room for so many codes and whose scratch has so many cells: 1 to 14 and 16, which are reporting's,
-- then 17, 18 and 15; 0 where nothing is turned back.
unfoldable pub prize_number : List ℕ → List ℕ → ℕ → List ℕ → ℕ → ℕ → ℕ
prize_number set plan purse shares room scratch_room =
    or_next (rows_number set plan scratch_room) (table_number purse shares (column_count set plan) (row_count set plan) room)

-- ---- what is returned: the rows that are paid and the club line, or a refusal, which has zero for both

abbrev pub answered_payments : Result Prizes Refusal → ℕ
answered_payments (Ok prizes) = prizes.rows
answered_payments (Err refusal) = 0

abbrev pub answered_line : Result Prizes Refusal → ℕ
answered_line (Ok prizes) = prizes.club
answered_line (Err refusal) = 0

-- ---- the whole answer: r is returned, out and scratch become out' and scratch'. A refusal returns zero for the rows and for the club line,
-- and leaves the output untouched. Scratch is untouched after 1 to 14 and zero after every other call.
pub record Prized (set plan : List ℕ) (purse : ℕ) (shares : List ℕ) (out out' : List ℤ) (scratch scratch' : List ℕ) (r : Result Prizes Refusal) : Type 0 where
  pub number : number_of r ≡ prize_number set plan purse shares (length out) (length scratch)
  pub rows : answered_payments r ≡ count_after (prize_number set plan purse shares (length out) (length scratch)) (row_count set plan)
  pub club : answered_line r ≡ count_after (prize_number set plan purse shares (length out) (length scratch)) (prize_line (report_rows set plan) purse shares)
  pub output : out' ≡ output_after (prize_number set plan purse shares (length out) (length scratch)) (prize_table (report_rows set plan) purse shares) out
  pub cleared : scratch' ≡ scratch_after (input_refusal set plan) scratch
