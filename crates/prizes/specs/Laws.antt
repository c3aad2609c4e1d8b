-- What is claimed of the prize fund table (docs/DEFINITION.md, "The prize fund table"). Definitions only; the proof is `adds_up` of
-- proofs/Laws.antt.
use Rattle.std.specs.Prelude.{ℕ, zero, suc, ◌+◌, ◌≡◌, List, [], ◌∷◌, ℤ, pos, ◌+ℤ◌, length, Result}
use Rattle.algebra.specs.Lists.{total}
use Rattle.reading.specs.Refusals.{number_of}
use Rattle.reading.specs.declared.refusal.Refusal.{Refusal}
use Rattle.prizes.specs.Payments.{place_pence, payments, club_line}
use Rattle.prizes.specs.Prize.{fund_number, answered_payments, answered_line, Prized}
use Rattle.prizes.specs.declared.answer.Prizes.{Prizes}

-- the pence in the first so many rows of a table of player and pence
abbrev pub paid_in : ℕ → List ℤ → ℤ
paid_in zero out = pos 0
paid_in (suc rows) [] = pos 0
paid_in (suc rows) (player ∷ []) = pos 0
paid_in (suc rows) (player ∷ paid ∷ out) = paid +ℤ paid_in rows out

-- Payments and the club line add up to the purse.
pub record AddsUp : Type 0 where
  -- for any scores, purse and shares that are not refused 17; and each row is paid
  pub pence_add : (scores : List ℕ) (purse : ℕ) (shares : List ℕ) → fund_number purse shares ≡ 0
      → total (payments scores (place_pence purse shares)) + club_line scores (place_pence purse shares) ≡ purse
  pub each_row : (scores pence : List ℕ) → length (payments scores pence) ≡ length scores
  -- for the codes that a call wrote and the club line that it gave
  pub codes_add : (set plan : List ℕ) (purse : ℕ) (shares : List ℕ) (out out' : List ℤ) (scratch scratch' : List ℕ) (r : Result Prizes Refusal)
      → Prized set plan purse shares out out' scratch scratch' r → number_of r ≡ 0
      → paid_in (answered_payments r) out' +ℤ pos (answered_line r) ≡ pos purse
