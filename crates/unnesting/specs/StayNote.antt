-- The answer of the stay note call (docs/DEFINITION.md, "Stay notes" and "The calls"). A set and a plan are lists of bytes. Definitions only.
use Rattle.std.specs.Prelude.{ℕ, zero, suc, ◌≡◌, List, length, Option as Answer, None as Nothing, Some, Result, Ok, Err}
use Rattle.std.proofs.Math.Option.{Option, none, some}
use Rattle.algebra.specs.StayNotes.{Sequences, note_at, first_difference}
use Rattle.reading.specs.Refusals.{refusal_of, number_of}
use Rattle.reading.specs.TableSet.{tables_of}
use Rattle.reading.specs.Tree.{plan_of}
use Rattle.reading.specs.Check.{or_next, input_refusal}
use Rattle.reading.specs.declared.refusal.Refusal.{Refusal}
use Rattle.reporting.specs.Report.{scratch_number, scratch_after}

-- The number of the call whose scratch has so many cells: 1 to 14, which are reading's, then 16 by the given plan's need.
unfoldable pub stay_number : List ℕ → List ℕ → ℕ → ℕ
stay_number set plan scratch_room = or_next (input_refusal set plan) (scratch_number set plan scratch_room)

-- The two sequences of the note that is due at a place: there U3, U4 or U6 fails only because they differ. No note is due elsewhere.
abbrev pub note_due : List ℕ → List ℕ → ℕ → Option Sequences
note_due set plan place = note_at (tables_of set) (plan_of plan) place

-- a note that is due gives its sequences' first difference
abbrev pub position_of : Option Sequences → Answer ℕ
position_of none = Nothing
position_of (some s) = Some (first_difference s.first s.second)

-- so a call that is not refused gives this
abbrev pub note_of : Option Sequences → Result (Answer ℕ) Refusal
note_of due = Ok (position_of due)

-- a refused call gives the refusal that has its number
abbrev pub note_after : ℕ → Option Sequences → Result (Answer ℕ) Refusal
note_after zero due = note_of due
note_after (suc number) due = Err (refusal_of (suc number))

-- the answer of the call whose scratch has so many cells
abbrev pub stay_answer : List ℕ → List ℕ → ℕ → ℕ → Result (Answer ℕ) Refusal
stay_answer set plan place scratch_room = note_after (stay_number set plan scratch_room) (note_due set plan place)

-- The whole answer: r is returned, scratch becomes scratch'. Scratch is untouched after 1 to 14 and zero after every other call.
pub record StayNoted (set plan : List ℕ) (place : ℕ) (scratch scratch' : List ℕ) (r : Result (Answer ℕ) Refusal) : Type 0 where
  pub number : number_of r ≡ stay_number set plan (length scratch)
  pub answer : r ≡ stay_answer set plan place (length scratch)
  pub cleared : scratch' ≡ scratch_after (input_refusal set plan) scratch
