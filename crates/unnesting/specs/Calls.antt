-- No result of a call is left to the program (docs/DEFINITION.md, "The calls"): its answer and what it leaves in its buffers are functions of
-- what it is given and lent. Definitions only; the proof is `nothing_left` of proofs/Calls.antt. A set and a plan are lists of bytes.
use Rattle.std.specs.Prelude.{ℕ, ◌≡◌, List, ℤ, length, Option, Result}
use Rattle.std.proofs.Math.Option.{some}
use Rattle.algebra.specs.StayNotes.{Sequences, first_difference, SmallestDifference}
use Rattle.reading.specs.Refusals.{number_of}
use Rattle.reading.specs.declared.refusal.Refusal.{Refusal}
use Rattle.reporting.specs.declared.answer.Report.{Report}
use Rattle.reporting.specs.Report.{Reported}
use Rattle.unnesting.specs.declared.unnest.Unnested.{Unnested as Counts}
use Rattle.unnesting.specs.Unnest.{Returned}
use Rattle.unnesting.specs.StayNote.{note_due, StayNoted}
use Rattle.unnesting.specs.CheckSteps.{StepsChecked}

-- A promise is a claim about what a call is given, what the buffers lent hold before and after it, and its answer. It is determined where
-- one answer and one content of the buffers keep it. So two calls that are given the same, and are lent buffers of the same sizes, answer
-- the same; and where these buffers held the same before, they hold the same afterwards (`same_answer` and `same_buffers` of proofs/Calls.antt).
pub record Determined {Given Buffers Sizes Answer : Type 0} (sizes : Buffers → Sizes) (Promise : Given → Buffers → Buffers → Answer → Type 0) : Type 0 where
  -- the answer, by what is given and by the buffers' sizes, whatever stands in them
  pub answer : Given → Sizes → Answer
  -- what the buffers hold after the call
  pub after : Given → Buffers → Buffers
  -- these keep the promise, and nothing else does
  pub kept : (given : Given) (before : Buffers) → Promise given before (after given before) (answer given (sizes before))
  pub only : (given : Given) (before left : Buffers) (r : Answer) → Promise given before left r → (left ≡ after given before) × (r ≡ answer given (sizes before))

-- ---- the four calls: what they promise, and the sizes of what they are lent

-- given a set and a plan; lent an output and scratch
abbrev pub ReportPromise : List ℕ × List ℕ → List ℤ × List ℕ → List ℤ × List ℕ → Result Report Refusal → Type 0
ReportPromise (set, plan) (out, scratch) (out', scratch') r = Reported set plan out out' scratch scratch' r

abbrev pub report_sizes : List ℤ × List ℕ → ℕ × ℕ
report_sizes (out, scratch) = (length out, length scratch)

-- given a set and a plan; lent an output for the plan, one for the steps, and scratch
abbrev pub UnnestPromise : List ℕ × List ℕ → List ℕ × List ℕ × List ℕ → List ℕ × List ℕ × List ℕ → Result Counts Refusal → Type 0
UnnestPromise (set, plan) (plan_out, steps_out, scratch) (plan_out', steps_out', scratch') r =
    Returned set plan plan_out plan_out' steps_out steps_out' scratch scratch' r

abbrev pub unnest_sizes : List ℕ × List ℕ × List ℕ → ℕ × ℕ × ℕ
unnest_sizes (plan_out, steps_out, scratch) = (length plan_out, length steps_out, length scratch)

-- given a set, a plan and a place; lent scratch
abbrev pub StayNotePromise : List ℕ × List ℕ × ℕ → List ℕ → List ℕ → Result (Option ℕ) Refusal → Type 0
StayNotePromise (set, plan, place) scratch scratch' r = StayNoted set plan place scratch scratch' r

-- given a set, a plan, a list of steps and the plan theirs; lent scratch
abbrev pub CheckStepsPromise : List ℕ × List ℕ × List ℕ × List ℕ → List ℕ → List ℕ → Result (Unit {0}) Refusal → Type 0
CheckStepsPromise (set, plan, steps, theirs) scratch scratch' r = StepsChecked set plan steps theirs scratch scratch' (number_of r)

-- ---- the claim
pub record NothingLeft : Type 0 where
  pub report : Determined report_sizes ReportPromise
  pub unnest : Determined unnest_sizes UnnestPromise
  pub stay_note : Determined length StayNotePromise
  pub check_steps : Determined length CheckStepsPromise
  -- and a note's position is the smallest at which its sequences differ or just one has ended
  pub smallest : (set plan : List ℕ) (place : ℕ) (s : Sequences) → note_due set plan place ≡ some s
      → SmallestDifference s.first s.second (first_difference s.first s.second)
