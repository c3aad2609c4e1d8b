-- The answer of the unnesting call (docs/DEFINITION.md, "Steps" and "The calls"). A set and a plan are lists of bytes.
-- Definitions only.
use Rattle.std.specs.Prelude.{ℕ, zero, suc, max, ◌||◌, ◌≡◌, ltb, length, drop, if◌then◌else◌, Result, Ok, Err}
use mathlib.Core.List.{List, [], ◌∷◌, ◌++◌, map, foldr}
use Rattle.algebra.specs.Lists.{flat_map}
use Rattle.algebra.specs.Plans.{Tables, Plan}
use Rattle.algebra.specs.Refusals.{need}
use Rattle.algebra.specs.Steps.{weight, Step, or_else, attempt, after, run}
use Rattle.reading.specs.TableSet.{tables_of}
use Rattle.reading.specs.Tree.{plan_of}
use Rattle.reading.specs.Encoding.{plan_bytes}
use Rattle.reading.specs.Check.{or_next, input_refusal}
use Rattle.reading.specs.Refusals.{number_of}
use Rattle.reading.specs.declared.refusal.Refusal.{Refusal}
use Rattle.reporting.specs.Report.{count_after, scratch_after}
use Rattle.unnesting.specs.declared.unnest.Unnested.{Unnested as Counts}

-- ---- the run

-- the steps: at the smallest place where a rule fits, again and again; the weight bounds how many there can be
abbrev pub unnest_steps : List ℕ → List ℕ → List Step
unnest_steps set plan = run (tables_of set) (weight (plan_of plan)) (plan_of plan)

-- the plan that they leave
abbrev pub unnest_plan : List ℕ → List ℕ → Plan
unnest_plan set plan = after (tables_of set) (unnest_steps set plan) (plan_of plan)

-- the plans that a list of steps passes through, the given and the last included
unfoldable pub passed_through : Tables → List Step → Plan → List Plan
passed_through T [] p = p ∷ []
passed_through T (s ∷ ss) p = p ∷ passed_through T ss (or_else p (attempt T s p))

abbrev pub largest : List ℕ → ℕ
largest xs = foldr max 0 xs

-- the largest need of any plan that a list of steps passes through
abbrev pub steps_need : Tables → List Step → Plan → ℕ
steps_need T ss p = largest (map (need T) (passed_through T ss p))

-- .. that the run passes through
unfoldable pub unnest_need : List ℕ → List ℕ → ℕ
unnest_need set plan = steps_need (tables_of set) (unnest_steps set plan) (plan_of plan)

-- ---- what is written

-- a step is two bytes: rule, and place before it
abbrev pub step_bytes : List Step → List ℕ
step_bytes ss = flat_map (λ s. s.number ∷ s.place ∷ []) ss

-- the bytes of the steps, and of the last plan
abbrev pub written_steps : List ℕ → List ℕ → List ℕ
written_steps set plan = step_bytes (unnest_steps set plan)

abbrev pub written_plan : List ℕ → List ℕ → List ℕ
written_plan set plan = plan_bytes (unnest_plan set plan)

-- ---- the number

-- 16: scratch is below the need of a plan passed through
abbrev pub unnest_scratch : List ℕ → List ℕ → ℕ → ℕ
unnest_scratch set plan scratch_room = if ltb scratch_room (unnest_need set plan) then 16 else 0

-- 15: an output is short of the last plan's bytes or of the steps'
abbrev pub unnest_output : List ℕ → List ℕ → ℕ → ℕ → ℕ
unnest_output set plan plan_room step_room =
    if ltb plan_room (length (written_plan set plan)) || ltb step_room (length (written_steps set plan)) then 15 else 0

-- The number of the call whose outputs have room for so many bytes of a plan and of steps, and whose scratch has so many cells: 1 to 14,
-- which are reading's, then 16, then 15; 0 where nothing is turned back.
unfoldable pub unnest_number : List ℕ → List ℕ → ℕ → ℕ → ℕ → ℕ
unnest_number set plan plan_room step_room scratch_room =
    or_next (input_refusal set plan) (or_next (unnest_scratch set plan scratch_room) (unnest_output set plan plan_room step_room))

-- ---- what is returned: how many steps there are and how many bytes the last plan takes, or a refusal, which has zero for both

abbrev pub answered_steps : Result Counts Refusal → ℕ
answered_steps (Ok counts) = counts.steps
answered_steps (Err refusal) = 0

abbrev pub answered_bytes : Result Counts Refusal → ℕ
answered_bytes (Ok counts) = counts.bytes
answered_bytes (Err refusal) = 0

-- ---- the whole answer

-- the bytes at the front and the rest as it was; a refusal leaves the output untouched
abbrev pub bytes_after : ℕ → List ℕ → List ℕ → List ℕ
bytes_after zero bytes out = bytes ++ drop (length bytes) out
bytes_after (suc number) bytes out = out

-- Refusal, step count and plan bytes are returned, the last two 0 when refused; the outputs and scratch become the marked ones. The last
-- plan and the steps stand at the front of their outputs, the rest is as it was, and a refusal leaves both untouched. Scratch is untouched
-- after 1 to 14 and zero after every other call.
pub record Unnested (set plan plan_out plan_out' steps_out steps_out' scratch scratch' : List ℕ) (refusal steps bytes : ℕ) : Type 0 where
  pub number : refusal ≡ unnest_number set plan (length plan_out) (length steps_out) (length scratch)
  pub step_count : steps ≡ count_after (unnest_number set plan (length plan_out) (length steps_out) (length scratch)) (length (unnest_steps set plan))
  pub byte_count : bytes ≡ count_after (unnest_number set plan (length plan_out) (length steps_out) (length scratch)) (length (written_plan set plan))
  pub plan_written : plan_out' ≡ bytes_after (unnest_number set plan (length plan_out) (length steps_out) (length scratch)) (written_plan set plan) plan_out
  pub steps_written : steps_out' ≡ bytes_after (unnest_number set plan (length plan_out) (length steps_out) (length scratch)) (written_steps set plan) steps_out
  pub cleared : scratch' ≡ scratch_after (input_refusal set plan) scratch

-- the same of the result that is returned
abbrev pub Returned : List ℕ → List ℕ → List ℕ → List ℕ → List ℕ → List ℕ → List ℕ → List ℕ → Result Counts Refusal → Type 0
Returned set plan plan_out plan_out' steps_out steps_out' scratch scratch' r =
    Unnested set plan plan_out plan_out' steps_out steps_out' scratch scratch' (number_of r) (answered_steps r) (answered_bytes r)
