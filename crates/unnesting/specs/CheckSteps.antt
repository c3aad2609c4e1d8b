-- The answer of the call that checks a list of steps made elsewhere (docs/DEFINITION.md, "Steps made elsewhere" and "The calls"). A set, a
-- plan, a list of steps, and the plan that the list is said to leave, theirs, are lists of bytes. Definitions only.
use Rattle.std.specs.Prelude.{ℕ, ◌/◌, ◌%◌, Bool, ◌&&◌, ◌≡◌, List, [], ◌∷◌, eqb, ltb, leb, length, if◌then◌else◌}
use Rattle.algebra.specs.Lists.{all, same}
use Rattle.algebra.specs.Plans.{Tables, Plan}
use Rattle.algebra.specs.Steps.{Step, follow, fitted, tried}
use Rattle.reading.specs.TableSet.{tables_of}
use Rattle.reading.specs.Tree.{plan_of}
use Rattle.reading.specs.Check.{or_next, input_refusal}
use Rattle.reporting.specs.Report.{scratch_after}
use Rattle.unnesting.specs.Unnest.{steps_need}
use Rattle.unnesting.specs.Demand3.{bytes_left, steps_in}

-- ---- the list

-- its steps, two bytes each
abbrev pub listed : List ℕ → List Step
listed steps = steps_in (length steps / 2) steps

-- the number of a rule: 1 to 8
abbrev pub is_rule : ℕ → Bool
is_rule u = leb 1 u && leb u 8

-- 20: the list has an odd length, or a rule outside 1 to 8
unfoldable pub list_number : List ℕ → ℕ
list_number steps = if eqb (length steps % 2) 0 && all (λ s. is_rule s.number) (listed steps) then 0 else 20

-- ---- the plans reached

-- the steps before the first one that does not fit in its turn
unfoldable pub fitting : Tables → List Step → Plan → List Step
fitting T [] p = []
fitting T (s ∷ ss) p = follow (fitting T ss) (tried T p s.place s.number)

-- the largest need of any plan reached before that one: the given plan, the one at which it does not fit, and the last where all fit, included
unfoldable pub reached_need : List ℕ → List ℕ → List ℕ → ℕ
reached_need set plan steps = steps_need (tables_of set) (fitting (tables_of set) (listed steps) (plan_of plan)) (plan_of plan)

-- 16: scratch is below it
abbrev pub reached_scratch : List ℕ → List ℕ → List ℕ → ℕ → ℕ
reached_scratch set plan steps scratch_room = if ltb scratch_room (reached_need set plan steps) then 16 else 0

-- ---- the end

-- 21: not every step fits in its turn, or the plan left is not theirs, byte for byte
unfoldable pub end_number : List ℕ → List ℕ → List ℕ → List ℕ → ℕ
end_number set plan steps theirs =
    if eqb (fitted (tables_of set) (listed steps) (plan_of plan)) (length (listed steps)) && same (bytes_left set plan (listed steps)) theirs then 0 else 21

-- ---- the number

-- The number of the call whose scratch has so many cells: 1 to 14, which are reading's, for the set and the first plan, then 20, then 16,
-- then 21; 0 where the list and theirs are accepted.
unfoldable pub check_steps_number : List ℕ → List ℕ → List ℕ → List ℕ → ℕ → ℕ
check_steps_number set plan steps theirs scratch_room =
    or_next (input_refusal set plan) (or_next (list_number steps) (or_next (reached_scratch set plan steps scratch_room) (end_number set plan steps theirs)))

-- ---- the whole answer: the number is returned, scratch becomes scratch'. Scratch is untouched after 1 to 14 and zero after every other call.
pub record StepsChecked (set plan steps theirs scratch scratch' : List ℕ) (refusal : ℕ) : Type 0 where
  pub number : refusal ≡ check_steps_number set plan steps theirs (length scratch)
  pub cleared : scratch' ≡ scratch_after (input_refusal set plan) scratch
