-- Plans held as bytes while the rules are tried, one step after another. The contracts of helpers speak of these; trying a step is the
-- algebra's `attempt`, and the calls' answers are in `Unnest`, `StayNote` and `CheckSteps`. Definitions only.
use Rattle.std.specs.Prelude.{ℕ, ◌*◌, ◌≤◌, ◌<◌, true, ◌≡◌, List, length, take, Option as Answer, None, Some, Result, Ok, Err}
use Rattle.std.proofs.Math.Option.{Option, none, some}
use Rattle.algebra.specs.Plans.{Tables, Plan}
use Rattle.algebra.specs.Places.{modify}
use Rattle.algebra.specs.Refusals.{need, passes}
use Rattle.algebra.specs.Rules.{fresh, number_at}
use Rattle.algebra.specs.Steps.{Step, accepted, attempt, fitted}
use Rattle.algebra.specs.Demand3.{Still}
use Rattle.reading.specs.TableSet.{tables_of}
use Rattle.reading.specs.Encoding.{plan_bytes}
use Rattle.reading.specs.Tree.{plan_of}
use Rattle.reading.specs.Check.{input_refusal}
use Rattle.reading.specs.Refusals.{refusal_number}
use Rattle.reading.specs.declared.refusal.Refusal.{Refusal}
use Rattle.unnesting.specs.Unnest.{unnest_steps, unnest_need, written_steps, written_plan}
use Rattle.unnesting.specs.Demand3.{bytes_left}
use Rattle.unnesting.specs.CheckSteps.{listed, reached_need}
use Rattle.unnesting.specs.Shapes.{rule_number, shape}
use Rattle.unnesting.specs.declared.step.Next.{Next}
use Rattle.unnesting.specs.declared.step.Found.{Found}
use Rattle.unnesting.specs.declared.run.Ran.{Ran}
use Rattle.unnesting.specs.declared.follow.Stopped.{Stopped}
use Rattle.unnesting.specs.declared.follow.Stopped.TheVariants.{Short, Unfit}

-- the plan after the rule at a place, where rows do not stand against it and it passes 8 to 14
abbrev pub possible : Tables → Plan → ℕ → Option Plan
possible T p i = accepted T (modify (shape T (fresh T p)) p i)

-- a refusal turns back an input
abbrev pub TurnsBack : List ℕ → List ℕ → Refusal → Type 0
TurnsBack set plan refusal = (input_refusal set plan ≡ refusal_number refusal) × (0 < refusal_number refusal)

-- the step that the node at a place names
abbrev pub named_step : Plan → ℕ → Step
named_step p i = record { number = number_at p i; place = i }

-- an accepted plan q, as bytes at the front of a buffer, with its need
pub record Stored (set buffer : List ℕ) (long cells : ℕ) (q : Plan) : Type 0 where
  pub bytes : take long buffer ≡ plan_bytes q
  pub short : long ≤ 2054
  pub allowed : input_refusal set (plan_bytes q) ≡ 0
  pub passed : passes (tables_of set) q ≡ true
  pub read : plan_of (plan_bytes q) ≡ q
  pub needed : cells ≡ need (tables_of set) q

-- an answer tells whether there is a plan after a step, and leaves it in the buffer
pub record Left (set buffer : List ℕ) (plan : Option Plan) (long cells : ℕ) : Type 0 where
  pub after : Plan
  pub is : plan ≡ some after
  pub stored : Stored set buffer long cells after

abbrev pub Tells : List ℕ → List ℕ → Option Plan → Answer Next → Type 0
Tells set buffer plan None = plan ≡ none
Tells set buffer plan (Some next) = Left set buffer plan next.length next.need

-- the step at the smallest place where a rule fits, or that none fits anywhere
pub record Smallest (set buffer : List ℕ) (p : Plan) (rule place long cells : ℕ) : Type 0 where
  pub low : 1 ≤ rule
  pub high : rule ≤ 8
  pub first : (i : ℕ) → i < place → Still (tables_of set) p i
  pub left : Left set buffer (attempt (tables_of set) (record { number = rule; place = place }) p) long cells

abbrev pub Finds : List ℕ → List ℕ → Plan → Answer Found → Type 0
Finds set buffer p None = (i : ℕ) → Still (tables_of set) p i
Finds set buffer p (Some found) = Smallest set buffer p (rule_number found.rule) found.place found.next.length found.next.need

-- ---- the run

-- The run from a plan to the last one, in so many cells of scratch: its steps and the last plan are left at the front of two buffers.
pub record Ends (set plan : List ℕ) (room : ℕ) (current steps : List ℕ) (count long : ℕ) : Type 0 where
  pub enough : unnest_need set plan ≤ room
  pub counted : count ≡ length (unnest_steps set plan)
  pub written : take (2 * count) steps ≡ written_steps set plan
  pub bytes : long ≡ length (written_plan set plan)
  pub last : take long current ≡ written_plan set plan

abbrev pub Runs : List ℕ → List ℕ → ℕ → List ℕ → List ℕ → Answer Ran → Type 0
Runs set plan room current steps None = room < unnest_need set plan
Runs set plan room current steps (Some ran) = Ends set plan room current steps ran.steps ran.length

-- ---- a list of steps followed

-- the number that refuses a list which is not followed to its end
abbrev pub stopped_number : Stopped → ℕ
stopped_number Short = 16
stopped_number Unfit = 21

-- Scratch of so many cells was enough for every plan reached, and each step fitted in its turn: the plan left stands at the front of a buffer.
pub record Arrives (set plan steps : List ℕ) (room : ℕ) (current : List ℕ) (long : ℕ) : Type 0 where
  pub enough : reached_need set plan steps ≤ room
  pub every : fitted (tables_of set) (listed steps) (plan_of plan) ≡ length (listed steps)
  pub last : take long current ≡ bytes_left set plan (listed steps)
  pub short : long ≤ 2054

-- It was enough, and a step did not fit in its turn.
pub record Fails (set plan steps : List ℕ) (room : ℕ) : Type 0 where
  pub enough : reached_need set plan steps ≤ room
  pub fewer : fitted (tables_of set) (listed steps) (plan_of plan) < length (listed steps)

abbrev pub Follows : List ℕ → List ℕ → List ℕ → ℕ → List ℕ → Result ℕ Stopped → Type 0
Follows set plan steps room current (Err Short) = room < reached_need set plan steps
Follows set plan steps room current (Err Unfit) = Fails set plan steps room
Follows set plan steps room current (Ok long) = Arrives set plan steps room current long
