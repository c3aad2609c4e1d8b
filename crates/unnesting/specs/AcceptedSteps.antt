-- What is claimed of lists of steps made elsewhere and of the call that checks them (docs/DEFINITION.md, "Steps made elsewhere"). Definitions
-- only; the proof is `accepted-steps` of proofs/AcceptedSteps.antt. A set, a plan, a list of steps and theirs are lists of bytes.
use Rattle.std.specs.Prelude.{ℕ, ◌*◌, ◌≤◌, ◌≡◌, List, [], ◌∷◌, ℤ, length, take, Ok}
use Rattle.std.proofs.Math.Option.{some}
use Rattle.algebra.specs.Plans.{Tables, Plan}
use Rattle.algebra.specs.Steps.{Step, attempt}
use Rattle.reading.specs.TableSet.{tables_of}
use Rattle.reading.specs.Tree.{plan_of}
use Rattle.reading.specs.Encoding.{plan_bytes}
use Rattle.reading.specs.Check.{input_refusal}
use Rattle.reporting.specs.Report.{report_rows, report_columns, Reported}
use Rattle.unnesting.specs.Unnest.{steps_need, unnest_need, step_bytes, written_steps, written_plan, Unnested}
use Rattle.unnesting.specs.Demand3.{SameAnswers}
use Rattle.unnesting.specs.CheckSteps.{check_steps_number, StepsChecked}

-- the steps lead from a plan to the last one: each fits on the plan that the one before it left, at whatever place
pub data Fit (T : Tables) : Plan → List Step → Plan → Type 0 where
  done : {p : Plan} → Fit T p [] p
  next : {p q last : Plan} {s : Step} {ss : List Step} → attempt T s p ≡ some q → Fit T q ss last → Fit T p (s ∷ ss) last

-- A list and theirs that are right: the list is the bytes of steps that each fit in their turn, and theirs, byte for byte, is the plan that they
-- lead to. Scratch has so many cells, enough for each plan on the way.
pub record Right (set plan steps theirs : List ℕ) (scratch_room : ℕ) : Type 0 where
  pub input : input_refusal set plan ≡ 0
  pub list : List Step
  pub last : Plan
  pub bytes : steps ≡ step_bytes list
  pub fit : Fit (tables_of set) (plan_of plan) list last
  pub end : theirs ≡ plan_bytes last
  pub enough : steps_need (tables_of set) list (plan_of plan) ≤ scratch_room

-- Another plan gives the same report: it is accepted, it has the same columns, and the same rows in the same order, each as often repeated; and
-- whatever buffers the reporting call gets, once for either plan, where it refuses neither, its answers are the same.
pub record SameReport (set plan other : List ℕ) : Type 0 where
  pub accepted : input_refusal set other ≡ 0
  pub same_columns : report_columns set other ≡ report_columns set plan
  pub same_rows : report_rows set other ≡ report_rows set plan
  pub reporting : (out out' : List ℤ) (scratch scratch' : List ℕ) (rows columns : ℕ) → Reported set plan out out' scratch scratch' (Ok (record { rows = rows; columns = columns }))
      → (next next' : List ℤ) (more more' : List ℕ) (rows' columns' : ℕ) → Reported set other next next' more more' (Ok (record { rows = rows'; columns = columns' }))
      → SameAnswers set plan (take (rows * columns) out') rows columns (take (rows' * columns') next') rows' columns'

pub record AcceptedSteps : Type 0 where
  -- 1. The call accepts what is right, and nothing else.
  pub right : (set plan steps theirs : List ℕ) (scratch_room : ℕ) → Right set plan steps theirs scratch_room → check_steps_number set plan steps theirs scratch_room ≡ 0
  pub nothing_else : (set plan steps theirs : List ℕ) (scratch_room : ℕ) → check_steps_number set plan steps theirs scratch_room ≡ 0 → Right set plan steps theirs scratch_room
  -- 2. Our own list and last plan pass wherever scratch is enough for each plan on the way;
  pub own : (set plan : List ℕ) (scratch_room : ℕ) → input_refusal set plan ≡ 0 → unnest_need set plan ≤ scratch_room
      → check_steps_number set plan (written_steps set plan) (written_plan set plan) scratch_room ≡ 0
  -- so what the unnesting call has written passes with as much scratch as that call had.
  pub own_written : (set plan plan_out plan_out' steps_out steps_out' scratch scratch' : List ℕ) (steps bytes : ℕ)
      → Unnested set plan plan_out plan_out' steps_out steps_out' scratch scratch' 0 steps bytes
      → check_steps_number set plan (take (2 * steps) steps_out') (take bytes plan_out') (length scratch) ≡ 0
  -- 3. Where the call accepts, whatever scratch it got, theirs gives the same report.
  pub same_report : (set plan steps theirs scratch scratch' : List ℕ) → StepsChecked set plan steps theirs scratch scratch' 0 → SameReport set plan theirs
