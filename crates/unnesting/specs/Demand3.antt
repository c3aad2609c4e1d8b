-- Demand 3 over bytes, whole (docs/DEFINITION.md, "The three demands"). Definitions only; the proof is `demand_3` of proofs/Demand3.antt.
-- A set and a plan are lists of bytes. That each is below 256 is not asked for: the claim holds of any lists of numbers that the reading
-- of bytes does not turn back.
use Rattle.std.specs.Prelude.{ℕ, zero, suc, ◌+◌, ◌*◌, ◌≤◌, ◌≡◌, List, [], ◌∷◌, ℤ, length, take, drop, get_or, Ok}
use Rattle.std.proofs.Math.Option.{none}
use Rattle.algebra.specs.Plans.{Plan}
use Rattle.algebra.specs.Steps.{weight, Step, attempt, after, fitted}
use Rattle.algebra.specs.Demand3.{Run}
use Rattle.reading.specs.TableSet.{tables_of}
use Rattle.reading.specs.Tree.{plan_of}
use Rattle.reading.specs.Encoding.{plan_bytes}
use Rattle.reading.specs.Check.{input_refusal}
use Rattle.reporting.specs.Report.{report_rows, report_columns, row_count, column_count, report_codes, Reported}
use Rattle.unnesting.specs.Unnest.{Unnested}

-- the plan that a list of steps leaves, tried one after another from the plan given
abbrev pub plan_left : List ℕ → List ℕ → List Step → Plan
plan_left set plan ss = after (tables_of set) ss (plan_of plan)

-- its bytes
abbrev pub bytes_left : List ℕ → List ℕ → List Step → List ℕ
bytes_left set plan ss = plan_bytes (plan_left set plan ss)

-- the first n steps of a list of bytes, two bytes each: rule and place
unfoldable pub steps_in : ℕ → List ℕ → List Step
steps_in zero bytes = []
steps_in (suc n) bytes = record { number = get_or bytes 0 0; place = get_or bytes 1 0 } ∷ steps_in n (drop 2 bytes)

-- Of the unnesting call's own steps, its step count and the plan that it wrote.
pub record OwnSteps (set plan : List ℕ) (own : List Step) (steps : ℕ) (written : List ℕ) : Type 0 where
  pub counted : steps ≡ length own
  -- each step fits, at the smallest place where a rule does, on the plan that the one before it left
  pub runs : Run (tables_of set) (plan_of plan) own (plan_left set plan own)
  -- so all of them fit
  pub every_fits : fitted (tables_of set) own (plan_of plan) ≡ length own
  -- they leave the plan written, byte for byte
  pub leaves : written ≡ bytes_left set plan own
  -- no rule fits at any place of it
  pub none_left : (s : Step) → attempt (tables_of set) s (plan_left set plan own) ≡ none

-- Of two answers of the reporting call: the same counts and the same cells, row by row, those of the report as defined of the plan.
pub record SameAnswers (set plan : List ℕ) (cells : List ℤ) (rows columns : ℕ) (cells' : List ℤ) (rows' columns' : ℕ) : Type 0 where
  pub rows_same : rows' ≡ rows
  pub columns_same : columns' ≡ columns
  pub cells_same : cells' ≡ cells
  pub rows_defined : rows ≡ row_count set plan
  pub columns_defined : columns ≡ column_count set plan
  pub cells_defined : cells ≡ report_codes set plan

-- What demand 3 claims of a set, a plan and a list of steps, any numbers of rules and places.
pub record Demand3 (set plan : List ℕ) (ss : List Step) : Type 0 where
  -- the plan left is accepted as well, and its bytes are read as that plan
  pub accepted : input_refusal set (bytes_left set plan ss) ≡ 0
  pub read_back : plan_of (bytes_left set plan ss) ≡ plan_left set plan ss
  -- 1. Its report has the same columns, and the same rows in the same order, each as often repeated.
  pub same_columns : report_columns set (bytes_left set plan ss) ≡ report_columns set plan
  pub same_rows : report_rows set (bytes_left set plan ss) ≡ report_rows set plan
  -- 2. The number of steps that fitted and the weight of the plan left are together at most the weight of the first plan.
  pub paid : fitted (tables_of set) ss (plan_of plan) + weight (plan_of (bytes_left set plan ss)) ≤ weight (plan_of plan)
  -- 3. Whatever buffers the unnesting call gets, where it does not refuse: the steps and the plan that it wrote are as `OwnSteps` says, and
  -- its step count is how many they are.
  pub unnesting : (plan_out plan_out' steps_out steps_out' scratch scratch' : List ℕ) (steps bytes : ℕ)
      → Unnested set plan plan_out plan_out' steps_out steps_out' scratch scratch' 0 steps bytes
      → OwnSteps set plan (steps_in steps steps_out') steps (take bytes plan_out')
  -- 4. Whatever buffers the reporting call gets, once for the first plan and once for the one left, where it refuses neither: its answers
  -- are the same.
  pub reporting : (out out' : List ℤ) (scratch scratch' : List ℕ) (rows columns : ℕ) → Reported set plan out out' scratch scratch' (Ok (record { rows = rows; columns = columns }))
      → (next next' : List ℤ) (more more' : List ℕ) (rows' columns' : ℕ) → Reported set (bytes_left set plan ss) next next' more more' (Ok (record { rows = rows'; columns = columns' }))
      → SameAnswers set plan (take (rows * columns) out') rows columns (take (rows' * columns') next') rows' columns'

-- Demand 3: of any set and plan that none of 1 to 14 turns back, and any list of steps.
abbrev pub Claim : Type 0
Claim = (set plan : List ℕ) → input_refusal set plan ≡ 0 → (ss : List Step) → Demand3 set plan ss
