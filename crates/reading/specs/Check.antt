-- The whole of reading: what a set and a plan are turned back for, and what they give where they are not (docs/DEFINITION.md, "Refusals"
-- and "The calls"). Definitions only.
use Rattle.std.specs.Prelude.{ℕ, zero, suc, List, if◌then◌else◌, Result, Ok, Err}
use Rattle.algebra.specs.Plans.{Tables}
use Rattle.algebra.specs.Refusals.{refusal, need}
use Rattle.reading.specs.Refusals.{number_of, refusal_of}
use Rattle.reading.specs.TableSet.{read_set_as, amount_of, known_tables, tables_as}
use Rattle.reading.specs.Plan.{read_plan_as, nodes_of}
use Rattle.reading.specs.Tree.{plan_of, whole_tree}
use Rattle.reading.specs.declared.version.Version.{Version}
use Rattle.reading.specs.declared.version.Version.TheVariants.{Second}
use Rattle.reading.specs.declared.refusal.Refusal.{Refusal}
use Rattle.reading.specs.declared.input.Accepted.{Accepted}

-- ---- The numbers; 0 where nothing is turned back

-- 1 to 5
abbrev pub set_number : Result ℕ Refusal → ℕ
set_number r = number_of r

-- 6 to 9
abbrev pub plan_number : Result ℕ Refusal → ℕ
plan_number r = number_of r

-- the first of two numbers that turns back
abbrev pub or_next : ℕ → ℕ → ℕ
or_next zero next = next
or_next (suc number) next = suc number

-- 10
abbrev pub tree_number : List ℕ → ℕ
tree_number plan = if whole_tree plan then 0 else 10

-- 6 to 14 of a plan of version v over these tables
abbrev pub refusal_over_as : Version → Tables → List ℕ → ℕ
refusal_over_as v T plan = or_next (plan_number (read_plan_as v plan)) (or_next (tree_number plan) (refusal T (plan_of plan)))

-- .. over a set of version v that is not turned back
unfoldable pub plan_refusal_as : Version → List ℕ → List ℕ → ℕ
plan_refusal_as v set plan = refusal_over_as v (tables_as v set) plan

-- 1 to 14: the set before the plan
unfoldable pub input_refusal_as : Version → List ℕ → List ℕ → ℕ
input_refusal_as v set plan = or_next (set_number (read_set_as v set)) (plan_refusal_as v set plan)

-- ---- The answer

-- an answer's number
abbrev pub checked_number : Result Accepted Refusal → ℕ
checked_number r = number_of r

-- the scratch that it asks for; 0 where the input is turned back
abbrev pub checked_need : Result Accepted Refusal → ℕ
checked_need (Ok accepted) = accepted.need
checked_need (Err refusal) = 0

-- accepted, with the tables, the nodes and the need in cells; or the refusal of that number
abbrev pub answer : ℕ → ℕ → ℕ → ℕ → Result Accepted Refusal
answer zero tables nodes cells = Ok (record { tables = tables; nodes = nodes; need = cells })
answer (suc number) tables nodes cells = Err (refusal_of (suc number))

-- of a set and a plan of version v
unfoldable pub check_as : Version → List ℕ → List ℕ → Result Accepted Refusal
check_as v set plan = answer (input_refusal_as v set plan) (amount_of (read_set_as v set)) (nodes_of plan) (need (tables_as v set) (plan_of plan))

-- The answer over a set that is known to have so many tables: 6 to 14 only, so that the set is read once for many plans.
unfoldable pub check_over_as : Version → ℕ → List ℕ → List ℕ → Result Accepted Refusal
check_over_as v tables set plan =
    answer (refusal_over_as v (known_tables tables set) plan) tables (nodes_of plan) (need (known_tables tables set) (plan_of plan))

-- ---- What the calls meet and answer: version 2

abbrev pub refusal_over : Tables → List ℕ → ℕ
refusal_over T plan = refusal_over_as Second T plan

abbrev pub plan_refusal : List ℕ → List ℕ → ℕ
plan_refusal set plan = plan_refusal_as Second set plan

abbrev pub input_refusal : List ℕ → List ℕ → ℕ
input_refusal set plan = input_refusal_as Second set plan

abbrev pub check_of : List ℕ → List ℕ → Result Accepted Refusal
check_of set plan = check_as Second set plan

abbrev pub check_over : ℕ → List ℕ → List ℕ → Result Accepted Refusal
check_over tables set plan = check_over_as Second tables set plan
