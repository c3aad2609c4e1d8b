-- The plan's bytes, and the refusals 6 to 9 (docs/DEFINITION.md, "The plan's bytes").
-- A plan is a list of bytes: 6 bytes of header, which says its version, then 24 or 32 bytes for each node. A plan is read as one of the two
-- versions, v. Definitions only.
use Rattle.std.specs.Prelude.{ℕ, ◌+◌, ◌*◌, Bool, ◌&&◌, ◌||◌, not, List, [], ◌∷◌, length, take, drop, leb, ltb, eqb, if◌then◌else◌, Result, Ok, Err}
use Rattle.algebra.specs.Cells.{within_reach}
use Rattle.reading.specs.Bytes.{byte_at, u16_at, unsigned_at, starts_with, all_below}
use Rattle.reading.specs.Versions.{version_number, version_of, cell_size, node_size, test_size, reach_of, word_of}
use Rattle.reading.specs.declared.version.Version.{Version}
use Rattle.reading.specs.declared.version.Version.TheVariants.{Second}
use Rattle.reading.specs.declared.refusal.Refusal.{Refusal}
use Rattle.reading.specs.declared.refusal.Refusal.TheVariants.{PlanLength, PlanMark, NodeCount, NodeField}
use Rattle.reading.specs.declared.kinds.Kind.{Kind}
use Rattle.reading.specs.declared.kinds.Kind.TheVariants.{Unit, Scan, Select, Project, Distinct, Cross, Semi, Anti, Some, Every, Fold, Each, Pair, Group, Sort, Other}
use Rattle.reading.specs.declared.comparison.Comparison.{Comparison}
use Rattle.reading.specs.declared.comparison.Comparison.TheVariants.{Equal, Unequal, Less, AtMost, Greater, AtLeast, Other as Unnamed}
use Rattle.reading.specs.declared.plan.Test.{Test}
use Rattle.reading.specs.declared.plan.Test.TheVariants.{Always, Columns, Number}
use Rattle.reading.specs.declared.plan.Node.{Node}

-- ---- The kinds

-- the kind that byte 0 names; a byte above 14 names none, and is kept
abbrev pub kind_of : ℕ → Kind
kind_of byte =
    if eqb byte 0 then Unit else
    if eqb byte 1 then Scan else
    if eqb byte 2 then Select else
    if eqb byte 3 then Project else
    if eqb byte 4 then Distinct else
    if eqb byte 5 then Cross else
    if eqb byte 6 then Semi else
    if eqb byte 7 then Anti else
    if eqb byte 8 then Some else
    if eqb byte 9 then Every else
    if eqb byte 10 then Fold else
    if eqb byte 11 then Each else
    if eqb byte 12 then Pair else
    if eqb byte 13 then Group else
    if eqb byte 14 then Sort else
    Other byte

-- a kind's place among the kinds, from 0 on; a byte that names none comes after all of them
abbrev pub kind_row : Kind → ℕ
kind_row Unit = 0
kind_row Scan = 1
kind_row Select = 2
kind_row Project = 3
kind_row Distinct = 4
kind_row Cross = 5
kind_row Semi = 6
kind_row Anti = 7
kind_row Some = 8
kind_row Every = 9
kind_row Fold = 10
kind_row Each = 11
kind_row Pair = 12
kind_row Group = 13
kind_row Sort = 14
kind_row (Other byte) = 15

-- the byte that names a kind
abbrev pub kind_number : Kind → ℕ
kind_number (Other byte) = byte
kind_number kind = kind_row kind

-- The table of kinds: a row of 10 for each kind. The number of children; the largest value of each of the bytes 1 to 7, 0
-- where the kind does not list the byte; whether the kind has a list; whether it has a test.
abbrev pub kind_table : List ℕ
kind_table =
    0 ∷ 0 ∷ 0 ∷ 0 ∷ 0 ∷ 0 ∷ 0 ∷ 0 ∷ 0 ∷ 0 ∷
    0 ∷ 255 ∷ 255 ∷ 0 ∷ 0 ∷ 0 ∷ 0 ∷ 0 ∷ 0 ∷ 0 ∷
    1 ∷ 0 ∷ 0 ∷ 0 ∷ 0 ∷ 0 ∷ 0 ∷ 0 ∷ 0 ∷ 1 ∷
    1 ∷ 0 ∷ 0 ∷ 0 ∷ 0 ∷ 0 ∷ 0 ∷ 0 ∷ 1 ∷ 0 ∷
    1 ∷ 0 ∷ 0 ∷ 0 ∷ 0 ∷ 0 ∷ 0 ∷ 0 ∷ 1 ∷ 0 ∷
    2 ∷ 0 ∷ 0 ∷ 0 ∷ 0 ∷ 0 ∷ 0 ∷ 0 ∷ 0 ∷ 0 ∷
    2 ∷ 0 ∷ 0 ∷ 255 ∷ 255 ∷ 0 ∷ 0 ∷ 0 ∷ 0 ∷ 1 ∷
    2 ∷ 0 ∷ 0 ∷ 255 ∷ 255 ∷ 0 ∷ 0 ∷ 0 ∷ 0 ∷ 1 ∷
    2 ∷ 0 ∷ 0 ∷ 0 ∷ 0 ∷ 0 ∷ 0 ∷ 0 ∷ 0 ∷ 1 ∷
    2 ∷ 0 ∷ 0 ∷ 0 ∷ 0 ∷ 0 ∷ 0 ∷ 0 ∷ 0 ∷ 1 ∷
    2 ∷ 3 ∷ 255 ∷ 0 ∷ 0 ∷ 0 ∷ 255 ∷ 0 ∷ 0 ∷ 1 ∷
    2 ∷ 0 ∷ 0 ∷ 0 ∷ 0 ∷ 0 ∷ 0 ∷ 0 ∷ 0 ∷ 0 ∷
    2 ∷ 3 ∷ 255 ∷ 255 ∷ 255 ∷ 5 ∷ 255 ∷ 0 ∷ 0 ∷ 1 ∷
    1 ∷ 3 ∷ 255 ∷ 255 ∷ 255 ∷ 5 ∷ 255 ∷ 0 ∷ 0 ∷ 1 ∷
    1 ∷ 1 ∷ 0 ∷ 0 ∷ 0 ∷ 0 ∷ 0 ∷ 0 ∷ 1 ∷ 0 ∷ []

-- column j of a kind's row
abbrev pub kind_entry : ℕ → ℕ → ℕ
kind_entry kind j = byte_at kind_table (10 * kind + j)

-- The largest value of each of a test's bytes: a row of 16 for a kind with no test, then for the forms 0, 1 and 2. A test of version 1 has 8
-- bytes, whose limits are the first 8 of a row.
abbrev pub test_limits : List ℕ
test_limits =
    0 ∷ 0 ∷ 0 ∷ 0 ∷ 0 ∷ 0 ∷ 0 ∷ 0 ∷ 0 ∷ 0 ∷ 0 ∷ 0 ∷ 0 ∷ 0 ∷ 0 ∷ 0 ∷
    0 ∷ 0 ∷ 1 ∷ 0 ∷ 0 ∷ 0 ∷ 0 ∷ 0 ∷ 0 ∷ 0 ∷ 0 ∷ 0 ∷ 0 ∷ 0 ∷ 0 ∷ 0 ∷
    1 ∷ 5 ∷ 1 ∷ 255 ∷ 255 ∷ 0 ∷ 0 ∷ 0 ∷ 0 ∷ 0 ∷ 0 ∷ 0 ∷ 0 ∷ 0 ∷ 0 ∷ 0 ∷
    2 ∷ 5 ∷ 1 ∷ 255 ∷ 255 ∷ 255 ∷ 255 ∷ 255 ∷ 255 ∷ 255 ∷ 255 ∷ 255 ∷ 0 ∷ 0 ∷ 0 ∷ 0 ∷ []

-- ---- The fields of a node's bytes

-- the number that a test's form 2 compares with, from byte 20 on, as a cell's word
abbrev pub test_number : Version → List ℕ → ℕ
test_number v node = word_of v (unsigned_at (cell_size v) (drop 20 node) 0)

-- the first n bytes are at most as large as the limits say
abbrev pub limited : ℕ → List ℕ → List ℕ → Bool
limited n bytes limits = all_below n (λ j. leb (byte_at bytes j) (byte_at limits j))

-- the list's bytes past its length are 0
unfoldable pub list_ends : List ℕ → ℕ → Bool
list_ends node listed = all_below 7 (λ j. ltb j listed || eqb (byte_at node (9 + j)) 0)

-- a list has 1 to 7 entries, and a kind with none has length 0
abbrev pub list_allowed : ℕ → List ℕ → Bool
list_allowed has node =
    leb has (byte_at node 8) && (leb (byte_at node 8) (7 * has) && list_ends node (byte_at node 8))

-- a kind with no test has only zeros there; else the row of the test's form. Past the last row every limit is 0, so no other form passes
abbrev pub test_row : ℕ → ℕ → ℕ
test_row has form = if eqb has 0 then 0 else 16 * (1 + form)

-- a test's bytes are in range, unused ones 0, and its number is in the version's range
abbrev pub test_allowed : Version → ℕ → List ℕ → Bool
test_allowed v has node =
    limited (test_size v) (drop 16 node) (drop (test_row has (byte_at node 16)) test_limits)
    && (not (eqb (byte_at node 16) 2) || within_reach (reach_of v) (test_number v node))

-- byte 6, the aggregate column, is 0 for count
abbrev pub count_allowed : List ℕ → Bool
count_allowed node = not (eqb (byte_at node 1) 0) || eqb (byte_at node 6) 0

-- every field is one that the kind lists, in its range
unfoldable pub fields_allowed : Version → List ℕ → Bool
fields_allowed v node =
    ltb (byte_at node 0) 15
    && (limited 7 (drop 1 node) (drop (10 * byte_at node 0 + 1) kind_table)
    && (count_allowed node
    && (list_allowed (kind_entry (byte_at node 0) 8) node
    && test_allowed v (kind_entry (byte_at node 0) 9) node)))

-- ---- The comparisons

-- the comparison that a byte names: 0 =, 1 ≠, 2 <, 3 ≤, 4 >, 5 ≥; a byte above 5 names none, and is kept
abbrev pub comparison_from : ℕ → Comparison
comparison_from byte =
    if eqb byte 0 then Equal else
    if eqb byte 1 then Unequal else
    if eqb byte 2 then Less else
    if eqb byte 3 then AtMost else
    if eqb byte 4 then Greater else
    if eqb byte 5 then AtLeast else
    Unnamed byte

-- the byte that names a comparison
abbrev pub comparison_number : Comparison → ℕ
comparison_number Equal = 0
comparison_number Unequal = 1
comparison_number Less = 2
comparison_number AtMost = 3
comparison_number Greater = 4
comparison_number AtLeast = 5
comparison_number (Unnamed byte) = byte

-- ---- The nodes

abbrev pub plan_version : List ℕ → Version
plan_version plan = version_of (u16_at plan 3)

-- the bytes of node i
abbrev pub node_part : List ℕ → ℕ → List ℕ
node_part plan i = take (node_size (plan_version plan)) (drop (6 + node_size (plan_version plan) * i) plan)

unfoldable pub test_of : Version → List ℕ → Test
test_of v node =
    if eqb (byte_at node 16) 0 then Always else
    if eqb (byte_at node 16) 1 then Columns (comparison_from (byte_at node 17)) (byte_at node 19) (byte_at node 20) else
    Number (comparison_from (byte_at node 17)) (byte_at node 19) (test_number v node)

unfoldable pub node_of : Version → List ℕ → Node
node_of v node =
    record {
      kind = kind_of (byte_at node 0);
      arg = byte_at node 1;
      id = byte_at node 2;
      left = byte_at node 3;
      right = byte_at node 4;
      comparison = comparison_from (byte_at node 5);
      column = byte_at node 6;
      list =
          record {
            ids = byte_at node 9 ∷ byte_at node 10 ∷ byte_at node 11 ∷ byte_at node 12 ∷ byte_at node 13 ∷ byte_at node 14 ∷ byte_at node 15 ∷ [];
            count = byte_at node 8;
          };
      negated = eqb (byte_at node 18) 1;
      test = test_of v node;
    }

-- node i; past the last node it is a Unit
unfoldable pub node_at : List ℕ → ℕ → Node
node_at plan i =
    if leb (6 + node_size (plan_version plan) * i + node_size (plan_version plan)) (length plan)
    then node_of (plan_version plan) (node_part plan i)
    else node_of (plan_version plan) []

-- ---- Reading the plan

-- letters RPT, 16-bit version
abbrev pub plan_mark : Version → List ℕ
plan_mark v = 82 ∷ 80 ∷ 84 ∷ version_number v ∷ 0 ∷ []

abbrev pub nodes_of : List ℕ → ℕ
nodes_of plan = byte_at plan 5

unfoldable pub nodes_allowed : Version → ℕ → List ℕ → Bool
nodes_allowed v n plan = all_below n (λ i. fields_allowed v (node_part plan i))

-- How many nodes the plan has, or the refusal: 6, 7, 8, 6 again, 9.
unfoldable pub read_plan_as : Version → List ℕ → Result ℕ Refusal
read_plan_as v plan =
    if ltb (length plan) 6 then Err PlanLength else
    if not (starts_with (plan_mark v) plan) then Err PlanMark else
    if not (leb 1 (nodes_of plan) && leb (nodes_of plan) 64) then Err NodeCount else
    if not (eqb (length plan) (6 + node_size v * nodes_of plan)) then Err PlanLength else
    if not (nodes_allowed v (nodes_of plan) plan) then Err NodeField else
    Ok (nodes_of plan)

-- what the calls read
abbrev pub read_plan : List ℕ → Result ℕ Refusal
read_plan plan = read_plan_as Second plan
