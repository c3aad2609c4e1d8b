-- The bytes of a plan's tree, in each version (docs/DEFINITION.md, "The plan's bytes"). Definitions only.
use Rattle.std.specs.Prelude.{ℕ, zero, suc, ◌+◌, ◌-◌, ◌/◌, ◌%◌, Bool, true, false, List, [], ◌∷◌, ◌++◌, length, take, replicate}
use Rattle.algebra.specs.Lists.{flat_map}
use Rattle.algebra.specs.Cells.{Comparison, eq, ne, lt, le, gt, ge, sum, least, greatest, Aggregate, count, over, within_reach}
use Rattle.algebra.specs.Plans.{always, columns_of, number_of, Test, test, Leaf, unit, scan, Unary, select, project, distinct, group, sort, Binary, cross, semi, quant, fold, each, pair, Plan}
use Rattle.algebra.specs.Places.{Operator, leaf_node, unary_node, binary_node, size, flatten}
use Rattle.reading.specs.Versions.{cell_size, test_size, reach_of, unsigned_code}
use Rattle.reading.specs.declared.version.Version.{Version}
use Rattle.reading.specs.declared.version.Version.TheVariants.{Second}
use Rattle.reading.specs.Plan.{plan_mark}

abbrev pub comparison_byte : Comparison → ℕ
comparison_byte eq = 0
comparison_byte ne = 1
comparison_byte lt = 2
comparison_byte le = 3
comparison_byte gt = 4
comparison_byte ge = 5

abbrev pub mark_byte : Bool → ℕ
mark_byte false = 0
mark_byte true = 1

-- the aggregate, and its column
abbrev pub aggregate_byte : Aggregate → ℕ
aggregate_byte count = 0
aggregate_byte (over sum c) = 1
aggregate_byte (over least c) = 2
aggregate_byte (over greatest c) = 3

abbrev pub column_byte : Aggregate → ℕ
column_byte count = 0
column_byte (over k c) = c

-- the n low bytes of a number
abbrev pub low_bytes : ℕ → ℕ → List ℕ
low_bytes zero x = []
low_bytes (suc n) x = x % 256 ∷ low_bytes n (x / 256)

-- the bytes of a number that is held as a cell: its code, low byte first
abbrev pub number_bytes : Version → ℕ → List ℕ
number_bytes v w = low_bytes (cell_size v) (unsigned_code v w)

-- bytes 16 on: the form, the comparison, the not-mark and the left column; then the right column or the number, and zeros to the node's end
abbrev pub test_bytes : Version → Test → List ℕ
test_bytes v (test m always) = 0 ∷ 0 ∷ mark_byte m ∷ 0 ∷ replicate (test_size v - 4) 0
test_bytes v (test m (columns_of c l r)) = 1 ∷ comparison_byte c ∷ mark_byte m ∷ l ∷ r ∷ replicate (test_size v - 5) 0
test_bytes v (test m (number_of c l w)) = 2 ∷ comparison_byte c ∷ mark_byte m ∷ l ∷ (number_bytes v w ++ replicate (test_size v - 4 - cell_size v) 0)

abbrev pub no_test : Version → List ℕ
no_test v = replicate (test_size v) 0

-- bytes 8 to 15
abbrev pub list_bytes : List ℕ → List ℕ
list_bytes ids = length ids ∷ take 7 (ids ++ replicate 7 0)

-- bytes 0 to 7: kind; table, direction or aggregate; new id; left key; right key; comparison; aggregate column; zero
abbrev pub field_bytes : ℕ → ℕ → ℕ → ℕ → ℕ → ℕ → ℕ → List ℕ
field_bytes kind arg id left right comparison column = kind ∷ arg ∷ id ∷ left ∷ right ∷ comparison ∷ column ∷ 0 ∷ []

abbrev pub plain_bytes : ℕ → List ℕ → List ℕ → List ℕ
plain_bytes kind list bytes = field_bytes kind 0 0 0 0 0 0 ++ (list ++ bytes)

abbrev pub leaf_bytes : Version → Leaf → List ℕ
leaf_bytes v unit = plain_bytes 0 (list_bytes []) (no_test v)
leaf_bytes v (scan t n) = field_bytes 1 t n 0 0 0 0 ++ (list_bytes [] ++ no_test v)

abbrev pub unary_bytes : Version → Unary → List ℕ
unary_bytes v (select t) = plain_bytes 2 (list_bytes []) (test_bytes v t)
unary_bytes v (project ids) = plain_bytes 3 (list_bytes ids) (no_test v)
unary_bytes v (distinct ids) = plain_bytes 4 (list_bytes ids) (no_test v)
unary_bytes v (group g n l r c t) = field_bytes 13 (aggregate_byte g) n l r (comparison_byte c) (column_byte g) ++ (list_bytes [] ++ test_bytes v t)
unary_bytes v (sort d ids) = field_bytes 14 (mark_byte d) 0 0 0 0 0 ++ (list_bytes ids ++ no_test v)

-- Semi 6, Anti 7; Some 8, Every 9
abbrev pub binary_bytes : Version → Binary → List ℕ
binary_bytes v cross = plain_bytes 5 (list_bytes []) (no_test v)
binary_bytes v (semi m l r t) = field_bytes (6 + mark_byte m) 0 0 l r 0 0 ++ (list_bytes [] ++ test_bytes v t)
binary_bytes v (quant m t) = plain_bytes (8 + mark_byte m) (list_bytes []) (test_bytes v t)
binary_bytes v (fold g n t) = field_bytes 10 (aggregate_byte g) n 0 0 0 (column_byte g) ++ (list_bytes [] ++ test_bytes v t)
binary_bytes v each = plain_bytes 11 (list_bytes []) (no_test v)
binary_bytes v (pair g n l r c t) = field_bytes 12 (aggregate_byte g) n l r (comparison_byte c) (column_byte g) ++ (list_bytes [] ++ test_bytes v t)

-- a node's bytes
unfoldable pub node_bytes_as : Version → Operator → List ℕ
node_bytes_as v (leaf_node x) = leaf_bytes v x
node_bytes_as v (unary_node u) = unary_bytes v u
node_bytes_as v (binary_node b) = binary_bytes v b

-- letters RPT, the version, the node count, the nodes in pre-order
unfoldable pub plan_bytes_as : Version → Plan → List ℕ
plan_bytes_as v p = plan_mark v ++ (size p ∷ flat_map (node_bytes_as v) (flatten p))

-- what the calls write
abbrev pub node_bytes : Operator → List ℕ
node_bytes op = node_bytes_as Second op

abbrev pub plan_bytes : Plan → List ℕ
plan_bytes p = plan_bytes_as Second p

-- ---- What can be written in a version: the number of every test is in its range

abbrev pub test_within : Version → Test → Bool
test_within v (test m always) = true
test_within v (test m (columns_of c l r)) = true
test_within v (test m (number_of c l w)) = within_reach (reach_of v) w

abbrev pub unary_within : Version → Unary → Bool
unary_within v (select t) = test_within v t
unary_within v (project ids) = true
unary_within v (distinct ids) = true
unary_within v (group g n l r c t) = test_within v t
unary_within v (sort d ids) = true

abbrev pub binary_within : Version → Binary → Bool
binary_within v cross = true
binary_within v (semi m l r t) = test_within v t
binary_within v (quant m t) = test_within v t
binary_within v (fold g n t) = test_within v t
binary_within v each = true
binary_within v (pair g n l r c t) = test_within v t

unfoldable pub operator_within : Version → Operator → Bool
operator_within v (leaf_node x) = true
operator_within v (unary_node u) = unary_within v u
operator_within v (binary_node b) = binary_within v b
