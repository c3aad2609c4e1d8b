-- How a node's columns are made of its children's, as private contracts speak of it. Definitions only.
use Rattle.std.specs.Prelude.{ℕ, ◌≡◌, List, [], length, take}
use Rattle.algebra.specs.Plans.{Tables, Unary, select, project, distinct, group, sort, Binary, cross, semi, quant, fold, each, pair}
use Rattle.algebra.specs.Places.{Operator, leaf_node, unary_node, binary_node}
use Rattle.reading.specs.Nodes.{operator_columns}
use Rattle.reporting.specs.declared.columns.ColumnsWay.{ColumnsWay}
use Rattle.reporting.specs.declared.columns.ColumnsWay.TheVariants.{Own, First, FirstAndNew, Both}

-- the node's own alone, the first child's, the first child's and then the new id, or the first child's and then the second's
abbrev pub unary_way : Unary → ColumnsWay
unary_way (select t) = First
unary_way (project ids) = Own
unary_way (distinct ids) = Own
unary_way (group g n l r c t) = Own
unary_way (sort d ids) = First

abbrev pub binary_way : Binary → ColumnsWay
binary_way cross = Both
binary_way (semi m l r t) = First
binary_way (quant m t) = First
binary_way (fold g n t) = FirstAndNew
binary_way each = Both
binary_way (pair g n l r c t) = FirstAndNew

abbrev pub columns_way : Operator → ColumnsWay
columns_way (leaf_node x) = Own
columns_way (unary_node u) = unary_way u
columns_way (binary_node b) = binary_way b

-- a node's own columns
abbrev pub own_columns : Tables → Operator → List ℕ
own_columns T op = operator_columns T op [] []

-- r ids were written to the front, and they are these columns
abbrev pub IdsWritten : List ℕ → ℕ → List ℕ → Type 0
IdsWritten cs r ids = (r ≡ length cs) × (take r ids ≡ cs)
