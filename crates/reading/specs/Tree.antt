-- The tree of a plan's nodes, and refusal 10 (docs/DEFINITION.md, "The plan's bytes" and "The tree"). Definitions only.
use Rattle.std.specs.Prelude.{ℕ, zero, suc, ◌+◌, Bool, true, false, List, ltb, eqb, take, if◌then◌else◌}
use Rattle.algebra.specs.Cells.{Comparison, eq, ne, lt, le, gt, ge, sum, least, greatest, Aggregate, count, over}
use Rattle.algebra.specs.Plans.{Form, always, columns_of, number_of, test, Test as MarkedTest, unit, scan, select, project, distinct, group, sort, Binary, cross, semi, quant, fold, each, pair, Plan, leaf, one, two}
use Rattle.algebra.specs.Places.{Operator, leaf_node, unary_node, binary_node, size}
use Rattle.reading.specs.Plan.{node_at, nodes_of}
use Rattle.reading.specs.declared.kinds.Kind.{Kind}
use Rattle.reading.specs.declared.kinds.Kind.TheVariants.{Unit, Scan, Select, Project, Distinct, Cross, Semi, Anti, Some, Every, Fold, Each, Pair, Group, Sort, Other}
use Rattle.reading.specs.declared.comparison.Comparison.{Comparison as NamedComparison}
use Rattle.reading.specs.declared.comparison.Comparison.TheVariants.{Equal, Unequal, Less, AtMost, Greater, AtLeast, Other as Unnamed}
use Rattle.reading.specs.declared.plan.Test.{Test}
use Rattle.reading.specs.declared.plan.Test.TheVariants.{Always, Columns, Number}
use Rattle.reading.specs.declared.plan.AggregateKind.{AggregateKind}
use Rattle.reading.specs.declared.plan.AggregateKind.TheVariants.{Count, Sum, Least, Greatest}
use Rattle.reading.specs.declared.plan.Node.{Node}

-- ---- A node's operator

-- a byte that names no comparison compares as ≥
abbrev pub comparison_of : NamedComparison → Comparison
comparison_of Equal = eq
comparison_of Unequal = ne
comparison_of Less = lt
comparison_of AtMost = le
comparison_of Greater = gt
comparison_of AtLeast = ge
comparison_of (Unnamed byte) = ge

-- 0 count, 1 sum, 2 least, 3 greatest
abbrev pub aggregate_of : ℕ → ℕ → Aggregate
aggregate_of code column =
    if eqb code 0 then count else
    if eqb code 1 then over sum column else
    if eqb code 2 then over least column else
    over greatest column

-- the aggregate of a kind, over a column
abbrev pub aggregate_by : AggregateKind → ℕ → Aggregate
aggregate_by Count column = count
aggregate_by Sum column = over sum column
aggregate_by Least column = over least column
aggregate_by Greatest column = over greatest column

abbrev pub form_of : Test → Form
form_of Always = always
form_of (Columns c l r) = columns_of (comparison_of c) l r
form_of (Number c l w) = number_of (comparison_of c) l w

abbrev pub node_test : Node → MarkedTest
node_test node = test node.negated (form_of node.test)

abbrev pub node_list : Node → List ℕ
node_list node = take node.list.count node.list.ids

abbrev pub node_aggregate : Node → Aggregate
node_aggregate node = aggregate_of node.arg node.column

-- by the kind, as in the table of kinds; a byte that names no kind is a Unit
unfoldable pub operator_by : Kind → Node → Operator
operator_by Unit node = leaf_node unit
operator_by Scan node = leaf_node (scan node.arg node.id)
operator_by Select node = unary_node (select (node_test node))
operator_by Project node = unary_node (project (node_list node))
operator_by Distinct node = unary_node (distinct (node_list node))
operator_by Cross node = binary_node cross
operator_by Semi node = binary_node (semi false node.left node.right (node_test node))
operator_by Anti node = binary_node (semi true node.left node.right (node_test node))
operator_by Some node = binary_node (quant false (node_test node))
operator_by Every node = binary_node (quant true (node_test node))
operator_by Fold node = binary_node (fold (node_aggregate node) node.id (node_test node))
operator_by Each node = binary_node each
operator_by Pair node = binary_node (pair (node_aggregate node) node.id node.left node.right (comparison_of node.comparison) (node_test node))
operator_by Group node = unary_node (group (node_aggregate node) node.id node.left node.right (comparison_of node.comparison) (node_test node))
operator_by Sort node = unary_node (sort (eqb node.arg 1) (node_list node))
operator_by (Other byte) node = leaf_node unit

abbrev pub operator_of : Node → Operator
operator_of node = operator_by node.kind node

-- the operator of node i
abbrev pub operator_at : List ℕ → ℕ → Operator
operator_at plan i = operator_of (node_at plan i)

-- ---- The tree at a place

-- a node with two children: the first's tree is e, and `tree k` is the one that starts k places after e starts
abbrev pub joined : Binary → Plan → (ℕ → Plan) → Plan
joined b e tree = two b e (tree (size e))

-- A node, then its first child's tree, then its second's: `tree k` is the tree that starts k places after the node. Where there is no
-- node stands a Unit.
abbrev pub grown : Bool → Operator → (ℕ → Plan) → Plan
grown false op tree = leaf unit
grown true (leaf_node x) tree = leaf x
grown true (unary_node u) tree = one u (tree 0)
grown true (binary_node b) tree = joined b (tree 0) tree

-- the tree at place i of a plan of n nodes, at most `deep` nodes deep
unfoldable pub tree_at : ℕ → List ℕ → ℕ → ℕ → Plan
tree_at zero plan n i = leaf unit
tree_at (suc deep) plan n i = grown (ltb i n) (operator_at plan i) (λ k. tree_at deep plan n (i + 1 + k))

-- the tree at place i; no tree is deeper than its plan has nodes
unfoldable pub plan_at : List ℕ → ℕ → Plan
plan_at plan i = tree_at (nodes_of plan) plan (nodes_of plan) i

-- The tree of the whole plan.
abbrev pub plan_of : List ℕ → Plan
plan_of plan = plan_at plan 0

-- No child is missing and no node is left over: a plan that lacks a child has a Unit more in its tree than it has nodes, and one with nodes
-- left over has a smaller tree.
unfoldable pub whole_tree : List ℕ → Bool
whole_tree plan = eqb (size (plan_of plan)) (nodes_of plan)
