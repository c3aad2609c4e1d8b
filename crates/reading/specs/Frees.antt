-- The columns that a node names from outside its tree, part by part. The contracts of helpers speak of these; what a tree names from outside
-- itself is the algebra's `free`. Definitions only.
use Rattle.std.specs.Prelude.{ℕ, ◌<◌, Bool, true, not, ◌≡◌, List, [], ◌∷◌, ◌++◌, eqb, length, get_or, if◌then◌else◌}
use Rattle.algebra.specs.Lists.{all, member, minus}
use Rattle.algebra.specs.Plans.{names, form_names, Unary, select, project, distinct, group, sort}
use Rattle.algebra.specs.Places.{Operator, leaf_node, unary_node, binary_node}
use Rattle.algebra.specs.Names.{measured, binary_names, inner_free}
use Rattle.algebra.specs.Refusals.{byte}
use Rattle.reading.specs.Tree.{form_of, node_aggregate}
use Rattle.reading.specs.Flags.{Flags}
use Rattle.reading.specs.Nodes.{operator_nested}
use Rattle.reading.specs.declared.plan.Node.{Node}

-- ---- what a node names

-- A Group's test and aggregate column may name the left key, which the Group itself gives.
abbrev pub unary_names : Unary → List ℕ
unary_names (select t) = names t
unary_names (project ids) = ids
unary_names (distinct ids) = ids
unary_names (group g n l r c t) = r ∷ minus (measured g ++ names t) (l ∷ [])
unary_names (sort d ids) = ids

abbrev pub operator_names : Operator → List ℕ
operator_names (leaf_node x) = []
operator_names (unary_node u) = unary_names u
operator_names (binary_node b) = binary_names b

abbrev pub test_named : Node → List ℕ
test_named node = form_names (form_of node.test)

abbrev pub row_names : Node → List ℕ
row_names node = measured (node_aggregate node) ++ test_named node

-- ---- from outside its tree

-- fs and gs what its children's trees name from outside themselves, cs and ds their columns; where it has one child, gs and ds are empty
abbrev pub operator_free : Operator → List ℕ → List ℕ → List ℕ → List ℕ → List ℕ
operator_free op fs cs gs ds = fs ++ (inner_free (operator_nested op) cs gs ++ minus (minus (operator_names op) ds) cs)

-- ---- flags

-- r is the flags with a value where `at` flags an id
pub record SetWhere (flags at : List ℕ) (value : ℕ) (r : List ℕ) : Type 0 where
  pub long : length r ≡ 256
  pub right : (k : ℕ) → k < 256 → get_or r k 0 ≡ (if eqb (get_or at k 0) 1 then value else get_or flags k 0)

-- The flags of two lists of ids below 256 decide whether the lists have no id in common.
pub record Apart (flags other : List ℕ) (r : Bool) : Type 0 where
  pub decides : (xs ys : List ℕ) → Flags flags xs → Flags other ys → all byte xs ≡ true → r ≡ all (λ x. not (member x ys)) xs

-- The flags of what the children's trees name from outside themselves, and of their columns, give those of what the node's tree does.
pub record NodeFree (op : Operator) (first cs second ds r : List ℕ) : Type 0 where
  pub gives : (fs xs gs ys : List ℕ) → Flags first fs → Flags cs xs → Flags second gs → Flags ds ys → Flags r (operator_free op fs xs gs ys)

-- .. where the second child is nested, the columns of the first are inside.
pub record InnerFree (op : Operator) (second cs r : List ℕ) : Type 0 where
  pub gives : (gs xs : List ℕ) → Flags second gs → Flags cs xs → Flags r (inner_free (operator_nested op) xs gs)
