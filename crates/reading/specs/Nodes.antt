-- What one node does, apart from its children's trees. The contracts of helpers speak of these; the definitions of whole plans are the algebra's.
use Rattle.std.specs.Prelude.{ℕ, ◌+◌, ◌*◌, min, Bool, true, false, ◌≡◌, List, [], ◌∷◌, ◌++◌, map, length, if◌then◌else◌}
use Rattle.algebra.specs.Lists.{flat_map, total, upward}
use Rattle.algebra.specs.Plans.{Tables, Unary, select, project, distinct, group, sort, form_names, Binary, cross, semi, quant, fold, each, pair, Plan, leaf, one, two, leaf_columns, unary_columns, binary_columns, columns, nested}
use Rattle.algebra.specs.Places.{Operator, leaf_node, unary_node, binary_node, root, subtrees}
use Rattle.algebra.specs.Names.{measured, unary_new, binary_new}
use Rattle.algebra.specs.Refusals.{leaf_bound, per_row, bound, width, has_region, counted_rows, unary_in_view, binary_in_view, found, in_view}
use Rattle.reading.specs.Bytes.{all_below}
use Rattle.reading.specs.Flags.{Flags}
use Rattle.reading.specs.Plan.{nodes_of}
use Rattle.reading.specs.Tree.{form_of, node_aggregate, node_list, operator_at}
use Rattle.reading.specs.declared.kinds.Kind.{Kind}
use Rattle.reading.specs.declared.kinds.Kind.TheVariants.{Unit, Scan, Project, Distinct, Cross, Semi, Anti, Fold, Each, Pair, Group, Sort, Other}
use Rattle.reading.specs.declared.plan.Node.{Node}

-- how many children
abbrev pub arity : Operator → ℕ
arity (leaf_node x) = 0
arity (unary_node u) = 1
arity (binary_node b) = 2

-- its columns, cs and ds those of its children
abbrev pub operator_columns : Tables → Operator → List ℕ → List ℕ → List ℕ
operator_columns T (leaf_node x) cs ds = leaf_columns T x
operator_columns T (unary_node u) cs ds = unary_columns u cs
operator_columns T (binary_node b) cs ds = binary_columns b cs ds

-- how many they are, v and w its children's
abbrev pub unary_width : Unary → ℕ → ℕ
unary_width (select t) v = v
unary_width (project ids) v = length ids
unary_width (distinct ids) v = length ids
unary_width (group g n l r c t) v = 2
unary_width (sort d ids) v = v

abbrev pub binary_width : Binary → ℕ → ℕ → ℕ
binary_width cross v w = v + w
binary_width (semi m l r t) v w = v
binary_width (quant m t) v w = v
binary_width (fold g n t) v w = v + 1
binary_width each v w = v + w
binary_width (pair g n l r c t) v w = v + 1

abbrev pub operator_width : Tables → Operator → ℕ → ℕ → ℕ
operator_width T (leaf_node x) v w = length (leaf_columns T x)
operator_width T (unary_node u) v w = unary_width u v
operator_width T (binary_node b) v w = binary_width b v w

-- its row bound, x and y its children's
abbrev pub operator_bound : Tables → Operator → ℕ → ℕ → ℕ
operator_bound T (leaf_node l) x y = leaf_bound T l
operator_bound T (unary_node u) x y = x
operator_bound T (binary_node b) x y = x * per_row b y

-- the cells that a node counts in the need, its bound and its columns known up to a cap
abbrev pub capped_share : Tables → Plan → ℕ
capped_share T p = counted_rows (has_region (root p)) (min (bound T p) 4097) * min (width T p) 33

-- and those of a whole tree
abbrev pub capped_part : Tables → Plan → ℕ
capped_part T p = total (map (capped_share T) (subtrees p))

-- the ids that it introduces
abbrev pub operator_new : Tables → Operator → List ℕ
operator_new T (leaf_node x) = leaf_columns T x
operator_new T (unary_node u) = unary_new u
operator_new T (binary_node b) = binary_new b

-- of these the one in byte 3, which only a Group introduces; the others are a run from the id in byte 2 upward
abbrev pub key_of : Kind → Node → List ℕ
key_of Group node = node.left ∷ []
key_of kind node = []

abbrev pub key_new : Node → List ℕ
key_new node = key_of node.kind node

-- the ids that the nodes introduce, node by node
unfoldable pub ids_of : Tables → List ℕ → ℕ → ℕ → List ℕ
ids_of T plan count i = flat_map (λ k. operator_new T (operator_at plan k)) (upward count i)

-- its names are in view; where it has one child, ds has no columns
abbrev pub operator_in_view : List ℕ → Operator → List ℕ → List ℕ → Bool
operator_in_view scope (leaf_node x) cs ds = true
operator_in_view scope (unary_node u) cs ds = unary_in_view (ds ++ scope) u cs
operator_in_view scope (binary_node b) cs ds = binary_in_view scope b cs ds

-- ---- its columns and names, part by part

-- the columns that a node gives besides those of its children
abbrev pub own_columns : Kind → Tables → Node → List ℕ
own_columns Scan T node = upward (T.width node.arg) node.id
own_columns Project T node = node_list node
own_columns Distinct T node = node_list node
own_columns Fold T node = node.id ∷ []
own_columns Pair T node = node.id ∷ []
own_columns Group T node = node.left ∷ node.id ∷ []
own_columns kind T node = []

-- all its columns, in some order: own its own ones, cs and ds those of its children
abbrev pub kept_columns : Kind → List ℕ → List ℕ → List ℕ → List ℕ
kept_columns Unit own cs ds = own
kept_columns Scan own cs ds = own
kept_columns Project own cs ds = own
kept_columns Distinct own cs ds = own
kept_columns Group own cs ds = own
kept_columns (Other byte) own cs ds = own
kept_columns Cross own cs ds = ds ++ (cs ++ own)
kept_columns Each own cs ds = ds ++ (cs ++ own)
kept_columns kind own cs ds = cs ++ own

-- what it names of its first child, besides its list
abbrev pub first_names : Kind → Node → List ℕ
first_names Semi node = node.left ∷ []
first_names Anti node = node.left ∷ []
first_names Pair node = node.left ∷ []
first_names Group node = node.right ∷ measured (node_aggregate node)
first_names kind node = []

-- what it names of its second child
abbrev pub second_names : Kind → Node → List ℕ
second_names Semi node = node.right ∷ []
second_names Anti node = node.right ∷ []
second_names Fold node = measured (node_aggregate node)
second_names Pair node = node.right ∷ measured (node_aggregate node)
second_names kind node = []

-- its list, where it has one
abbrev pub list_names : Kind → Node → List ℕ
list_names Project node = node_list node
list_names Distinct node = node_list node
list_names Sort node = node_list node
list_names kind node = []

-- what its test names, where it has one
abbrev pub test_names : Kind → Node → List ℕ
test_names Unit node = []
test_names Scan node = []
test_names Project node = []
test_names Distinct node = []
test_names Cross node = []
test_names Each node = []
test_names Sort node = []
test_names (Other byte) node = []
test_names kind node = form_names (form_of node.test)

-- the names of a tree's topmost node are in view
abbrev pub root_in_view : Tables → List ℕ → Plan → Bool
root_in_view T scope (leaf x) = true
root_in_view T scope (one u p) = unary_in_view scope u (columns T p)
root_in_view T scope (two b e f) = binary_in_view scope b (columns T e) (columns T f)

abbrev pub operator_nested : Operator → Bool
operator_nested (leaf_node x) = false
operator_nested (unary_node u) = false
operator_nested (binary_node b) = nested b

-- the columns that its second child sees besides those that it sees itself, cs those of its first child
abbrev pub inner_columns : Operator → List ℕ → List ℕ
inner_columns op cs = if operator_nested op then cs else []

-- The flags of the children's columns, and of all that a test may name, decide whether a node's names are in view.
pub record NamesSeen (op : Operator) (first second seen : List ℕ) (r : Bool) : Type 0 where
  pub decides : (scope cs ds : List ℕ) → Flags first cs → Flags second ds → Flags seen (cs ++ (ds ++ scope)) → r ≡ operator_in_view scope op cs ds

-- The flags of the rows that a tree is nested in decide whether the names of its topmost node are in view.
pub record RootSeen (T : Tables) (p : Plan) (flags : List ℕ) (r : Bool) : Type 0 where
  pub decides : (scope : List ℕ) → Flags flags scope → r ≡ root_in_view T scope p

-- The flags of the rows that a tree is nested in decide whether all its names are in view.
pub record TreeSeen (T : Tables) (p : Plan) (flags : List ℕ) (r : Bool) : Type 0 where
  pub decides : (scope : List ℕ) → Flags flags scope → r ≡ in_view T scope p

-- With so many tables, whether the node's table is there.
pub record TableFound (tables : ℕ) (op : Operator) (r : Bool) : Type 0 where
  pub decides : (T : Tables) → T.amount ≡ tables → r ≡ found T op

-- With so many tables, whether every node's table is there.
pub record TablesFound (tables : ℕ) (plan : List ℕ) (r : Bool) : Type 0 where
  pub decides : (T : Tables) → T.amount ≡ tables → r ≡ all_below (nodes_of plan) (λ i. found T (operator_at plan i))
