-- A node's columns and names, part by part, and what they say of the tree at a place. Assumes nothing.
use Rattle.std.specs.Prelude.{if◌then◌else◌}
use Prim.Native.Nat.{ℕ, ◌<◌}
use native.Mathlib.Omega.{arith}
use mathlib.Core.Path.{◌≡◌, refl, sym, ap, ◌∙◌}
use mathlib.Core.Bool.{Bool, true, false, ◌&&◌, and-true, and-false}
use mathlib.Core.List.{List, [], ◌++◌, append-nil}
use Rattle.algebra.specs.Lists.{member, within}
use Rattle.algebra.specs.Plans.{Tables, Plan, leaf, one, two, nested, columns, form_names}
use Rattle.algebra.specs.Places.{Operator}
use Rattle.algebra.specs.Names.{measured}
use Rattle.algebra.specs.Refusals.{list_in_view, inner_scope, in_view}
use Rattle.reading.specs.Plan.{kind_entry, kind_row, node_at, nodes_of}
use Rattle.reading.specs.Tree.{node_aggregate, node_list, form_of, operator_by, operator_of, operator_at, plan_at}
use Rattle.reading.specs.Nodes.{arity, operator_columns, operator_in_view, inner_columns, own_columns, kept_columns, first_names, second_names, list_names, test_names, root_in_view}
use Rattle.reading.specs.declared.kinds.Kind.{Kind}
use Rattle.reading.specs.declared.kinds.Kind.TheVariants.{Unit, Scan, Select, Project, Distinct, Cross, Semi, Anti, Some, Every, Fold, Each, Pair, Group, Sort, Other}
use Rattle.reading.specs.declared.plan.Node.{Node}
use Rattle.reading.proofs.Operators.{each_kind, arity_of}
use Rattle.reading.proofs.Trees.{plan_case, first_tree, second_tree}
use Rattle.reading.proofs.FlagLaws.{SameMembers, members_same, members_swap}

-- ---- the kinds that give no columns and name none, part by part

module _ (node : Node) where
  pub own_none : (T : Tables) (k : Kind) → (k ≡ Scan → ⊥) → (k ≡ Project → ⊥) → (k ≡ Distinct → ⊥) → (k ≡ Fold → ⊥) → (k ≡ Pair → ⊥) → (k ≡ Group → ⊥) → own_columns k T node ≡ []
  own_none T =
      each_kind (λ k. (k ≡ Scan → ⊥) → (k ≡ Project → ⊥) → (k ≡ Distinct → ⊥) → (k ≡ Fold → ⊥) → (k ≡ Pair → ⊥) → (k ≡ Group → ⊥) → own_columns k T node ≡ [])
      (λ a b c d e f. refl) (λ a b c d e f. absurd (a refl)) (λ a b c d e f. refl) (λ a b c d e f. absurd (b refl)) (λ a b c d e f. absurd (c refl)) (λ a b c d e f. refl)
      (λ a b c d e f. refl) (λ a b c d e f. refl) (λ a b c d e f. refl) (λ a b c d e f. refl) (λ a b c d e f. absurd (d refl)) (λ a b c d e f. refl)
      (λ a b c d e f. absurd (e refl)) (λ a b c d e f. absurd (f refl)) (λ a b c d e f. refl) (λ k a b c d e f. refl)

  pub first_none : (k : Kind) → (k ≡ Semi → ⊥) → (k ≡ Anti → ⊥) → (k ≡ Pair → ⊥) → (k ≡ Group → ⊥) → first_names k node ≡ []
  first_none =
      each_kind (λ k. (k ≡ Semi → ⊥) → (k ≡ Anti → ⊥) → (k ≡ Pair → ⊥) → (k ≡ Group → ⊥) → first_names k node ≡ [])
      (λ a b c d. refl) (λ a b c d. refl) (λ a b c d. refl) (λ a b c d. refl) (λ a b c d. refl) (λ a b c d. refl)
      (λ a b c d. absurd (a refl)) (λ a b c d. absurd (b refl)) (λ a b c d. refl) (λ a b c d. refl) (λ a b c d. refl) (λ a b c d. refl)
      (λ a b c d. absurd (c refl)) (λ a b c d. absurd (d refl)) (λ a b c d. refl) (λ k a b c d. refl)

  pub second_none : (k : Kind) → (k ≡ Semi → ⊥) → (k ≡ Anti → ⊥) → (k ≡ Fold → ⊥) → (k ≡ Pair → ⊥) → second_names k node ≡ []
  second_none =
      each_kind (λ k. (k ≡ Semi → ⊥) → (k ≡ Anti → ⊥) → (k ≡ Fold → ⊥) → (k ≡ Pair → ⊥) → second_names k node ≡ [])
      (λ a b c d. refl) (λ a b c d. refl) (λ a b c d. refl) (λ a b c d. refl) (λ a b c d. refl) (λ a b c d. refl)
      (λ a b c d. absurd (a refl)) (λ a b c d. absurd (b refl)) (λ a b c d. refl) (λ a b c d. refl) (λ a b c d. absurd (c refl)) (λ a b c d. refl)
      (λ a b c d. absurd (d refl)) (λ a b c d. refl) (λ a b c d. refl) (λ k a b c d. refl)

  pub list_none : (k : Kind) → (k ≡ Project → ⊥) → (k ≡ Distinct → ⊥) → (k ≡ Sort → ⊥) → list_names k node ≡ []
  list_none =
      each_kind (λ k. (k ≡ Project → ⊥) → (k ≡ Distinct → ⊥) → (k ≡ Sort → ⊥) → list_names k node ≡ [])
      (λ a b c. refl) (λ a b c. refl) (λ a b c. refl) (λ a b c. absurd (a refl)) (λ a b c. absurd (b refl)) (λ a b c. refl)
      (λ a b c. refl) (λ a b c. refl) (λ a b c. refl) (λ a b c. refl) (λ a b c. refl) (λ a b c. refl)
      (λ a b c. refl) (λ a b c. refl) (λ a b c. absurd (c refl)) (λ k a b c. refl)

  pub test_none : (k : Kind) → (k ≡ Select → ⊥) → (k ≡ Semi → ⊥) → (k ≡ Anti → ⊥) → (k ≡ Some → ⊥) → (k ≡ Every → ⊥) → (k ≡ Fold → ⊥) → (k ≡ Pair → ⊥) → (k ≡ Group → ⊥) → test_names k node ≡ []
  test_none =
      each_kind (λ k. (k ≡ Select → ⊥) → (k ≡ Semi → ⊥) → (k ≡ Anti → ⊥) → (k ≡ Some → ⊥) → (k ≡ Every → ⊥) → (k ≡ Fold → ⊥) → (k ≡ Pair → ⊥) → (k ≡ Group → ⊥) → test_names k node ≡ [])
      (λ a b c d e f g h. refl) (λ a b c d e f g h. refl) (λ a b c d e f g h. absurd (a refl)) (λ a b c d e f g h. refl) (λ a b c d e f g h. refl) (λ a b c d e f g h. refl)
      (λ a b c d e f g h. absurd (b refl)) (λ a b c d e f g h. absurd (c refl)) (λ a b c d e f g h. absurd (d refl)) (λ a b c d e f g h. absurd (e refl)) (λ a b c d e f g h. absurd (f refl)) (λ a b c d e f g h. refl)
      (λ a b c d e f g h. absurd (g refl)) (λ a b c d e f g h. absurd (h refl)) (λ a b c d e f g h. refl) (λ k a b c d e f g h. refl)

-- the kinds that keep the columns of one child
pub kept_one : (own cs ds : List ℕ) (k : Kind) → (k ≡ Unit → ⊥) → (k ≡ Scan → ⊥) → (k ≡ Project → ⊥) → (k ≡ Distinct → ⊥) → (k ≡ Group → ⊥) → ((byte : ℕ) → k ≡ Other byte → ⊥) → (k ≡ Cross → ⊥) → (k ≡ Each → ⊥)
    → kept_columns k own cs ds ≡ cs ++ own
kept_one own cs ds =
    each_kind (λ k. (k ≡ Unit → ⊥) → (k ≡ Scan → ⊥) → (k ≡ Project → ⊥) → (k ≡ Distinct → ⊥) → (k ≡ Group → ⊥) → ((byte : ℕ) → k ≡ Other byte → ⊥) → (k ≡ Cross → ⊥) → (k ≡ Each → ⊥) → kept_columns k own cs ds ≡ cs ++ own)
    (λ a b c d e f g h. absurd (a refl)) (λ a b c d e f g h. absurd (b refl)) (λ a b c d e f g h. refl) (λ a b c d e f g h. absurd (c refl)) (λ a b c d e f g h. absurd (d refl)) (λ a b c d e f g h. absurd (g refl))
    (λ a b c d e f g h. refl) (λ a b c d e f g h. refl) (λ a b c d e f g h. refl) (λ a b c d e f g h. refl) (λ a b c d e f g h. refl) (λ a b c d e f g h. absurd (h refl))
    (λ a b c d e f g h. refl) (λ a b c d e f g h. absurd (e refl)) (λ a b c d e f g h. refl) (λ k a b c d e f g h. absurd (f k refl))

-- ---- the parts make the whole

module _ (node : Node) (T : Tables) (cs ds : List ℕ) where
  abbrev HasColumns : Kind → Type 0
  HasColumns k = SameMembers (kept_columns k (own_columns k T node) cs ds) (operator_columns T (operator_by k node) cs ds)

  both : SameMembers (ds ++ (cs ++ [])) (cs ++ ds)
  both = rw append-nil (members_swap ds cs)

  plainly : SameMembers (cs ++ []) cs
  plainly = rw append-nil (members_same cs)

  columns-by-kind : (k : Kind) → HasColumns k
  unfolding operator_by
  columns-by-kind =
      each_kind HasColumns
      (members_same _)
      (members_same _)
      plainly
      (members_same _)
      (members_same _)
      both
      plainly
      plainly
      plainly
      plainly
      (members_same _)
      both
      (members_same _)
      (members_same _)
      plainly
      (λ k. members_same [])

-- the columns of the tree at a place
pub columns-parts : (T : Tables) (plan : List ℕ) (i : ℕ) → i < nodes_of plan
    → SameMembers (kept_columns (node_at plan i).kind (own_columns (node_at plan i).kind T (node_at plan i)) (columns T (first_tree plan i)) (columns T (second_tree plan i))) (columns T (plan_at plan i))
unfolding columns
columns-parts T plan i h =
    rw (whole h) (columns-by-kind (node_at plan i) T (columns T (first_tree plan i)) (columns T (second_tree plan i)) (node_at plan i).kind)
  where
    whole : i < nodes_of plan → columns T (plan_at plan i) ≡ operator_columns T (operator_at plan i) (columns T (first_tree plan i)) (columns T (second_tree plan i))
    whole = plan_case plan i (λ op p. columns T p ≡ operator_columns T op (columns T (first_tree plan i)) (columns T (second_tree plan i))) (λ x. refl) (λ u. refl) (λ b. refl)

-- .. for the node that was read there
pub columns-kept : (T : Tables) (plan : List ℕ) (i : ℕ) → i < nodes_of plan → (node : Node) → node ≡ node_at plan i
    → SameMembers (kept_columns node.kind (own_columns node.kind T node) (columns T (first_tree plan i)) (columns T (second_tree plan i))) (columns T (plan_at plan i))
columns-kept T plan i h node e = rw e (columns-parts T plan i h)

-- ---- names in view

-- three conditions, the first two taken together
three : (a b c : Bool) → (a && (b && (c && true))) ≡ ((a && b) && c)
three true true c = and-true c
three true false c = refl
three false b c = refl

module _ (node : Node) (scope cs ds : List ℕ) where
  abbrev ListSeen : Kind → Bool
  ListSeen k = list_in_view (list_names k node) cs

  abbrev FirstSeen : Kind → Bool
  FirstSeen k = within (first_names k node) cs

  abbrev SecondSeen : Kind → Bool
  SecondSeen k = within (second_names k node) ds

  abbrev TestSeen : Kind → Bool
  TestSeen k = within (test_names k node) (cs ++ (ds ++ scope))

  abbrev InParts : Kind → Type 0
  InParts k = operator_in_view scope (operator_by k node) cs ds ≡ (ListSeen k && (FirstSeen k && (SecondSeen k && TestSeen k)))

  abbrev Names : Bool
  Names = within (form_names (form_of node.test)) (cs ++ (ds ++ scope))

  abbrev Measured : List ℕ → Bool
  Measured es = within (measured (node_aggregate node)) es

  keyed : InParts Semi
  unfolding operator_by
  keyed = by (member node.left cs) (member node.right ds) Names
    where
      by : (a b c : Bool) → (a && (b && (c && true))) ≡ ((a && true) && ((b && true) && c))
      by true true c = and-true c
      by true false c = refl
      by false b c = refl

  folded : InParts Fold
  unfolding operator_by
  folded = by (Measured ds) Names
    where
      by : (b c : Bool) → (b && (c && true)) ≡ (b && c)
      by true c = and-true c
      by false c = refl

  paired : InParts Pair
  unfolding operator_by
  paired = by (member node.left cs) (member node.right ds) (Measured ds) Names
    where
      by : (a b m c : Bool) → (a && (b && (m && (c && true)))) ≡ ((a && true) && ((b && m) && c))
      by true true true c = and-true c
      by true true false c = refl
      by true false m c = refl
      by false b m c = refl

  grouped : InParts Group
  unfolding operator_by
  grouped = three (member node.right cs) (Measured cs) Names

  listed : list_in_view (node_list node) cs ≡ (list_in_view (node_list node) cs && true)
  listed = sym (and-true (list_in_view (node_list node) cs))

  in_view_by-kind : (k : Kind) → InParts k
  unfolding operator_by
  in_view_by-kind =
      each_kind InParts
      refl
      refl
      refl
      listed
      listed
      refl
      keyed
      keyed
      refl
      refl
      folded
      refl
      paired
      grouped
      listed
      (λ k. refl)

  abbrev kind : Kind
  kind = node.kind

  pub list_fails : ListSeen kind ≡ false → false ≡ operator_in_view scope (operator_of node) cs ds
  list_fails l = sym (in_view_by-kind kind ∙ ap (λ b. b && (FirstSeen kind && (SecondSeen kind && TestSeen kind))) l)

  pub first-fails : ListSeen kind ≡ true → FirstSeen kind ≡ false → false ≡ operator_in_view scope (operator_of node) cs ds
  first-fails l f = sym (in_view_by-kind kind ∙ (ap (λ b. b && (FirstSeen kind && (SecondSeen kind && TestSeen kind))) l ∙ ap (λ b. b && (SecondSeen kind && TestSeen kind)) f))

  pub second_fails : ListSeen kind ≡ true → FirstSeen kind ≡ true → SecondSeen kind ≡ false → false ≡ operator_in_view scope (operator_of node) cs ds
  second_fails l f s =
      sym (in_view_by-kind kind ∙ (ap (λ b. b && (FirstSeen kind && (SecondSeen kind && TestSeen kind))) l ∙ (ap (λ b. b && (SecondSeen kind && TestSeen kind)) f ∙ ap (λ b. b && TestSeen kind) s)))

  pub test-decides : ListSeen kind ≡ true → FirstSeen kind ≡ true → SecondSeen kind ≡ true → TestSeen kind ≡ operator_in_view scope (operator_of node) cs ds
  test-decides l f s =
      sym (in_view_by-kind kind ∙ (ap (λ b. b && (FirstSeen kind && (SecondSeen kind && TestSeen kind))) l ∙ (ap (λ b. b && (SecondSeen kind && TestSeen kind)) f ∙ ap (λ b. b && TestSeen kind) s)))

-- ---- the names of the tree at a place

-- a nested second child: the rows that it is nested in
inner_is : (b : Bool) (cs scope : List ℕ) → (if b then cs else []) ++ scope ≡ inner_scope b cs scope
inner_is true cs scope = refl
inner_is false cs scope = refl

module _ (T : Tables) (plan : List ℕ) (i : ℕ) (h : i < nodes_of plan) (scope : List ℕ) where
  abbrev op : Operator
  op = operator_at plan i

  abbrev cs : List ℕ
  cs = columns T (first_tree plan i)

  abbrev ds : List ℕ
  ds = columns T (second_tree plan i)

  at-root-leaf : arity op ≡ 0 → true ≡ root_in_view T scope (plan_at plan i)
  at-root-leaf =
      plan_case plan i (λ o p. arity o ≡ 0 → true ≡ root_in_view T scope p)
      (λ x a. refl)
      (λ u a. absurd (omega arith))
      (λ b a. absurd (omega arith))
      h

  at-root-one : arity op ≡ 1 → operator_in_view scope op cs [] ≡ root_in_view T scope (plan_at plan i)
  at-root-one =
      plan_case plan i (λ o p. arity o ≡ 1 → operator_in_view scope o cs [] ≡ root_in_view T scope p)
      (λ x a. absurd (omega arith))
      (λ u a. refl)
      (λ b a. absurd (omega arith))
      h

  at-root-two : (arity op ≡ 0 → ⊥) → (arity op ≡ 1 → ⊥) → operator_in_view scope op cs ds ≡ root_in_view T scope (plan_at plan i)
  at-root-two =
      plan_case plan i (λ o p. (arity o ≡ 0 → ⊥) → (arity o ≡ 1 → ⊥) → operator_in_view scope o cs ds ≡ root_in_view T scope p)
      (λ x a c. absurd (a refl))
      (λ u a c. absurd (c refl))
      (λ b a c. refl)
      h

  pub view_root_fails : root_in_view T scope (plan_at plan i) ≡ false → false ≡ in_view T scope (plan_at plan i)
  unfolding in_view
  view_root_fails = by (plan_at plan i)
    where
      by : (p : Plan) → root_in_view T scope p ≡ false → false ≡ in_view T scope p
      by (leaf x) e = sym e
      by (one u p) e = rw e
      by (two b p q) e = rw e

  at_view_leaf : arity op ≡ 0 → true ≡ in_view T scope (plan_at plan i)
  unfolding in_view
  at_view_leaf =
      plan_case plan i (λ o p. arity o ≡ 0 → true ≡ in_view T scope p)
      (λ x a. refl)
      (λ u a. absurd (omega arith))
      (λ b a. absurd (omega arith))
      h

  at_view_first_fails : (arity op ≡ 0 → ⊥) → in_view T scope (first_tree plan i) ≡ false → false ≡ in_view T scope (plan_at plan i)
  unfolding in_view
  at_view_first_fails =
      plan_case plan i (λ o p. (arity o ≡ 0 → ⊥) → in_view T scope (first_tree plan i) ≡ false → false ≡ in_view T scope p)
      (λ x a e. absurd (a refl))
      (λ u a e. rw (e, and-false))
      (λ b a e. rw (e, and-false))
      h

  at_view_one : arity op ≡ 1 → root_in_view T scope (plan_at plan i) ≡ true → in_view T scope (first_tree plan i) ≡ in_view T scope (plan_at plan i)
  unfolding in_view
  at_view_one =
      plan_case plan i (λ o p. arity o ≡ 1 → root_in_view T scope p ≡ true → in_view T scope (first_tree plan i) ≡ in_view T scope p)
      (λ x a e. absurd (omega arith))
      (λ u a e. rw e)
      (λ b a e. absurd (omega arith))
      h

  at_view_two : (arity op ≡ 0 → ⊥) → (arity op ≡ 1 → ⊥) → root_in_view T scope (plan_at plan i) ≡ true → in_view T scope (first_tree plan i) ≡ true
      → in_view T (inner_columns op cs ++ scope) (second_tree plan i) ≡ in_view T scope (plan_at plan i)
  unfolding in_view
  at_view_two =
      plan_case plan i
      (λ o p. (arity o ≡ 0 → ⊥) → (arity o ≡ 1 → ⊥) → root_in_view T scope p ≡ true → in_view T scope (first_tree plan i) ≡ true
      → in_view T (inner_columns o cs ++ scope) (second_tree plan i) ≡ in_view T scope p)
      (λ x a c e f. absurd (a refl))
      (λ u a c e f. absurd (c refl))
      (λ b a c e f. rw (e, f, inner_is (nested b) cs scope))
      h

-- .. for the node that was read there, and the number of its children
module _ (T : Tables) (plan : List ℕ) (i : ℕ) (h : i < nodes_of plan) (node : Node) (e : node ≡ node_at plan i) (n : ℕ) (q : n ≡ kind_entry (kind_row node.kind) 0) (scope : List ℕ) where
  children : n ≡ arity (operator_at plan i)
  children = q ∙ (ap (λ m. kind_entry (kind_row m.kind) 0) e ∙ arity_of (node_at plan i))

  pub root-leaf : n ≡ 0 → true ≡ root_in_view T scope (plan_at plan i)
  root-leaf z = at-root-leaf T plan i h scope (sym children ∙ z)

  pub root-one : n ≡ 1 → operator_in_view scope (operator_of node) (columns T (first_tree plan i)) [] ≡ root_in_view T scope (plan_at plan i)
  root-one z = rw e (at-root-one T plan i h scope (sym children ∙ z))

  pub root-two : (n ≡ 0 → ⊥) → (n ≡ 1 → ⊥) → operator_in_view scope (operator_of node) (columns T (first_tree plan i)) (columns T (second_tree plan i)) ≡ root_in_view T scope (plan_at plan i)
  root-two y z = rw e (at-root-two T plan i h scope (λ k. y (children ∙ k)) (λ k. z (children ∙ k)))

  pub view_leaf : n ≡ 0 → true ≡ in_view T scope (plan_at plan i)
  view_leaf z = at_view_leaf T plan i h scope (sym children ∙ z)

  pub view_first_fails : (n ≡ 0 → ⊥) → in_view T scope (first_tree plan i) ≡ false → false ≡ in_view T scope (plan_at plan i)
  view_first_fails z f = at_view_first_fails T plan i h scope (λ k. z (children ∙ k)) f

  pub view_one : n ≡ 1 → root_in_view T scope (plan_at plan i) ≡ true → in_view T scope (first_tree plan i) ≡ in_view T scope (plan_at plan i)
  view_one z r = at_view_one T plan i h scope (sym children ∙ z) r

  pub view_two : (n ≡ 0 → ⊥) → (n ≡ 1 → ⊥) → root_in_view T scope (plan_at plan i) ≡ true → in_view T scope (first_tree plan i) ≡ true
      → in_view T (inner_columns (operator_of node) (columns T (first_tree plan i)) ++ scope) (second_tree plan i) ≡ in_view T scope (plan_at plan i)
  view_two y z r f = rw e (at_view_two T plan i h scope (λ k. y (children ∙ k)) (λ k. z (children ∙ k)) r f)
