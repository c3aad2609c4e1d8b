-- Whatever a plan's bytes are, the ids that its nodes name are bytes; and so is what a tree names from outside itself. Assumes nothing.
use Rattle.std.specs.Prelude.{if◌then◌else◌}
use Prim.Native.Nat.{ℕ, zero, suc, ◌+◌, ◌*◌, ◌≤◌, ◌<◌}
use native.Mathlib.Omega.{arith}
use native.Mathlib.Decide.{dec_lt, dec_le}
use mathlib.Core.Path.{◌≡◌, refl, ◌∙◌}
use mathlib.Core.Bool.{Bool, true, false, not, cond, and-eq-true_iff}
use mathlib.Core.List.{List, [], ◌∷◌, ◌++◌}
use lib.Dec.{eqb, leb}
use lib.ListN.{length, take, drop, length-take, get_or-eq_default}
use lib.Seq.{get_or-take, get_or-drop}
use borrow.Author.Tests.{lt-ltb}
use Rattle.algebra.specs.Lists.{all, member, minus}
use Rattle.algebra.specs.Cells.{sum, least, greatest, count, over}
use Rattle.algebra.specs.Plans.{Tables, form_names, columns, nested}
use Rattle.algebra.specs.Places.{size}
use Rattle.algebra.specs.Names.{measured, binary_names, inner_free, unary_free, free}
use Rattle.algebra.specs.Refusals.{byte}
use Rattle.algebra.proofs.Lists.{all-member, all_from}
use Rattle.reading.specs.Bytes.{byte_at}
use Rattle.reading.specs.Versions.{node_size}
use Rattle.reading.specs.declared.version.Version.{Version}
use Rattle.reading.specs.Plan.{comparison_from, test_number, plan_version, node_part, test_of, node_of, node_at, nodes_of}
use Rattle.reading.specs.Tree.{form_of, aggregate_of, operator_by, operator_of, plan_at}
use Rattle.reading.specs.declared.plan.Test.TheVariants.{Always, Columns, Number}
use Rattle.reading.specs.declared.kinds.Kind.{Kind}
use Rattle.reading.specs.declared.kinds.Kind.TheVariants.{Unit, Scan, Select, Project, Distinct, Cross, Semi, Anti, Some, Every, Fold, Each, Pair, Group, Sort, Other}
use Rattle.reading.specs.declared.plan.Node.{Node}
use Rattle.reading.proofs.FieldBytes.{Bytes}
use Rattle.reading.proofs.FlagLaws.{SameMembers}
use Rattle.reading.proofs.Places.{all-joined}
use Rattle.reading.proofs.Trees.{plan_past, plan_case, first_tree, second_tree}
use Rattle.reading.specs.Frees.{unary_names, operator_names, test_named, row_names}
use Rattle.reading.proofs.FreeLaws.{unary-free}

-- ---- lists of bytes

all_both : (xs ys : List ℕ) → all byte xs ≡ true → all byte ys ≡ true → all byte (xs ++ ys) ≡ true
all_both xs ys a b = all-joined byte xs ys ∙ rw (a, b)

all_take : (n : ℕ) (xs : List ℕ) → all byte xs ≡ true → all byte (take n xs) ≡ true
all_take zero xs a = refl
all_take (suc n) [] a = refl
all_take (suc n) (x ∷ xs) a = let (b, c) = (and-eq-true_iff (byte x) (all byte xs)).0 a in rw (b, all_take n xs c)

all-minus : (xs ys : List ℕ) → all byte xs ≡ true → all byte (minus xs ys) ≡ true
all-minus [] ys a = refl
all-minus (x ∷ xs) ys a = let (b, c) = (and-eq-true_iff (byte x) (all byte xs)).0 a in by (member x ys) b (all-minus xs ys c)
  where
    by : (m : Bool) → byte x ≡ true → all byte (minus xs ys) ≡ true → all byte (cond (not m) (x ∷ minus xs ys) (minus xs ys)) ≡ true
    by true b r = r
    by false b r = rw (b, r)

-- only the members count
all_same : {xs ys : List ℕ} → SameMembers xs ys → all byte xs ≡ true → all byte ys ≡ true
all_same {xs} {ys} s a = all_from byte ys (λ k m. all-member byte xs a k (s.at k ∙ m))

-- ---- the names of a node that was read

-- a node whose ids are bytes
record Small (node : Node) : Type 0 where
  left : byte node.left ≡ true
  right : byte node.right ≡ true
  column : byte node.column ≡ true
  list : all byte node.list.ids ≡ true
  tested : all byte (test_named node) ≡ true

module _ (v : Version) (part : List ℕ) (h : Bytes part) where
  small_at : (k : ℕ) → byte (byte_at part k) ≡ true
  small_at k = lt-ltb _ 256 (h k)

  node_small : Small (node_of v part)
  unfolding node_of test_of
  node_small = record {
    left = small_at 3;
    right = small_at 4;
    column = small_at 6;
    list = rw (small_at 9, small_at 10, small_at 11, small_at 12, small_at 13, small_at 14, small_at 15);
    tested = by (eqb (byte_at part 16) 0) (eqb (byte_at part 16) 1);
  }
    where
      by : (a b : Bool) → all byte (form_names (form_of (if a then Always else if b then Columns (comparison_from (byte_at part 17)) (byte_at part 19) (byte_at part 20) else Number (comparison_from (byte_at part 17)) (byte_at part 19) (test_number v part)))) ≡ true
      by true b = refl
      by false true = rw (small_at 19, small_at 20)
      by false false = rw (small_at 19)

module _ (plan : List ℕ) (h : Bytes plan) where
  part_bytes : (z i : ℕ) → Bytes (take z (drop (6 + z * i) plan))
  part_bytes z i k = elim (dec_lt k z) [
    | yes l ↦ rw (get_or-take z (drop (6 + z * i) plan) k 0 l, get_or-drop (6 + z * i) plan k 0) (h (6 + z * i + k))
    | no l ↦ rw (get_or-eq_default (take z (drop (6 + z * i) plan)) 0 (past l)) (omega arith)
  ]
    where
      past : (k < z → ⊥) → length (take z (drop (6 + z * i) plan)) ≤ k
      past l = omega (arith, length-take z (drop (6 + z * i) plan))

  small_node : (i : ℕ) → Small (node_at plan i)
  unfolding node_at
  small_node i = by (leb (6 + node_size (plan_version plan) * i + node_size (plan_version plan)) (length plan))
    where
      by : (b : Bool) → Small (if b then node_of (plan_version plan) (node_part plan i) else node_of (plan_version plan) [])
      by true = node_small (plan_version plan) (node_part plan i) (part_bytes (node_size (plan_version plan)) i)
      by false = node_small (plan_version plan) [] (λ k. omega arith)

module _ (node : Node) (s : Small node) where
  small-measured : all byte (measured (aggregate_of node.arg node.column)) ≡ true
  small-measured = by (eqb node.arg 0) (eqb node.arg 1) (eqb node.arg 2)
    where
      by : (a b c : Bool) → all byte (measured (if a then count else if b then over sum node.column else if c then over least node.column else over greatest node.column)) ≡ true
      by true b c = refl
      by false true c = rw s.column
      by false false true = rw s.column
      by false false false = rw s.column

  small_row : all byte (row_names node) ≡ true
  small_row = all_both (measured (aggregate_of node.arg node.column)) (test_named node) small-measured s.tested

  small-names : (k : Kind) → all byte (operator_names (operator_by k node)) ≡ true
  unfolding operator_by
  small-names Unit = refl
  small-names Scan = refl
  small-names Select = s.tested
  small-names Project = all_take node.list.count node.list.ids s.list
  small-names Distinct = all_take node.list.count node.list.ids s.list
  small-names Cross = refl
  small-names Semi = rw (s.left, s.right, s.tested)
  small-names Anti = rw (s.left, s.right, s.tested)
  small-names Some = s.tested
  small-names Every = s.tested
  small-names Fold = small_row
  small-names Each = refl
  small-names Pair = rw (s.left, s.right, small_row)
  small-names Group = rw (s.right, all-minus (row_names node) (node.left ∷ []) small_row)
  small-names Sort = all_take node.list.count node.list.ids s.list
  small-names (Other b) = refl

  small_operator : all byte (operator_names (operator_of node)) ≡ true
  small_operator = small-names node.kind

-- ---- what a tree names from outside itself

all_inner : (b : Bool) (cs gs : List ℕ) → all byte gs ≡ true → all byte (inner_free b cs gs) ≡ true
all_inner true cs gs a = all-minus gs cs a
all_inner false cs gs a = a

free-under : (T : Tables) (plan : List ℕ) → Bytes plan → (d i : ℕ) → nodes_of plan ≤ i + d → all byte (free T (plan_at plan i)) ≡ true
unfolding free
free-under T plan h zero i l = rw (plan_past plan i (omega arith))
free-under T plan h (suc d) i l = elim (dec_le (nodes_of plan) i) [
  | yes p ↦ rw (plan_past plan i p)
  | no p ↦
      let e = first_tree plan i in
      let f = second_tree plan i in
      let cs = columns T e in
      let first = free-under T plan h d (i + 1) (omega arith) in
      let second = free-under T plan h d (i + 1 + size e) (omega arith) in
      plan_case plan i (λ o p. all byte (operator_names o) ≡ true → all byte (free T p) ≡ true)
      (λ x a. refl)
      (λ u a. all_both (free T e) (unary_free u cs) first (all_same (unary-free cs u) (all-minus (minus (unary_names u) []) cs (all-minus (unary_names u) [] a))))
      (λ b a.
      all_both (free T e) (inner_free (nested b) cs (free T f) ++ minus (minus (binary_names b) (columns T f)) cs) first
      (all_both (inner_free (nested b) cs (free T f)) (minus (minus (binary_names b) (columns T f)) cs) (all_inner (nested b) cs (free T f) second)
      (all-minus (minus (binary_names b) (columns T f)) cs (all-minus (binary_names b) (columns T f) a))))
      (omega arith)
      (small_operator (node_at plan i) (small_node plan h i))
]

pub free-small : (T : Tables) (plan : List ℕ) → Bytes plan → (i : ℕ) → all byte (free T (plan_at plan i)) ≡ true
free-small T plan h i = free-under T plan h (nodes_of plan) i (omega arith)
