-- The nodes of a whole plan are its tree's, in pre-order: what is asked of every node or subtree is asked of every place. Assumes nothing.
use Prim.Native.Nat.{ℕ, zero, suc, ◌+◌, ◌-◌, ◌*◌, ◌≤◌, ◌<◌}
use mathlib.Core.Bool.{Bool, true, false, ◌&&◌, and-true}
use mathlib.Core.Path.{◌≡◌, refl, ap, ap₂, sym, ◌∙◌}
use mathlib.Core.List.{List, [], ◌∷◌, ◌++◌, map, map-append, map-map, append_assoc, append-nil}
use native.Mathlib.Omega.{arith}
use native.Mathlib.Decide.{dec_le}
use native.Mathlib.Numerals.{add-one}
use lib.ListN.{length, length-map}
use borrow.Author.Tests.{eqb-true, eq-eqb}
use Rattle.algebra.specs.Lists.{all, flat_map, upward}
use Rattle.algebra.specs.Plans.{Tables, leaf_columns, Plan, leaf, one, two}
use Rattle.algebra.specs.Places.{Operator, leaf_node, unary_node, binary_node, root, size, flatten, subtrees}
use Rattle.algebra.specs.Names.{unary_new, introduced}
use Rattle.algebra.specs.Refusals.{found}
use Rattle.algebra.proofs.Lists.{all_map}
use Rattle.algebra.proofs.Places.{flatten-length, flatten-subtrees, size-positive}
use Rattle.reading.specs.Bytes.{all_below}
use Rattle.reading.specs.Plan.{nodes_of}
use Rattle.reading.specs.Tree.{operator_at, plan_at, plan_of, whole_tree}
use Rattle.reading.specs.Nodes.{operator_new, ids_of}
use Rattle.reading.proofs.Trees.{first_tree, second_tree, plan_past, plan_case, plan_grown}

-- ---- numbers upward, and lists of what they give

pub upward_append : (m n k : ℕ) → upward (m + n) k ≡ upward m k ++ upward n (k + m)
upward_append zero n k = let z : k + 0 ≡ k = omega arith in let y : 0 + n ≡ n = omega arith in rw (z, y)
upward_append (suc m) n k =
    let z : suc m + n ≡ suc (m + n) = omega arith in
    let y : suc k + m ≡ k + suc m = omega arith in
    rw z (ap (λ (l : List ℕ). k ∷ l) (upward_append m n (suc k) ∙ ap (λ (j : ℕ). upward m (suc k) ++ upward n j) y))

-- one number more
pub upward-more : (n k : ℕ) → upward (n + 1) k ≡ upward n k ++ ((k + n) ∷ [])
upward-more n k = upward_append n 1 k

pub upward-length : (n k : ℕ) → length (upward n k) ≡ n
upward-length zero k = refl
upward-length (suc n) k = ap suc (upward-length n (suc k))

module _ {A : Type 0} where
  pub all-joined : (p : A → Bool) (xs ys : List A) → all p (xs ++ ys) ≡ all p xs && all p ys
  all-joined p [] ys = refl
  all-joined p (x ∷ xs) ys = elim (p x) as (λ b. b && all p (xs ++ ys) ≡ (b && all p xs) && all p ys) [ true ↦ all-joined p xs ys | false ↦ refl ]

  pub flat_map-joined : {B : Type 0} (f : A → List B) (xs ys : List A) → flat_map f (xs ++ ys) ≡ flat_map f xs ++ flat_map f ys
  flat_map-joined f [] ys = refl
  flat_map-joined f (x ∷ xs) ys = rw (flat_map-joined f xs ys) (sym (append_assoc (f x) (flat_map f xs) (flat_map f ys)))

  pub flat_map-map : {B C : Type 0} (f : B → List C) (g : A → B) (xs : List A) → flat_map f (map g xs) ≡ flat_map (λ x. f (g x)) xs
  flat_map-map f g [] = refl
  flat_map-map f g (x ∷ xs) = rw (flat_map-map f g xs)

  -- two functions that agree on the numbers give the same lists
  pub map-upward : (f g : ℕ → A) (n k : ℕ) → ((j : ℕ) → j < k + n → f j ≡ g j) → map f (upward n k) ≡ map g (upward n k)
  map-upward f g zero k h = refl
  map-upward f g (suc n) k h = ap₂ (λ (x : A) (l : List A). x ∷ l) (h k (omega arith)) (map-upward f g n (suc k) (λ j l. h j (omega arith)))

-- a test of every number below n is one of the numbers from 0 upward
pub all-upward : (p : ℕ → Bool) (n : ℕ) → all p (upward n 0) ≡ all_below n p
unfolding all_below
all-upward p zero = refl
all-upward p (suc n) =
    let z : 0 + n ≡ n = omega arith in
    let l : all p ((0 + n) ∷ []) ≡ p n = rw z (and-true (p n)) in
    ap (all p) (ap (λ (m : ℕ). upward m 0) (sym (add-one n)) ∙ upward-more n 0) ∙ (all-joined p (upward n 0) ((0 + n) ∷ []) ∙ ap₂ ◌&&◌ (all-upward p n) l)

-- ---- the nodes of the tree at a place

-- the node at a place is its tree's root
pub root-at : (plan : List ℕ) (i : ℕ) → i < nodes_of plan → root (plan_at plan i) ≡ operator_at plan i
root-at plan i h = plan_case plan i (λ op p. root p ≡ op) (λ x. refl) (λ u. refl) (λ b. refl) h

subtrees-under : (plan : List ℕ) (d i : ℕ) → nodes_of plan ≤ i + d → i + size (plan_at plan i) ≤ nodes_of plan
    → subtrees (plan_at plan i) ≡ map (plan_at plan) (upward (size (plan_at plan i)) i)
unfolding subtrees size
subtrees-under plan zero i h g = absurd (omega (arith, size-positive (plan_at plan i)))
subtrees-under plan (suc d) i h g =
    plan_case plan i (λ op p. plan_at plan i ≡ p → i + size p ≤ nodes_of plan → subtrees p ≡ map (plan_at plan) (upward (size p) i))
    (λ x e l. ap (λ (q : Plan). q ∷ []) (sym e))
    (λ u e l. rw (e, ← add-one i) (ap (λ (ps : List Plan). one u (first_tree plan i) ∷ ps) (subtrees-under plan d (i + 1) (omega arith) (omega arith))))
    (λ b e l.
    rw (e, ← add-one i, upward_append, map-append (plan_at plan))
    (ap₂ (λ (ps qs : List Plan). two b (first_tree plan i) (second_tree plan i) ∷ (ps ++ qs))
    (subtrees-under plan d (i + 1) (omega arith) (omega arith))
    (subtrees-under plan d (i + 1 + size (first_tree plan i)) (omega arith) (omega arith))))
    (omega (arith, size-positive (plan_at plan i))) refl g

-- the trees from a place on, as many as the tree there has nodes, are its subtrees
pub subtrees-at : (plan : List ℕ) (i : ℕ) → i + size (plan_at plan i) ≤ nodes_of plan → subtrees (plan_at plan i) ≡ map (plan_at plan) (upward (size (plan_at plan i)) i)
subtrees-at plan i h = subtrees-under plan (nodes_of plan) i (omega arith) h

size-under : (plan : List ℕ) (d i : ℕ) → nodes_of plan ≤ i + d → size (plan_at plan i) ≤ 2 * (nodes_of plan - i) + 1
unfolding size
size-under plan zero i h = rw (plan_past plan i (omega arith)) (omega arith)
size-under plan (suc d) i h = elim (dec_le (nodes_of plan) i) [
  | yes l ↦ rw (plan_past plan i l) (omega arith)
  | no l ↦ plan_case plan i (λ op p. size p ≤ 2 * (nodes_of plan - i) + 1)
      (λ x. omega arith)
      (λ u. omega (arith, size-under plan d (i + 1) (omega arith)))
      (λ b. omega (arith, size-under plan d (i + 1) (omega arith), size-under plan d (i + 1 + size (first_tree plan i)) (omega arith)))
      (omega arith)
]

-- The tree at a place has few nodes, also where the plan is no whole tree: each node of the plan stands in it once at most, and a Unit
-- stands for each child that is missing.
pub size-most : (plan : List ℕ) (i : ℕ) → size (plan_at plan i) ≤ 2 * nodes_of plan + 1
size-most plan i = omega (arith, size-under plan (nodes_of plan) i (omega arith))

-- ---- of a whole plan

-- the ids that a tree introduces, node by node
introduced-nodes : (T : Tables) (p : Plan) → introduced T p ≡ flat_map (operator_new T) (flatten p)
unfolding introduced flatten
introduced-nodes T (leaf x) = sym (append-nil (leaf_columns T x))
introduced-nodes T (one u p) = ap (λ (ids : List ℕ). unary_new u ++ ids) (introduced-nodes T p)
introduced-nodes T (two b e f) = rw (introduced-nodes T e, introduced-nodes T f, flat_map-joined (operator_new T))

module _ (plan : List ℕ) (whole : whole_tree plan ≡ true) where
  pub whole-size : size (plan_of plan) ≡ nodes_of plan
  unfolding whole_tree
  whole-size = eqb-true _ _ whole

  pub whole-subtrees : subtrees (plan_of plan) ≡ map (plan_at plan) (upward (nodes_of plan) 0)
  whole-subtrees = subtrees-at plan 0 (omega (arith, whole-size)) ∙ ap (λ (n : ℕ). map (plan_at plan) (upward n 0)) whole-size

  pub whole-flatten : flatten (plan_of plan) ≡ map (operator_at plan) (upward (nodes_of plan) 0)
  whole-flatten =
      flatten-subtrees (plan_of plan) ∙ (ap (map root) whole-subtrees ∙ (map-map root (plan_at plan) (upward (nodes_of plan) 0)
      ∙ map-upward (λ i. root (plan_at plan i)) (operator_at plan) (nodes_of plan) 0 (λ j h. root-at plan j (omega arith))))

  pub whole-all : (k : Plan → Bool) → all k (subtrees (plan_of plan)) ≡ all_below (nodes_of plan) (λ i. k (plan_at plan i))
  whole-all k = rw (whole-subtrees, all_map) (all-upward (λ i. k (plan_at plan i)) (nodes_of plan))

  pub whole-found : (T : Tables) → all (found T) (flatten (plan_of plan)) ≡ all_below (nodes_of plan) (λ i. found T (operator_at plan i))
  whole-found T = rw (whole-flatten, all_map) (all-upward (λ i. found T (operator_at plan i)) (nodes_of plan))

  pub whole-introduced : (T : Tables) → introduced T (plan_of plan) ≡ ids_of T plan (nodes_of plan) 0
  unfolding ids_of
  whole-introduced T = introduced-nodes T (plan_of plan) ∙ (ap (flat_map (operator_new T)) whole-flatten ∙ flat_map-map (operator_new T) (operator_at plan) (upward (nodes_of plan) 0))

-- ---- a plan whose nodes are those of a tree is whole, and that tree is its own

-- the operators of m places from i on
abbrev operators : List ℕ → ℕ → ℕ → List Operator
operators plan m i = map (operator_at plan) (upward m i)

-- From place i on stand m operators: first op, then the others.
record Begins (plan : List ℕ) (i m : ℕ) (op : Operator) (others : List Operator) : Type 0 where
  left : ℕ
  amount : m ≡ suc left
  first : operator_at plan i ≡ op
  follow : operators plan left (i + 1) ≡ others

begins : (plan : List ℕ) (i m : ℕ) (op : Operator) (others : List Operator) → operators plan m i ≡ op ∷ others → Begins plan i m op others
begins plan i zero op others e = let z : ◌≡◌ {A = ℕ} 0 1 = cc in absurd (omega arith)
begins plan i (suc m) op others e = record { left = m; amount = refl; first = cc; follow = rw (add-one i) (cc) }

-- .. first those of the tree p, which stands at place i, then the others.
record Stands (plan : List ℕ) (i m : ℕ) (p : Plan) (others : List Operator) : Type 0 where
  left : ℕ
  amount : m ≡ size p + left
  tree : plan_at plan i ≡ p
  follow : operators plan left (i + size p) ≡ others

stands : (plan : List ℕ) (p : Plan) (i m : ℕ) (others : List Operator) → i + m ≡ nodes_of plan → operators plan m i ≡ flatten p ++ others → Stands plan i m p others
unfolding flatten size
stands plan (leaf x) i m others h e =
    let o = begins plan i m (leaf_node x) others e in
    let l : i < nodes_of plan = omega (arith, o.amount) in
    record { left = o.left; amount = omega (arith, o.amount); tree = plan_grown plan i l ∙ rw o.first; follow = o.follow }
stands plan (one u p) i m others h e =
    let o = begins plan i m (unary_node u) (flatten p ++ others) e in
    let l : i < nodes_of plan = omega (arith, o.amount) in
    let s = stands plan p (i + 1) o.left others (omega (arith, o.amount)) o.follow in
    let z : i + 1 + 0 ≡ i + 1 = omega arith in
    let y : i + suc (size p) ≡ i + 1 + size p = omega arith in
    record { left = s.left; amount = omega (arith, o.amount, s.amount); tree = plan_grown plan i l ∙ rw (o.first, z, s.tree); follow = rw y s.follow }
stands plan (two b p q) i m others h e =
    let o = begins plan i m (binary_node b) (flatten p ++ (flatten q ++ others)) (rw append_assoc at e) in
    let l : i < nodes_of plan = omega (arith, o.amount) in
    let s = stands plan p (i + 1) o.left (flatten q ++ others) (omega (arith, o.amount)) o.follow in
    let t = stands plan q (i + 1 + size p) s.left others (omega (arith, o.amount, s.amount)) s.follow in
    let z : i + 1 + 0 ≡ i + 1 = omega arith in
    let y : i + suc (size p + size q) ≡ i + 1 + size p + size q = omega arith in
    record { left = t.left; amount = omega (arith, o.amount, s.amount, t.amount); tree = plan_grown plan i l ∙ rw (o.first, z, s.tree, t.tree); follow = rw y t.follow }

pub flatten-whole : (plan : List ℕ) (p : Plan) → map (operator_at plan) (upward (nodes_of plan) 0) ≡ flatten p → (plan_of plan ≡ p) × (whole_tree plan ≡ true)
unfolding whole_tree
flatten-whole plan p e =
    let s = stands plan p 0 (nodes_of plan) [] (omega arith) (e ∙ sym (append-nil (flatten p))) in
    let l : size p ≡ nodes_of plan = sym (flatten-length p) ∙ (ap length (sym e) ∙ (length-map (upward (nodes_of plan) 0) (operator_at plan) ∙ upward-length (nodes_of plan) 0)) in
    (s.tree, eq-eqb _ _ (ap size s.tree ∙ l))
