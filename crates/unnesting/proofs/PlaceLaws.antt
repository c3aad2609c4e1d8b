-- The trees at the places of a whole plan: where their children stand, and that the bytes of their nodes are a slice of the plan's. Assumes
-- nothing.
use Prim.Native.Nat.{ℕ, zero, suc, ◌+◌, ◌*◌, ◌-◌, ◌≤◌, ◌<◌}
use mathlib.Core.Bool.{true}
use mathlib.Core.Path.{◌≡◌, refl, sym, ap, ap₂, ◌∙◌, subst}
use mathlib.Core.List.{List, [], ◌∷◌, ◌++◌, map}
use native.Mathlib.Omega.{arith}
use native.Mathlib.Decide.{dec_lt, ℕ_discrete}
use lib.ListN.{length, take, drop, length-drop}
use lib.Seq.{take-add, drop-drop, length-take-le}
use Rattle.algebra.specs.Lists.{flat_map, upward}
use Rattle.algebra.specs.Plans.{Unary, Binary, one, two}
use Rattle.algebra.specs.Places.{Operator, unary_node, binary_node, root, size, flatten}
use Rattle.algebra.proofs.Places.{flatten-subtrees, size-positive}
use Rattle.reading.specs.Plan.{nodes_of}
use Rattle.reading.specs.Tree.{operator_at, grown, plan_at, whole_tree}
use Rattle.reading.specs.Encoding.{node_bytes}
use Rattle.reading.proofs.Trees.{plan_grown, plan_case, first_tree, second_tree, second_at}
use Rattle.reading.proofs.Ends.{end_at}
use Rattle.reading.proofs.Places.{root-at, subtrees-at, map-upward, whole-size}
use Rattle.reading.proofs.PlanBytes.{PlanKnown, node_at-bytes}
use Rattle.unnesting.specs.Shapes.{node_slice}

-- ---- slices

pub slice_none : (plan : List ℕ) (a : ℕ) → node_slice plan a a ≡ []
slice_none plan a = let z : 32 * (a - a) ≡ 0 = omega arith in rw z

pub slice_join : (plan : List ℕ) (a b c : ℕ) → a ≤ b → b ≤ c → node_slice plan a b ++ node_slice plan b c ≡ node_slice plan a c
slice_join plan a b c h g =
    let p : 6 + 32 * a + 32 * (b - a) ≡ 6 + 32 * b = omega arith in
    let q : 32 * (b - a) + 32 * (c - b) ≡ 32 * (c - a) = omega arith in
    sym (ap (λ (n : ℕ). take n (drop (6 + 32 * a) plan)) (sym q)
    ∙ (take-add (32 * (b - a)) (32 * (c - b)) (drop (6 + 32 * a) plan)
    ∙ ap (λ (s : List ℕ). node_slice plan a b ++ take (32 * (c - b)) s) (drop-drop (32 * (b - a)) (6 + 32 * a) plan ∙ ap (λ (n : ℕ). drop n plan) p)))

pub slice_long : (plan : List ℕ) (a b : ℕ) → length plan ≡ 6 + 32 * nodes_of plan → a ≤ b → b ≤ nodes_of plan → length (node_slice plan a b) ≡ 32 * (b - a)
slice_long plan a b e h g = length-take-le (32 * (b - a)) (drop (6 + 32 * a) plan) (omega (arith, length-drop (6 + 32 * a) plan))

-- ---- the nodes' bytes

module _ (plan : List ℕ) (known : PlanKnown plan) where
  nodes_slice : (m a : ℕ) → a + m ≤ nodes_of plan → flat_map node_bytes (map (operator_at plan) (upward m a)) ≡ node_slice plan a (a + m)
  nodes_slice zero a h = let z : 32 * (a + 0 - a) ≡ 0 = omega arith in rw z
  nodes_slice (suc m) a h =
      let z : 32 * (suc a - a) ≡ 32 = omega arith in
      let s : suc a + m ≡ a + suc m = omega arith in
      ap₂ ◌++◌ (node_at-bytes plan known a (omega arith) ∙ ap (λ (n : ℕ). take n (drop (6 + 32 * a) plan)) (sym z)) (nodes_slice m (suc a) (omega arith) ∙ ap (node_slice plan (suc a)) s)
      ∙ slice_join plan a (suc a) (a + suc m) (omega arith) (omega arith)

  pub slice_at : (i : ℕ) → i + size (plan_at plan i) ≤ nodes_of plan → flat_map node_bytes (flatten (plan_at plan i)) ≡ node_slice plan i (i + size (plan_at plan i))
  slice_at i h =
      ap (flat_map node_bytes) (flatten-subtrees (plan_at plan i) ∙ (ap (map root) (subtrees-at plan i h) ∙ (roots (upward (size (plan_at plan i)) i)
      ∙ map-upward (λ k. root (plan_at plan k)) (operator_at plan) (size (plan_at plan i)) i (λ k l. root-at plan k (omega arith)))))
      ∙ nodes_slice (size (plan_at plan i)) i h
    where
      roots : (ks : List ℕ) → map root (map (plan_at plan) ks) ≡ map (λ k. root (plan_at plan k)) ks
      roots [] = refl
      roots (k ∷ ks) = ap (◌∷◌ (root (plan_at plan k))) (roots ks)

-- ---- a whole plan's trees lie inside of it

module _ (plan : List ℕ) where
  within : (d j : ℕ) → nodes_of plan ≤ j + d → j + size (plan_at plan j) ≤ nodes_of plan → (i : ℕ) → j ≤ i → i < j + size (plan_at plan j) → i + size (plan_at plan i) ≤ nodes_of plan
  unfolding size
  within zero j h g i l m = absurd (omega (arith, size-positive (plan_at plan j)))
  within (suc d) j h g i l m = elim (ℕ_discrete i j) [
    | yes e ↦ subst (λ (k : ℕ). k + size (plan_at plan k) ≤ nodes_of plan) (sym e) g
    | no n ↦
        plan_case plan j (λ op p. j + size p ≤ nodes_of plan → i < j + size p → i + size (plan_at plan i) ≤ nodes_of plan)
        (λ x a c. absurd (omega arith))
        (λ u a c. within d (j + 1) (omega arith) (omega arith) i (omega arith) (omega arith))
        (λ o a c. elim (dec_lt i (j + 1 + size (first_tree plan j))) [
          | yes k ↦ within d (j + 1) (omega arith) (omega arith) i (omega arith) (omega arith)
          | no k ↦ within d (j + 1 + size (first_tree plan j)) (omega arith) (omega arith) i (omega arith) (omega arith)
        ])
        (omega (arith, size-positive (plan_at plan j))) g m
  ]

  module _ (whole : whole_tree plan ≡ true) (i : ℕ) (h : i < nodes_of plan) where
    pub inside-at : i + size (plan_at plan i) ≤ nodes_of plan
    inside-at = within (nodes_of plan) 0 (omega arith) (omega (arith, whole-size plan whole)) i (omega arith) (omega (arith, whole-size plan whole))

    -- a node with one child
    pub record OneAt (u : Unary) : Type 0 where
      pub tree : plan_at plan i ≡ one u (plan_at plan (i + 1))
      pub end : i + size (plan_at plan i) ≡ i + 1 + size (plan_at plan (i + 1))
      pub last : i + 1 + size (plan_at plan (i + 1)) ≤ nodes_of plan

    pub one_at : (u : Unary) → operator_at plan i ≡ unary_node u → OneAt u
    unfolding size
    one_at u e =
        let t : plan_at plan i ≡ one u (plan_at plan (i + 1)) =
        plan_grown plan i h ∙ (ap (λ (op : Operator). grown true op (λ k. plan_at plan (i + 1 + k))) e ∙ ap (λ (k : ℕ). one u (plan_at plan k)) (omega arith)) in
        let s : size (plan_at plan i) ≡ suc (size (plan_at plan (i + 1))) = ap size t in
        record { tree = t; end = omega arith; last = omega (arith, inside-at) }

    -- a node with two, j where the first child's tree ends
    pub record TwoAt (b : Binary) (j : ℕ) : Type 0 where
      pub tree : plan_at plan i ≡ two b (plan_at plan (i + 1)) (plan_at plan j)
      pub first : i + 1 + size (plan_at plan (i + 1)) ≡ j
      pub end : i + size (plan_at plan i) ≡ j + size (plan_at plan j)
      pub last : j + size (plan_at plan j) ≤ nodes_of plan
      pub second : j < nodes_of plan

    pub two_at : (b : Binary) → operator_at plan i ≡ binary_node b → (j : ℕ) → j ≡ end_at plan (i + 1) → TwoAt b j
    unfolding size
    two_at b e j f =
        let z : i + 1 + 0 ≡ i + 1 = omega arith in
        let t : plan_at plan i ≡ two b (first_tree plan i) (second_tree plan i) =
        plan_grown plan i h ∙ (ap (λ (op : Operator). grown true op (λ k. plan_at plan (i + 1 + k))) e
        ∙ ap (λ (k : ℕ). two b (plan_at plan k) (plan_at plan (i + 1 + size (plan_at plan k)))) z) in
        let s : size (plan_at plan i) ≡ suc (size (first_tree plan i) + size (second_tree plan i)) = ap size t in
        let g : plan_at plan j ≡ second_tree plan i = second_at plan i j f in
        let k : size (plan_at plan j) ≡ size (second_tree plan i) = ap size g in
        let first : i + 1 + size (plan_at plan (i + 1)) ≡ j = omega (arith, inside-at, size-positive (second_tree plan i)) in
        record {
          tree = t ∙ ap (two b (first_tree plan i)) (sym g);
          first = first;
          end = omega arith;
          last = omega (arith, inside-at);
          second = omega (arith, inside-at, size-positive (plan_at plan j));
        }
