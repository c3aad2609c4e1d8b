-- A number of a tree that each node makes of its children's numbers, known up to a cap: the law of columns_at and of bound_at.
-- Assumes nothing.
use Prim.Native.Nat.{ℕ, suc, ◌+◌, ◌≤◌, ◌<◌, min}
use mathlib.Core.Path.{◌≡◌, refl, ap, sym, ◌∙◌}
use mathlib.Core.Bool.{true, false}
use mathlib.Core.List.{List}
use lib.Dec.{leb}
use borrow.Author.Tests.{le-leb, lt-leb, leb-true}
use native.Mathlib.Omega.{arith}
use Rattle.algebra.specs.Plans.{Leaf, unit, Unary, Binary, Plan, leaf, one, two}
use Rattle.algebra.specs.Places.{Operator, leaf_node, unary_node, binary_node}
use Rattle.reading.specs.Plan.{node_at, nodes_of, kind_entry, kind_row}
use Rattle.reading.specs.Tree.{operator_of, operator_at, plan_at}
use Rattle.reading.specs.Nodes.{arity}
use Rattle.reading.specs.declared.plan.Node.{Node}
use Rattle.reading.proofs.Trees.{plan_past, plan_case, first_tree, second_tree, second_at}
use Rattle.reading.proofs.Ends.{end_at, children-at}

-- a number within the cap
pub within_cap : (n cap : ℕ) → n ≤ cap → n ≡ min n cap
within_cap n cap h = omega arith

-- a test of a number, by the number capped one above
module _ (r n most : ℕ) (e : r ≡ min n (suc most)) where
  pub capped_over : most < r → leb n most ≡ false
  capped_over h = lt-leb n most (omega arith)

  pub capped_within : r ≤ most → leb n most ≡ true
  capped_within h = le-leb n most (omega arith)

  pub capped_exact : leb n most ≡ true → r ≡ n
  capped_exact t = let h = leb-true n most t in omega arith

-- `of p` is the tree's number, and `step` makes a node's of its children's. Up to the cap, children's numbers count only up to the cap.
pub record Made (of : Plan → ℕ) (step : Operator → ℕ → ℕ → ℕ) (cap : ℕ) : Type 0 where
  pub leaf-made : (x : Leaf) (v w : ℕ) → step (leaf_node x) v w ≡ of (leaf x)
  pub one-made : (u : Unary) (p : Plan) (w : ℕ) → step (unary_node u) (of p) w ≡ of (one u p)
  pub two_made : (b : Binary) (p q : Plan) → step (binary_node b) (of p) (of q) ≡ of (two b p q)
  pub capped_made : (op : Operator) (v w : ℕ) → min (step op (min v cap) (min w cap)) cap ≡ min (step op v w) cap

module _ {of : Plan → ℕ} {step : Operator → ℕ → ℕ → ℕ} {cap : ℕ} (m : Made of step cap) (plan : List ℕ) (i : ℕ) where
  pub past-number : nodes_of plan ≤ i → of (leaf unit) ≡ of (plan_at plan i)
  past-number h = rw (plan_past plan i h)

  -- the node that was read at the place, and the number of its children
  module _ (h : i < nodes_of plan) (node : Node) (e : node ≡ node_at plan i) (children : ℕ) (q : children ≡ kind_entry (kind_row node.kind) 0) where
    at_place : (v w : ℕ) → min (step (operator_of node) v w) cap ≡ min (step (operator_at plan i) v w) cap
    at_place v w = ap (λ (x : Node). min (step (operator_of x) v w) cap) e

    pub leaf-number : children ≡ 0 → (v w : ℕ) → min (step (operator_of node) v w) cap ≡ min (of (plan_at plan i)) cap
    leaf-number k v w =
        at_place v w ∙ plan_case plan i (λ op p. arity op ≡ 0 → min (step op v w) cap ≡ min (of p) cap)
        (λ x a. ap (λ (n : ℕ). min n cap) (m.leaf-made x v w)) (λ u a. absurd (omega arith)) (λ b a. absurd (omega arith)) h
        (sym (children-at plan i node children e q) ∙ k)

    pub one_number : children ≡ 1 → (v : ℕ) → v ≡ min (of (plan_at plan (i + 1))) cap → min (step (operator_of node) v 0) cap ≡ min (of (plan_at plan i)) cap
    one_number k v s =
        let z : ◌≡◌ {A = ℕ} 0 (min 0 cap) = omega arith in
        at_place v 0 ∙ rw s (ap (λ (n : ℕ). min (step (operator_at plan i) (min (of (plan_at plan (i + 1))) cap) n) cap) z ∙ m.capped_made (operator_at plan i) (of (plan_at plan (i + 1))) 0)
        ∙ plan_case plan i (λ op p. arity op ≡ 1 → min (step op (of (plan_at plan (i + 1))) 0) cap ≡ min (of p) cap)
        (λ x a. absurd (omega arith)) (λ u a. ap (λ (n : ℕ). min n cap) (m.one-made u (first_tree plan i) 0)) (λ b a. absurd (omega arith)) h
        (sym (children-at plan i node children e q) ∙ k)

    pub two-number : (children ≡ 0 → ⊥) → (children ≡ 1 → ⊥) → (v w j : ℕ) → v ≡ min (of (plan_at plan (i + 1))) cap → j ≡ end_at plan (i + 1)
        → w ≡ min (of (plan_at plan j)) cap → min (step (operator_of node) v w) cap ≡ min (of (plan_at plan i)) cap
    two-number k l v w j s d t =
        let c = children-at plan i node children e q in
        at_place v w ∙ rw (s, t, second_at plan i j d) (m.capped_made (operator_at plan i) (of (first_tree plan i)) (of (second_tree plan i)))
        ∙ plan_case plan i (λ op p. (arity op ≡ 0 → ⊥) → (arity op ≡ 1 → ⊥) → min (step op (of (first_tree plan i)) (of (second_tree plan i))) cap ≡ min (of p) cap)
        (λ x a b. absurd (a refl)) (λ u a b. absurd (b refl)) (λ b _ _. ap (λ (n : ℕ). min n cap) (m.two_made b (first_tree plan i) (second_tree plan i))) h
        (λ z. k (c ∙ z)) (λ z. l (c ∙ z))
