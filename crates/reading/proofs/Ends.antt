-- Where the tree at a place ends, by the number of its node's children. Assumes nothing.
use Prim.Native.Nat.{ℕ, ◌+◌, ◌≤◌, ◌<◌, min}
use mathlib.Core.Path.{◌≡◌, refl, ap, sym, ◌∙◌}
use mathlib.Core.List.{List}
use native.Mathlib.Omega.{arith}
use native.Mathlib.Decide.{ℕ_discrete}
use lib.Dec.{eqb}
use borrow.Author.Tests.{eq-eqb, ne_eqb}
use Rattle.algebra.specs.Places.{size}
use Rattle.reading.specs.Plan.{node_at, nodes_of, kind_entry, kind_row}
use Rattle.reading.specs.Tree.{operator_at, plan_at}
use Rattle.reading.specs.Nodes.{arity}
use Rattle.reading.specs.declared.plan.Node.{Node}
use Rattle.reading.proofs.Operators.{arity_of}
use Rattle.reading.proofs.Trees.{plan_past, plan_case, second_at}

-- the place after the tree at a place, or one past the last place
abbrev pub end_at : List ℕ → ℕ → ℕ
end_at plan i = min (i + size (plan_at plan i)) (nodes_of plan + 1)

module _ (plan : List ℕ) (i : ℕ) where
  -- how many children the node at the place has, as the table of kinds says of the node that was read there
  pub children-at : (node : Node) (r : ℕ) → node ≡ node_at plan i → r ≡ kind_entry (kind_row node.kind) 0 → r ≡ arity (operator_at plan i)
  children-at node r e q = q ∙ ap (λ (x : Node). kind_entry (kind_row x.kind) 0) e ∙ arity_of (node_at plan i)

  pub end-past : nodes_of plan ≤ i → nodes_of plan + 1 ≡ end_at plan i
  unfolding size
  end-past h = rw (plan_past plan i h) (omega arith)

  module _ (h : i < nodes_of plan) where
    pub end-leaf : arity (operator_at plan i) ≡ 0 → i + 1 ≡ end_at plan i
    unfolding size
    end-leaf =
        plan_case plan i (λ op p. arity op ≡ 0 → i + 1 ≡ min (i + size p) (nodes_of plan + 1))
        (λ x e. omega arith) (λ u e. absurd (omega arith)) (λ b e. absurd (omega arith)) h

    pub end-one : arity (operator_at plan i) ≡ 1 → end_at plan (i + 1) ≡ end_at plan i
    unfolding size
    end-one =
        plan_case plan i (λ op p. arity op ≡ 1 → end_at plan (i + 1) ≡ min (i + size p) (nodes_of plan + 1))
        (λ x e. absurd (omega arith)) (λ u e. omega arith) (λ b e. absurd (omega arith)) h

    pub end-two : (arity (operator_at plan i) ≡ 0 → ⊥) → (arity (operator_at plan i) ≡ 1 → ⊥) → (j : ℕ) → j ≡ end_at plan (i + 1) → end_at plan j ≡ end_at plan i
    unfolding size
    end-two a b j e =
        plan_case plan i (λ op p. (arity op ≡ 0 → ⊥) → (arity op ≡ 1 → ⊥) → end_at plan j ≡ min (i + size p) (nodes_of plan + 1))
        (λ x z w. absurd (z refl)) (λ u z w. absurd (w refl)) (λ b z w. rw (second_at plan i j e) (omega arith)) h a b

-- a tree from place 0 ends at the last node where it has as many nodes as there are
pub whole-end : (s n : ℕ) → eqb (min (0 + s) (n + 1)) n ≡ eqb s n
whole-end s n = elim (ℕ_discrete s n) [
  | yes e ↦ eq-eqb (min (0 + s) (n + 1)) n (omega arith) ∙ sym (eq-eqb s n e)
  | no d ↦ ne_eqb (min (0 + s) (n + 1)) n (λ q. d (omega arith)) ∙ sym (ne_eqb s n d)
]
