-- The tree at a place of a plan: the node there with its children's trees. Assumes nothing.
use Prim.Native.Nat.{ℕ, zero, suc, ◌+◌, ◌≤◌, ◌<◌, min}
use mathlib.Core.Bool.{true}
use mathlib.Core.Path.{◌≡◌, refl, ap, sym, ◌∙◌, fun_ext}
use mathlib.Core.List.{List}
use native.Mathlib.Omega.{arith}
use native.Mathlib.Decide.{dec_le}
use lib.Dec.{ltb}
use borrow.Author.Tests.{lt-ltb, le-ltb}
use Rattle.algebra.specs.Plans.{Leaf, unit, Unary, Binary, Plan, leaf, one, two}
use Rattle.algebra.specs.Places.{Operator, leaf_node, unary_node, binary_node, size}
use Rattle.reading.specs.Plan.{nodes_of}
use Rattle.reading.specs.Tree.{operator_at, grown, tree_at, plan_at}

-- more depth than there are nodes left changes nothing
deeper : (plan : List ℕ) (n d i : ℕ) → n ≤ i + d → tree_at (suc d) plan n i ≡ tree_at d plan n i
unfolding tree_at
deeper plan n zero i h = rw (le-ltb i n (omega arith))
deeper plan n (suc d) i h = ap (grown (ltb i n) (operator_at plan i)) (fun_ext (λ k. deeper plan n d (i + 1 + k) (omega arith)))

-- past the last node stands a Unit
pub plan_past : (plan : List ℕ) (i : ℕ) → nodes_of plan ≤ i → plan_at plan i ≡ leaf unit
unfolding plan_at tree_at
plan_past plan i h = go (nodes_of plan) refl
  where
    go : (n : ℕ) → nodes_of plan ≡ n → tree_at n plan (nodes_of plan) i ≡ leaf unit
    go zero e = refl
    go (suc n) e = rw (le-ltb i (nodes_of plan) h)

module _ (plan : List ℕ) (i : ℕ) where
  pub plan_grown : i < nodes_of plan → plan_at plan i ≡ grown true (operator_at plan i) (λ k. plan_at plan (i + 1 + k))
  unfolding plan_at tree_at
  plan_grown h = go (nodes_of plan) refl
    where
      go : (n : ℕ) → nodes_of plan ≡ n → tree_at n plan (nodes_of plan) i ≡ grown true (operator_at plan i) (λ k. tree_at n plan (nodes_of plan) (i + 1 + k))
      go zero e = absurd (omega arith)
      go (suc n) e =
          rw (lt-ltb i (nodes_of plan) h)
          (ap (grown true (operator_at plan i)) (fun_ext (λ k. sym (deeper plan (nodes_of plan) n (i + 1 + k) (omega arith)))))

  -- the trees of its first and second child
  abbrev pub first_tree : Plan
  first_tree = plan_at plan (i + 1)

  abbrev pub second_tree : Plan
  second_tree = plan_at plan (i + 1 + size first_tree)

  -- what holds of a node by its operator holds of the tree at a place
  pub plan_case : (P : Operator → Plan → Type 0) → ((x : Leaf) → P (leaf_node x) (leaf x)) → ((u : Unary) → P (unary_node u) (one u first_tree))
      → ((b : Binary) → P (binary_node b) (two b first_tree second_tree)) → i < nodes_of plan → P (operator_at plan i) (plan_at plan i)
  plan_case P f g k h = rw (plan_grown h) (by (operator_at plan i))
    where
      by : (op : Operator) → P op (grown true op (λ j. plan_at plan (i + 1 + j)))
      by (leaf_node x) = f x
      by (unary_node u) = let z : i + 1 + 0 ≡ i + 1 = omega arith in rw z (g u)
      by (binary_node b) = let z : i + 1 + 0 ≡ i + 1 = omega arith in rw z (k b)

  -- the second child's tree, from where the first's ends or from one past the last place
  pub second_at : (j : ℕ) → j ≡ min (i + 1 + size first_tree) (nodes_of plan + 1) → plan_at plan j ≡ second_tree
  second_at j e = elim (dec_le (i + 1 + size first_tree) (nodes_of plan)) [
    | yes h ↦ ap (plan_at plan) (e ∙ omega arith)
    | no h ↦ plan_past plan j (omega arith) ∙ sym (plan_past plan (i + 1 + size first_tree) (omega arith))
  ]
