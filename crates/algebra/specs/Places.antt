-- Places: a node's number in pre-order, from 0 (docs/DEFINITION.md, "The tree"). Definitions only.
use Rattle.std.specs.Prelude.{ℕ, zero, suc, ◌+◌, ◌-◌, cond, List, [], ◌∷◌, ◌++◌, ltb}
use Rattle.std.proofs.Math.Option.{Option, none, map}
use Rattle.algebra.specs.Plans.{Leaf, Unary, Binary, Plan, leaf, one, two}

-- a node without its children
pub data Operator : Type 0 where
  leaf_node : Leaf → Operator
  unary_node : Unary → Operator
  binary_node : Binary → Operator

abbrev pub root : Plan → Operator
root (leaf x) = leaf_node x
root (one u p) = unary_node u
root (two b e f) = binary_node b

-- how many nodes
unfoldable pub size : Plan → ℕ
size (leaf x) = 1
size (one u p) = suc (size p)
size (two b e f) = suc (size e + size f)

-- the nodes in pre-order: a node, then its first child's tree, then its second's
unfoldable pub flatten : Plan → List Operator
flatten (leaf x) = leaf_node x ∷ []
flatten (one u p) = unary_node u ∷ flatten p
flatten (two b e f) = binary_node b ∷ (flatten e ++ flatten f)

-- the tree at each place, in pre-order
unfoldable pub subtrees : Plan → List Plan
subtrees (leaf x) = leaf x ∷ []
subtrees (one u p) = one u p ∷ subtrees p
subtrees (two b e f) = two b e f ∷ (subtrees e ++ subtrees f)

-- ---- at a place
-- the node itself, or a place below it
abbrev pub here : {A : Type 0} → ℕ → A → (ℕ → A) → A
here zero x below = x
here (suc i) x below = below i

-- a partial change made at a place; none where it does not apply, or the place is past the last node
unfoldable pub modify : (Plan → Option Plan) → Plan → ℕ → Option Plan
modify k (leaf x) i = here i (k (leaf x)) (λ j. none)
modify k (one u p) i = here i (k (one u p)) (λ j. map (one u) (modify k p j))
modify k (two b e f) i =
    here i (k (two b e f)) (λ j. cond (ltb j (size e)) (map (λ q. two b q f) (modify k e j)) (map (two b e) (modify k f (j - size e))))

-- what is seen at a place, and d past the last node
unfoldable pub look : {A : Type 0} → (Plan → A) → A → Plan → ℕ → A
look k d (leaf x) i = here i (k (leaf x)) (λ j. d)
look k d (one u p) i = here i (k (one u p)) (λ j. look k d p j)
look k d (two b e f) i = here i (k (two b e f)) (λ j. cond (ltb j (size e)) (look k d e j) (look k d f (j - size e)))
