-- Laws of the cells that nodes count, their bounds and columns known up to a cap. Assumes nothing.
use Prim.Native.Nat.{ℕ, ◌+◌, ◌*◌, ◌≤◌, ◌<◌, min}
use mathlib.Core.Bool.{Bool, true, false, and-eq-true_iff}
use mathlib.Core.Path.{◌≡◌, refl, ap₂, sym, ◌∙◌}
use mathlib.Core.List.{List, [], ◌∷◌, map}
use native.Mathlib.Omega.{arith}
use native.Mathlib.Nat.{mul-le-mul}
use lib.ListN.{length}
use Rattle.algebra.specs.Lists.{all, total}
use Rattle.algebra.specs.Plans.{Tables, Plan, columns}
use Rattle.algebra.specs.Places.{root, subtrees}
use Rattle.algebra.specs.Refusals.{bound, width, has_region, counted_rows, share, part, narrow, low}
use Rattle.algebra.proofs.Places.{subtrees-length}
use Rattle.algebra.proofs.Needs.{total-append}
use Rattle.reading.specs.Plan.{node_at, nodes_of, kind_entry, kind_row}
use Rattle.reading.specs.Tree.{operator_by, plan_at}
use Rattle.reading.specs.Nodes.{arity, capped_share, capped_part}
use Rattle.reading.specs.declared.kinds.Kind.{Kind}
use Rattle.reading.specs.declared.kinds.Kind.TheVariants.{Select, Project, Semi, Anti, Some, Every}
use Rattle.reading.specs.declared.plan.Node.{Node}
use Rattle.reading.proofs.Operators.{each_kind}
use Rattle.reading.proofs.Trees.{plan_past, plan_case, first_tree, second_tree, second_at}
use Rattle.reading.proofs.Ends.{end_at, children-at}
use Rattle.reading.proofs.TreeNumbers.{capped_exact}
use Rattle.reading.proofs.Places.{size-most}

-- ---- the kinds without a region: Select, Project, Semi, Anti, Some and Every

pub region_other : (node : Node) (k : Kind) → (k ≡ Select → ⊥) → (k ≡ Project → ⊥) → (k ≡ Semi → ⊥) → (k ≡ Anti → ⊥) → (k ≡ Some → ⊥) → (k ≡ Every → ⊥)
    → true ≡ has_region (operator_by k node)
unfolding operator_by
region_other node =
    each_kind (λ k. (k ≡ Select → ⊥) → (k ≡ Project → ⊥) → (k ≡ Semi → ⊥) → (k ≡ Anti → ⊥) → (k ≡ Some → ⊥) → (k ≡ Every → ⊥) → true ≡ has_region (operator_by k node))
    (λ a b c d e f. refl) (λ a b c d e f. refl) (λ a b c d e f. absurd (a refl)) (λ a b c d e f. absurd (b refl)) (λ a b c d e f. refl) (λ a b c d e f. refl)
    (λ a b c d e f. absurd (c refl)) (λ a b c d e f. absurd (d refl)) (λ a b c d e f. absurd (e refl)) (λ a b c d e f. absurd (f refl))
    (λ a b c d e f. refl) (λ a b c d e f. refl) (λ a b c d e f. refl) (λ a b c d e f. refl) (λ a b c d e f. refl) (λ k a b c d e f. refl)

-- ---- no more than the caps

rows-most : (region : Bool) (b : ℕ) → counted_rows region (min b 4097) ≤ 4097
rows-most true b = omega arith
rows-most false b = omega arith

module _ (T : Tables) where
  pub capped_share-most : (p : Plan) → capped_share T p ≤ 135201
  capped_share-most p =
      let w : min (width T p) 33 ≤ 33 = omega arith in
      let m : capped_share T p ≤ 4097 * 33 = mul-le-mul (rows-most (has_region (root p)) (bound T p)) w in
      omega arith

  capped_total-most : (ps : List Plan) → total (map (capped_share T) ps) ≤ length ps * 135201
  capped_total-most [] = omega arith
  capped_total-most (p ∷ ps) = omega (arith, capped_share-most p, capped_total-most ps)

  -- a plan has at most 255 nodes, and so the tree at a place at most 511
  pub capped_part-most : (plan : List ℕ) (i : ℕ) → nodes_of plan < 256 → capped_part T (plan_at plan i) ≤ 69087711
  capped_part-most plan i h = omega (arith, capped_total-most (subtrees (plan_at plan i)), subtrees-length (plan_at plan i), size-most plan i)

  -- ---- exact where every node passes 13 and 14

  capped-share : (p : Plan) → narrow T p ≡ true → low T p ≡ true → capped_share T p ≡ share T p
  capped-share p n l =
      ap₂ (λ (b w : ℕ). counted_rows (has_region (root p)) b * w) (capped_exact _ (bound T p) 4096 refl l) (capped_exact _ (width T p) 32 refl n)

  capped_total : (ps : List Plan) → all (narrow T) ps ≡ true → all (low T) ps ≡ true → total (map (capped_share T) ps) ≡ total (map (share T) ps)
  capped_total [] n l = refl
  capped_total (p ∷ ps) n l =
      let (a, b) = (and-eq-true_iff (narrow T p) (all (narrow T) ps)).0 n in
      let (c, d) = (and-eq-true_iff (low T p) (all (low T) ps)).0 l in
      ap₂ ◌+◌ (capped-share p a c) (capped_total ps b d)

  pub capped-part : (p : Plan) → all (narrow T) (subtrees p) ≡ true → all (low T) (subtrees p) ≡ true → capped_part T p ≡ part T p
  capped-part p n l = capped_total (subtrees p) n l

  -- ---- the tree at a place counts what its node counts and what its children's trees count

  module _ (plan : List ℕ) (i : ℕ) where
    pub past-part : nodes_of plan ≤ i → 0 ≡ capped_part T (plan_at plan i)
    unfolding bound columns subtrees
    past-part h = rw (plan_past plan i h)

    -- the node that was read at the place, the number of its children, and what it counts
    module _ (h : i < nodes_of plan) (node : Node) (e : node ≡ node_at plan i) (children : ℕ) (q : children ≡ kind_entry (kind_row node.kind) 0) (own : ℕ) (s : own ≡ capped_share T (plan_at plan i)) where
      pub leaf-part : children ≡ 0 → own ≡ capped_part T (plan_at plan i)
      unfolding subtrees
      leaf-part k =
          s ∙ plan_case plan i (λ op p. arity op ≡ 0 → capped_share T p ≡ capped_part T p)
          (λ x a. omega arith) (λ u a. absurd (omega arith)) (λ b a. absurd (omega arith)) h
          (sym (children-at plan i node children e q) ∙ k)

      pub one-part : children ≡ 1 → (first : ℕ) → first ≡ capped_part T (plan_at plan (i + 1)) → own + first ≡ capped_part T (plan_at plan i)
      unfolding subtrees
      one-part k first f =
          ap₂ ◌+◌ s f ∙ plan_case plan i (λ op p. arity op ≡ 1 → capped_share T p + capped_part T (first_tree plan i) ≡ capped_part T p)
          (λ x a. absurd (omega arith)) (λ u a. refl) (λ b a. absurd (omega arith)) h
          (sym (children-at plan i node children e q) ∙ k)

      pub two-part : (children ≡ 0 → ⊥) → (children ≡ 1 → ⊥) → (first second j : ℕ) → first ≡ capped_part T (plan_at plan (i + 1)) → j ≡ end_at plan (i + 1)
          → second ≡ capped_part T (plan_at plan j) → own + first + second ≡ capped_part T (plan_at plan i)
      unfolding subtrees
      two-part k l first second j f d t =
          let c = children-at plan i node children e q in
          rw (s, f, t, second_at plan i j d)
          (plan_case plan i (λ op p. (arity op ≡ 0 → ⊥) → (arity op ≡ 1 → ⊥) → capped_share T p + capped_part T (first_tree plan i) + capped_part T (second_tree plan i) ≡ capped_part T p)
          (λ x a b. absurd (a refl)) (λ u a b. absurd (b refl))
          (λ b _ _. omega (arith, total-append (capped_share T) (subtrees (first_tree plan i)) (subtrees (second_tree plan i)))) h
          (λ z. k (c ∙ z)) (λ z. l (c ∙ z)))
