-- A tree at a place of a plan: the nodes around it, what is seen there, and what a change there gives. Assumes nothing.
use Prim.Native.Nat.{ℕ, zero, suc, ◌+◌, ◌-◌, ◌<◌}
use mathlib.Core.Bool.{true, false, cond}
use mathlib.Core.Path.{◌≡◌, refl, sym, ap, ◌∙◌, subst}
use mathlib.Core.List.{List, [], ◌∷◌, ◌++◌, map, map-map, append_assoc, append-nil}
use mathlib.Core.Option
use mathlib.Core.Option.{Option, none, some}
use native.Mathlib.Omega.{arith}
use lib.Dec.{ltb}
use lib.ListN.{length, length-append, get_or}
use borrow.Author.Tests.{ltb-true, ltb-false}
use Rattle.algebra.specs.Lists.{upward}
use Rattle.algebra.specs.Plans.{unit, Plan, leaf, one, two}
use Rattle.algebra.specs.Places.{Operator, unary_node, binary_node, size, flatten, modify, look}
use Rattle.algebra.proofs.Places.{flatten-length, look-subtrees}
use Rattle.algebra.proofs.Change.{look-root}
use Rattle.reading.specs.Plan.{nodes_of}
use Rattle.reading.specs.Tree.{plan_at, plan_of, whole_tree}
use Rattle.reading.proofs.Places.{whole-size, whole-subtrees}

-- ---- a tree at a place

-- p has q at place i, between the nodes before and after it; `put` gives p with another tree there
pub record Stands (p : Plan) (i : ℕ) (q : Plan) : Type 1 where
  pub left : List Operator
  pub right : List Operator
  pub at : length left ≡ i
  pub was : flatten p ≡ left ++ (flatten q ++ right)
  pub put : Plan → Plan
  pub becomes : (q' : Plan) → flatten (put q') ≡ left ++ (flatten q' ++ right)
  pub changed : (k : Plan → Option Plan) → modify k p i ≡ Option.map put (k q)
  pub looked : {A : Type 0} (k : Plan → A) (d : A) → look k d p i ≡ k q

modify-root : (k : Plan → Option Plan) (p : Plan) → modify k p 0 ≡ k p
unfolding modify
modify-root k (leaf x) = refl
modify-root k (one u p) = refl
modify-root k (two b e f) = refl

same_map : (o : Option Plan) → o ≡ Option.map (λ q. q) o
same_map none = refl
same_map (some q) = refl

map-twice : (f g : Plan → Plan) (o : Option Plan) → Option.map f (Option.map g o) ≡ Option.map (λ q. f (g q)) o
map-twice f g none = refl
map-twice f g (some q) = refl

stands-root : (p : Plan) → Stands p 0 p
stands-root p = record {
  left = [];
  right = [];
  at = refl;
  was = sym (append-nil (flatten p));
  put = λ q. q;
  becomes = λ q. sym (append-nil (flatten q));
  changed = λ k. modify-root k p ∙ same_map (k p);
  looked = λ k d. look-root k d p;
}

-- what stands inside p stands inside what holds p between two stretches of nodes
widen : (hold : Plan → Plan) (pre post : List Operator) → ((p : Plan) → flatten (hold p) ≡ pre ++ (flatten p ++ post)) → (p : Plan) (i j : ℕ) → length pre + j ≡ i
    → ((k : Plan → Option Plan) → modify k (hold p) i ≡ Option.map hold (modify k p j))
    → ((A : Type 0) (k : Plan → A) (d : A) → look k d (hold p) i ≡ look k d p j)
    → (q : Plan) → Stands p j q → Stands (hold p) i q
widen hold pre post h p i j g m l q s = record {
  left = pre ++ s.left;
  right = s.right ++ post;
  at = length-append pre s.left ∙ (ap (λ (n : ℕ). length pre + n) s.at ∙ g);
  was = h p ∙ rw s.was (simp append_assoc);
  put = λ q'. hold (s.put q');
  becomes = λ q'. h (s.put q') ∙ rw (s.becomes q') (simp append_assoc);
  changed = λ k. m k ∙ (ap (Option.map hold) (s.changed k) ∙ map-twice hold s.put (k q));
  looked = λ k d. l _ k d ∙ s.looked k d;
}

-- the tree that is seen at a place stands there
pub stands_seen : (d p : Plan) (i : ℕ) → i < size p → Stands p i (look (λ q. q) d p i)
unfolding modify look size flatten
stands_seen d (leaf x) zero h = stands-root (leaf x)
stands_seen d (leaf x) (suc i) h = absurd (omega arith)
stands_seen d (one u p) zero h = stands-root (one u p)
stands_seen d (one u p) (suc i) h =
    widen (one u) (unary_node u ∷ []) [] (λ q. ap (λ (ns : List Operator). unary_node u ∷ ns) (sym (append-nil (flatten q)))) p (suc i) i (omega arith)
    (λ k. refl) (λ A k d. refl) _ (stands_seen d p i (omega arith))
stands_seen d (two b e f) zero h = stands-root (two b e f)
stands_seen d (two b e f) (suc i) h =
    (elim (ltb i (size e)) as (λ z. ltb i (size e) ≡ z → Stands (two b e f) (suc i) (cond z (look (λ q. q) d e i) (look (λ q. q) d f (i - size e)))) [
      | true ↦ λ z.
          widen (λ q. two b q f) (binary_node b ∷ []) (flatten f) (λ q. refl) e (suc i) i (omega arith)
          (λ k. rw z) (λ A k d. rw z) _ (stands_seen d e i (ltb-true i (size e) z))
      | false ↦ λ z.
          widen (two b e) (binary_node b ∷ flatten e) [] (λ q. ap (λ (ns : List Operator). binary_node b ∷ (flatten e ++ ns)) (sym (append-nil (flatten q)))) f (suc i) (i - size e)
          (omega (arith, ltb-false i (size e) z, flatten-length e)) (λ k. rw z) (λ A k d. rw z) _ (stands_seen d f (i - size e) (omega (arith, ltb-false i (size e) z)))
    ]) refl

upward-at : {A : Type 0} (f : ℕ → A) (d : A) (n k i : ℕ) → i < n → get_or (map f (upward n k)) i d ≡ f (k + i)
upward-at f d zero k i h = absurd (omega arith)
upward-at f d (suc n) k zero h = let z : k + 0 ≡ k = omega arith in rw z
upward-at f d (suc n) k (suc i) h = let z : suc k + i ≡ k + suc i = omega arith in upward-at f d n (suc k) i (omega arith) ∙ ap f z

-- the tree at a place of a whole plan stands there
pub stands_at : (plan : List ℕ) → whole_tree plan ≡ true → (i : ℕ) → i < nodes_of plan → Stands (plan_of plan) i (plan_at plan i)
stands_at plan whole i h =
    let d = leaf unit in
    let z : 0 + i ≡ i = omega arith in
    let e : look (λ q. q) d (plan_of plan) i ≡ plan_at plan i =
    look-subtrees (λ q. q) d (plan_of plan) i ∙ (ap (λ (ps : List Plan). get_or (map (λ q. q) ps) i d) (whole-subtrees plan whole)
    ∙ (ap (λ (ps : List Plan). get_or ps i d) (map-map (λ q. q) (plan_at plan) (upward (nodes_of plan) 0))
    ∙ (upward-at (plan_at plan) d (nodes_of plan) 0 i h ∙ ap (plan_at plan) z))) in
    subst (Stands (plan_of plan) i) e (stands_seen d (plan_of plan) i (omega (arith, whole-size plan whole)))
