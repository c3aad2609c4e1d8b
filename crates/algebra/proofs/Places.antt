-- A plan as its nodes in pre-order: a change at a place replaces the subtree's stretch of nodes. Assumes nothing.
use Prim.Native.Nat.{ℕ, zero, suc, ◌+◌, ◌-◌, ◌<◌}
use mathlib.Core.Bool.{Bool, true, false, cond}
use mathlib.Core.Path.{◌≡◌, refl, ap, ap₂, sym, ◌∙◌}
use mathlib.Core.List.{List, [], ◌∷◌, ◌++◌, map, map-append, append_assoc, append-nil}
use mathlib.Core.Option.{Option, none, some}
use native.Mathlib.Omega.{arith}
use lib.Dec.{ltb}
use lib.ListN.{length, length-append, get_or}
use borrow.Author.Tests.{ltb-true, ltb-false, lt-ltb, le-ltb}
use Rattle.algebra.specs.Lists.{all}
use Rattle.algebra.specs.Plans.{Plan, leaf, one, two}
use Rattle.algebra.specs.Places.{Operator, unary_node, binary_node, root, size, flatten, subtrees, modify, look}
use Rattle.algebra.proofs.Lists.{all_map}
use Rattle.algebra.proofs.Change.{OnSome, changed}

pub flatten-length : (p : Plan) → length (flatten p) ≡ size p
unfolding flatten size
flatten-length (leaf x) = refl
flatten-length (one u p) = ap suc (flatten-length p)
flatten-length (two b e f) = ap suc (length-append (flatten e) (flatten f) ∙ ap₂ ◌+◌ (flatten-length e) (flatten-length f))

pub subtrees-length : (p : Plan) → length (subtrees p) ≡ size p
unfolding subtrees size
subtrees-length (leaf x) = refl
subtrees-length (one u p) = ap suc (subtrees-length p)
subtrees-length (two b e f) = ap suc (length-append (subtrees e) (subtrees f) ∙ ap₂ ◌+◌ (subtrees-length e) (subtrees-length f))

-- the nodes are the roots of the subtrees
pub flatten-subtrees : (p : Plan) → flatten p ≡ map root (subtrees p)
unfolding flatten subtrees
flatten-subtrees (leaf x) = refl
flatten-subtrees (one u p) = ap (λ (ns : List Operator). unary_node u ∷ ns) (flatten-subtrees p)
flatten-subtrees (two b e f) =
    ap (λ (ns : List Operator). binary_node b ∷ ns) (ap₂ ◌++◌ (flatten-subtrees e) (flatten-subtrees f) ∙ sym (map-append root (subtrees e) (subtrees f)))

-- a test of every node is one of every subtree's root
pub all-flatten : (k : Operator → Bool) (p : Plan) → all k (flatten p) ≡ all (λ q. k (root q)) (subtrees p)
all-flatten k p = ap (all k) (flatten-subtrees p) ∙ all_map k root (subtrees p)

pub size-positive : (p : Plan) → 0 < size p
unfolding size
size-positive (leaf x) = omega arith
size-positive (one u p) = omega arith
size-positive (two b e f) = omega arith

-- ---- what is seen at a place is what is seen of the subtree there
pub next-less : (i n : ℕ) → ltb i n ≡ ltb (suc i) (suc n)
next-less i n =
    (elim (ltb i n) as (λ b. ltb i n ≡ b → b ≡ ltb (suc i) (suc n)) [ true ↦ λ e. sym (omega (arith, ltb-true, lt-ltb)) | false ↦ λ e. sym (omega (arith, ltb-false, le-ltb)) ]) refl

look_append : {A : Type 0} (k : Plan → A) (d : A) (xs ys : List Plan) (i : ℕ)
    → get_or (map k (xs ++ ys)) i d ≡ cond (ltb i (length xs)) (get_or (map k xs) i d) (get_or (map k ys) (i - length xs) d)
look_append k d [] ys i = rw (le-ltb i 0 (omega arith)) (ap (λ (n : ℕ). get_or (map k ys) n d) (omega arith))
look_append k d (x ∷ xs) ys zero = rw (lt-ltb 0 (suc (length xs)) (omega arith))
look_append k d (x ∷ xs) ys (suc i) = look_append k d xs ys i ∙ ap₂ (λ (b : Bool) (n : ℕ). cond b (get_or (map k xs) i d) (get_or (map k ys) n d)) (next-less i (length xs)) (omega arith)

pub look-subtrees : {A : Type 0} (k : Plan → A) (d : A) (p : Plan) (i : ℕ) → look k d p i ≡ get_or (map k (subtrees p)) i d
unfolding look subtrees
look-subtrees k d (leaf x) zero = refl
look-subtrees k d (leaf x) (suc i) = refl
look-subtrees k d (one u p) zero = refl
look-subtrees k d (one u p) (suc i) = look-subtrees k d p i
look-subtrees k d (two b e f) zero = refl
look-subtrees k d (two b e f) (suc i) =
    rw (look-subtrees k d e i, look-subtrees k d f (i - size e), ← subtrees-length e) (sym (look_append k d (subtrees e) (subtrees f) i))

-- ---- a change at a place
-- p has q at place i, k makes q' of it, and p' is p with that
pub record Splice (k : Plan → Option Plan) (p : Plan) (i : ℕ) (p' : Plan) : Type 0 where
  pub q : Plan
  pub q' : Plan
  pub left : List Operator
  pub right : List Operator
  pub at : length left ≡ i
  pub was : flatten p ≡ left ++ (flatten q ++ right)
  pub made : k q ≡ some q'
  pub becomes : flatten p' ≡ left ++ (flatten q' ++ right)

module _ (k : Plan → Option Plan) where
  splice_root : (p : Plan) → OnSome (Splice k p 0) (k p)
  splice_root p = go (k p) refl
    where
      go : (o : Option Plan) → k p ≡ o → OnSome (Splice k p 0) o
      go none e = tt
      go (some p') e = record { q = p; q' = p'; left = []; right = []; at = refl; was = sym (append-nil (flatten p)); made = e; becomes = sym (append-nil (flatten p')) }

  -- a change inside p is one inside what holds p between two stretches of nodes
  widen : (hold : Plan → Plan) (pre post : List Operator) → ((p : Plan) → flatten (hold p) ≡ pre ++ (flatten p ++ post)) → (p : Plan) (i j : ℕ) → length pre + j ≡ i
      → (p' : Plan) → Splice k p j p' → Splice k (hold p) i (hold p')
  widen hold pre post h p i j g p' s = record {
    q = s.q;
    q' = s.q';
    left = pre ++ s.left;
    right = s.right ++ post;
    at = length-append pre s.left ∙ (ap (λ (n : ℕ). length pre + n) s.at ∙ g);
    was = h p ∙ rw s.was (simp append_assoc);
    made = s.made;
    becomes = h p' ∙ rw s.becomes (simp append_assoc);
  }

  pub modify_splice : (p : Plan) (i : ℕ) → OnSome (Splice k p i) (modify k p i)
  unfolding flatten
  modify_splice =
      changed k (Splice k) splice_root
      (λ u p j q s. widen (one u) (unary_node u ∷ []) [] (λ q. ap (λ (ns : List Operator). unary_node u ∷ ns) (sym (append-nil (flatten q)))) p (suc j) j (omega arith) q s)
      (λ b e f j q z s. widen (λ q. two b q f) (binary_node b ∷ []) (flatten f) (λ q. refl) e (suc j) j (omega arith) q s)
      (λ b e f j q z s. widen (two b e) (binary_node b ∷ flatten e) [] (λ q. ap (λ (ns : List Operator). binary_node b ∷ (flatten e ++ ns)) (sym (append-nil (flatten q)))) f (suc j) (j - size e)
      (omega (arith, ltb-false, flatten-length e)) q s)
