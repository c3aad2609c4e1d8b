-- What the refusals give of a plan that none of them turns back. Assumes nothing.
use Rattle.std.specs.Prelude.{if◌then◌else◌}
use Prim.Native.Nat.{ℕ, suc, ◌≤◌}
use mathlib.Core.Bool.{Bool, true, false, not, ◌&&◌, and-eq-true_iff}
use mathlib.Core.Path.{◌≡◌, refl}
use mathlib.Core.List.{List, [], ◌∷◌, ◌++◌}
use native.Mathlib.Omega.{arith}
use native.Mathlib.Nat.{le_trans}
use lib.Dec.{eqb, leb}
use lib.ListN.{length}
use borrow.Author.Tests.{eqb-true, leb-true}
use Rattle.algebra.specs.Lists.{all, unique}
use Rattle.algebra.specs.Plans.{Env, Tables, Unary, Binary, Plan, leaf, one, two, nested, columns, eval}
use Rattle.algebra.specs.Places.{size, flatten, subtrees}
use Rattle.algebra.specs.Names.{introduced}
use Rattle.algebra.specs.Refusals.{bound, byte, fields, found, once, unary_in_view, binary_in_view, inner_scope, in_view, narrow, low, refusal, passes}
use Rattle.algebra.proofs.Lists.{all_append, every_true}
use Rattle.algebra.proofs.Bounds.{row-bound}

-- ---- a test of every subtree holds of the tree, and of every subtree of its children
module _ (k : Plan → Bool) where
  pub all-root : (p : Plan) → all k (subtrees p) ≡ true → k p ≡ true
  unfolding subtrees
  all-root (leaf x) h = ((and-eq-true_iff (k (leaf x)) true).0 h).0
  all-root (one u p) h = ((and-eq-true_iff (k (one u p)) (all k (subtrees p))).0 h).0
  all-root (two b e f) h = ((and-eq-true_iff (k (two b e f)) (all k (subtrees e ++ subtrees f))).0 h).0

  pub all_child : (u : Unary) (p : Plan) → all k (subtrees (one u p)) ≡ true → all k (subtrees p) ≡ true
  unfolding subtrees
  all_child u p h = ((and-eq-true_iff (k (one u p)) (all k (subtrees p))).0 h).1

  all-children : (b : Binary) (e f : Plan) → all k (subtrees (two b e f)) ≡ true → (all k (subtrees e) ≡ true) × (all k (subtrees f) ≡ true)
  unfolding subtrees
  all-children b e f h = all_append k (subtrees e) (subtrees f) ((and-eq-true_iff (k (two b e f)) (all k (subtrees e ++ subtrees f))).0 h).1

  pub all_left : (b : Binary) (e f : Plan) → all k (subtrees (two b e f)) ≡ true → all k (subtrees e) ≡ true
  all_left b e f h = (all-children b e f h).0

  pub all_right : (b : Binary) (e f : Plan) → all k (subtrees (two b e f)) ≡ true → all k (subtrees f) ≡ true
  all_right b e f h = (all-children b e f h).1

-- ---- the numbers
-- one choice of `refusal`
chosen : (b : Bool) (n rest : ℕ) → (if not b then suc n else rest) ≡ 0 → (b ≡ true) × (rest ≡ 0)
chosen true n rest h = (refl, h)
chosen false n rest h = absurd (omega arith)

module _ (T : Tables) (p : Plan) where
  -- what a plan that 11 to 14 do not turn back has
  pub record Unrefused : Type 0 where
    pub found_all : all (found T) (flatten p) ≡ true
    pub introduced_once : once (introduced T p) ≡ true
    pub in_view_all : in_view T [] p ≡ true
    pub narrow_all : all (narrow T) (subtrees p) ≡ true
    pub low_all : all (low T) (subtrees p) ≡ true

  pub refusal-none : refusal T p ≡ 0 → Unrefused
  unfolding refusal
  refusal-none h =
      let (found₁, h₁) = chosen (all (found T) (flatten p)) 10 _ h in
      let (ids₁, h₂) = chosen (once (introduced T p) && in_view T [] p) 11 _ h₁ in
      let (narrow₁, h₃) = chosen (all (narrow T) (subtrees p)) 12 _ h₂ in
      let (low₁, _) = chosen (all (low T) (subtrees p)) 13 0 h₃ in
      let (once₁, view₁) = (and-eq-true_iff (once (introduced T p)) (in_view T [] p)).0 ids₁ in
      record { found_all = found₁; introduced_once = once₁; in_view_all = view₁; narrow_all = narrow₁; low_all = low₁ }

  pub refusal_0 : Unrefused → refusal T p ≡ 0
  unfolding refusal
  refusal_0 u = rw (u.found_all, u.introduced_once, u.in_view_all, u.narrow_all, u.low_all)

  -- each number, the tests before it passed
  pub refusal_11 : all (found T) (flatten p) ≡ false → refusal T p ≡ 11
  unfolding refusal
  refusal_11 h = rw h

  pub refusal_12 : all (found T) (flatten p) ≡ true → once (introduced T p) && in_view T [] p ≡ false → refusal T p ≡ 12
  unfolding refusal
  refusal_12 h k = rw (h, k)

  pub refusal_13 : all (found T) (flatten p) ≡ true → once (introduced T p) && in_view T [] p ≡ true → all (narrow T) (subtrees p) ≡ false → refusal T p ≡ 13
  unfolding refusal
  refusal_13 h k n = rw (h, k, n)

  pub refusal_14 : all (found T) (flatten p) ≡ true → once (introduced T p) && in_view T [] p ≡ true → all (narrow T) (subtrees p) ≡ true
      → all (low T) (subtrees p) ≡ false → refusal T p ≡ 14
  unfolding refusal
  refusal_14 h k n l = rw (h, k, n, l)

  pub refusal-found : refusal T p ≡ 0 → all (found T) (flatten p) ≡ true
  refusal-found h = (refusal-none h).found_all

  pub refusal-once : refusal T p ≡ 0 → once (introduced T p) ≡ true
  refusal-once h = (refusal-none h).introduced_once

  pub refusal_in_view : refusal T p ≡ 0 → in_view T [] p ≡ true
  refusal_in_view h = (refusal-none h).in_view_all

  pub refusal-narrow : refusal T p ≡ 0 → all (narrow T) (subtrees p) ≡ true
  refusal-narrow h = (refusal-none h).narrow_all

  pub refusal-low : refusal T p ≡ 0 → all (low T) (subtrees p) ≡ true
  refusal-low h = (refusal-none h).low_all

  -- 8 and 9, and the rest
  abbrev conditions : List Bool
  conditions = leb (size p) 64 ∷ all fields (flatten p) ∷ eqb (refusal T p) 0 ∷ []

  pub passes-size : passes T p ≡ true → size p ≤ 64
  unfolding passes
  passes-size h = leb-true (size p) 64 (every_true conditions h).0

  pub passes-fields : passes T p ≡ true → all fields (flatten p) ≡ true
  unfolding passes
  passes-fields h = (every_true conditions h).1.0

  pub passes-refusal : passes T p ≡ true → refusal T p ≡ 0
  unfolding passes
  passes-refusal h = eqb-true (refusal T p) 0 (every_true conditions h).1.1.0

pub once-unique : (ids : List ℕ) → once ids ≡ true → unique ids ≡ true
unfolding once
once-unique ids h = ((and-eq-true_iff (unique ids) (all byte ids)).0 h).0

-- ---- names in view, at a node and below it
module _ (T : Tables) (scope : List ℕ) where
  pub in_view_one : (u : Unary) (p : Plan) → in_view T scope (one u p) ≡ true → (unary_in_view scope u (columns T p) ≡ true) × (in_view T scope p ≡ true)
  unfolding in_view
  in_view_one u p h = (and-eq-true_iff (unary_in_view scope u (columns T p)) (in_view T scope p)).0 h

  pub in_view_two : (b : Binary) (e f : Plan) → in_view T scope (two b e f) ≡ true
      → (binary_in_view scope b (columns T e) (columns T f) ≡ true) × (in_view T scope e ≡ true) × (in_view T (inner_scope (nested b) (columns T e) scope) f ≡ true)
  unfolding in_view
  in_view_two b e f h =
      let inner : Bool = in_view T (inner_scope (nested b) (columns T e) scope) f in
      let (k, l) = (and-eq-true_iff (binary_in_view scope b (columns T e) (columns T f)) (in_view T scope e && inner)).0 h in
      let (u, v) = (and-eq-true_iff (in_view T scope e) inner).0 l in
      (k, u, v)

-- ---- rows
-- a plan within its bound gives at most 4,096 rows
pub low_rows : (T : Tables) (p : Plan) → low T p ≡ true → (env : Env) → length (eval T p env) ≤ 4096
low_rows T p h env = le_trans (row-bound T p env) (leb-true (bound T p) 4096 h)
