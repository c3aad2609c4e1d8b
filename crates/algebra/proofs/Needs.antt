-- The need: what a tree's nodes count, where its rows lie, and that no plan needs more than it did when every node counted bound × columns.
-- Assumes nothing.
use Prim.Native.Nat.{ℕ, ◌+◌, ◌*◌, ◌≤◌}
use mathlib.Core.Bool.{Bool, true, false, and-eq-true_iff}
use mathlib.Core.Path.{◌≡◌, refl}
use mathlib.Core.List.{List, [], ◌∷◌, ◌++◌, map}
use native.Mathlib.Omega.{arith}
use native.Mathlib.Nat.{mul-le-mul, mul-one}
use lib.ListN.{length}
use Rattle.algebra.specs.Lists.{total, unique, within}
use Rattle.algebra.specs.Plans.{Tables, select, project, distinct, group, sort, cross, semi, quant, fold, each, pair, Unary, Binary, Plan, leaf, one, two, columns}
use Rattle.algebra.specs.Places.{root, subtrees}
use Rattle.algebra.specs.Refusals.{bound, width, has_region, counted_rows, share, part, need, list_in_view, in_view}
use Rattle.algebra.proofs.Lists.{unique-length}
use Rattle.algebra.proofs.Refusals.{in_view_one, in_view_two}

-- ---- sums over lists
module _ {A : Type 0} (f : A → ℕ) where
  pub total-append : (xs ys : List A) → total (map f (xs ++ ys)) ≡ total (map f xs) + total (map f ys)
  total-append [] ys = omega arith
  total-append (x ∷ xs) ys = omega (arith, total-append xs ys)

  pub total-most : (g : A → ℕ) → ((x : A) → f x ≤ g x) → (xs : List A) → total (map f xs) ≤ total (map g xs)
  total-most g h [] = omega arith
  total-most g h (x ∷ xs) = omega (arith, h x, total-most g h xs)

-- ---- no plan needs more than before
-- the cells that a node's rows can take, and the need in which every node counted them
abbrev pub extent : Tables → Plan → ℕ
extent T p = bound T p * width T p

abbrev pub need_before : Tables → Plan → ℕ
need_before T p = total (map (extent T) (subtrees p)) + 4096

pub counted-most : (r : Bool) (b : ℕ) → counted_rows r b ≤ b
counted-most true b = omega arith
counted-most false b = omega arith

pub share-most : (T : Tables) (p : Plan) → share T p ≤ extent T p
share-most T p = mul-le-mul (counted-most (has_region (root p)) (bound T p)) (omega arith)

pub need-no-more : (T : Tables) (p : Plan) → need T p ≤ need_before T p
unfolding need
need-no-more T p = omega (arith, total-most (share T) (extent T) (share-most T) (subtrees p))

-- a list in view names each column once at most
pub list-narrow : (ids cs : List ℕ) → list_in_view ids cs ≡ true → length ids ≤ length cs
list-narrow ids cs h = let (u, w) = (and-eq-true_iff (unique ids) (within ids cs)).0 h in unique-length ids cs u w

module _ (T : Tables) where
  -- ---- a tree's part is its node's share and its children's parts
  pub part-one : (u : Unary) (p : Plan) → part T (one u p) ≡ share T (one u p) + part T p
  unfolding subtrees
  part-one u p = refl

  pub part-two : (b : Binary) (e f : Plan) → part T (two b e f) ≡ share T (two b e f) + part T e + part T f
  unfolding subtrees
  part-two b e f = omega (arith, total-append (share T) (subtrees e) (subtrees f))

  -- ---- a tree's rows lie in its part
  pub rows-within : (scope : List ℕ) (p : Plan) → in_view T scope p ≡ true → extent T p ≤ part T p
  unfolding bound columns subtrees
  rows-within scope (leaf x) v = omega arith
  rows-within scope (one (select t) p) v =
      omega (arith, rows-within scope p (in_view_one T scope (select t) p v).1)
  rows-within scope (one (project ids) p) v =
      let (a, b) = in_view_one T scope (project ids) p v in
      let n : bound T p * length ids ≤ extent T p = mul-le-mul (omega arith) (list-narrow ids (columns T p) a) in
      omega (arith, rows-within scope p b)
  rows-within scope (one (distinct ids) p) v = omega arith
  rows-within scope (one (group g n l r c t) p) v = omega arith
  rows-within scope (one (sort d ids) p) v = omega arith
  rows-within scope (two cross e f) v = omega arith
  rows-within scope (two (semi m l r t) e f) v =
      rw mul-one (omega (arith, part-two (semi m l r t) e f, rows-within scope e (in_view_two T scope (semi m l r t) e f v).1))
  rows-within scope (two (quant m t) e f) v =
      rw mul-one (omega (arith, part-two (quant m t) e f, rows-within scope e (in_view_two T scope (quant m t) e f v).1))
  rows-within scope (two (fold g n t) e f) v = omega arith
  rows-within scope (two each e f) v = omega arith
  rows-within scope (two (pair g n l r c t) e f) v = omega arith
