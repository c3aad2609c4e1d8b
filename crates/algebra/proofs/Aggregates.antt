-- The aggregates over a column by the cells that they meet, wherever these stand. Assumes nothing.
use Prim.Native.Nat.{ℕ}
use mathlib.Core.Bool.{Bool, true, false, not, cond, ◌||◌, true≢false}
use mathlib.Core.List.{List, [], ◌∷◌, ◌++◌}
use mathlib.Core.Logic.{◌⊎◌, inl, inr}
use mathlib.Core.Path.{◌≡◌, refl, ap, ap₂}
use lib.Dec.{eqb}
use lib.ListN.{length}
use Rattle.algebra.specs.Lists.{filter, any, total}
use Rattle.algebra.specs.Cells.{Summary, sum, least, greatest, over, blank, off_scale, is_blank, needs_all, sum_of, summary, aggregate, aggregate_within}

-- ---- an element that fails the test makes no difference
module _ (p : ℕ → Bool) (x : ℕ) (fails : p x ≡ false) where
  any-without : (xs ys : List ℕ) → any p (xs ++ (x ∷ ys)) ≡ any p (xs ++ ys)
  any-without [] ys = rw fails
  any-without (y ∷ xs) ys = ap (λ (b : Bool). p y || b) (any-without xs ys)

  filter-without : (xs ys : List ℕ) → filter p (xs ++ (x ∷ ys)) ≡ filter p (xs ++ ys)
  filter-without [] ys = rw fails
  filter-without (y ∷ xs) ys = ap (λ (l : List ℕ). cond (p y) (y ∷ l) l) (filter-without xs ys)

-- where no element passes none is taken out
pub filter-all : (p : ℕ → Bool) (xs : List ℕ) → any p xs ≡ false → filter (λ x. not (p x)) xs ≡ xs
filter-all p [] h = refl
filter-all p (x ∷ xs) h =
    (elim (p x) as (λ b. (b || any p xs) ≡ false → cond (not b) (x ∷ filter (λ y. not (p y)) xs) (filter (λ y. not (p y)) xs) ≡ x ∷ xs) [
      | true ↦ λ k. absurd (true≢false k)
      | false ↦ λ k. ap (λ (l : List ℕ). x ∷ l) (filter-all p xs k)
    ]) h

-- ---- the sum, the least and the greatest

-- one cell off scale: each of them is off scale
pub off_scale_wins : (k : Summary) (column : ℕ) (xs : List ℕ) → any (eqb off_scale) xs ≡ true → aggregate (over k column) xs ≡ off_scale
unfolding aggregate_within
off_scale_wins k column xs off = rw off

-- none off scale and one blank: the sum is blank, whatever the numbers come to
pub sum_missing : (column : ℕ) (xs : List ℕ) → any (eqb off_scale) xs ≡ false → any is_blank xs ≡ true → aggregate (over sum column) xs ≡ blank
unfolding aggregate_within
sum_missing column xs scaled missing = rw (scaled, missing)

-- none off scale and none blank: the sum of all of them, 0 for none
pub sum_whole : (column : ℕ) (xs : List ℕ) → any (eqb off_scale) xs ≡ false → any is_blank xs ≡ false → aggregate (over sum column) xs ≡ sum_of (length xs) (total xs)
unfolding aggregate_within
sum_whole column xs scaled whole = rw (scaled, whole) (ap (summary sum) (filter-all is_blank xs whole))

-- a blank makes no difference to the least and the greatest
pub blank_skipped : (k : Summary) (column : ℕ) (xs ys : List ℕ) → (k ≡ least) ⊎ (k ≡ greatest) → aggregate (over k column) (xs ++ (blank ∷ ys)) ≡ aggregate (over k column) (xs ++ ys)
unfolding aggregate_within
blank_skipped k column xs ys h =
    rw (skips h)
    (ap₂ (λ (b : Bool) (l : List ℕ). cond b off_scale (summary k l)) (any-without (eqb off_scale) blank refl xs ys) (filter-without (λ x. not (is_blank x)) blank refl xs ys))
  where
    skips : (k ≡ least) ⊎ (k ≡ greatest) → needs_all k ≡ false
    skips (inl e) = ap needs_all e
    skips (inr e) = ap needs_all e
