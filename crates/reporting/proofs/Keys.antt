-- Rows compared cell by cell. Assumes nothing.
use mathlib.Core.Path.{◌≡◌, sym, ap, ap₂, ◌∙◌}
use mathlib.Core.Bool.{Bool, false, cond, ◌||◌}
use mathlib.Core.List.{List}
use Prim.Native.Nat.{ℕ, ◌+◌, ◌-◌, ◌≤◌, ◌<◌}
use native.Mathlib.Numerals.{add-one}
use native.Mathlib.Omega.{arith}
use lib.Dec.{eqb, ltb}
use lib.ListN.{length, take, drop, get_or, drop_of_length-le}
use lib.Seq.{drop-cons}
use borrow.Author.Tests.{eq-eqb, ne_eqb}
use Rattle.algebra.specs.Lists.{any}
use Rattle.algebra.specs.Plans.{Row, precedes}
use Rattle.reporting.specs.Rows.{chunk}
use Rattle.reporting.specs.Positions.{picked}
use Rattle.reporting.proofs.Chunks.{next_row}

pub any_next : (P : Row → Bool) (k w i at : ℕ) (xs : List ℕ) → i < k → any P (chunk (k - i) w (drop at xs)) ≡ (P (take w (drop at xs)) || any P (chunk (k - (i + 1)) w (drop (at + w) xs)))
any_next P k w i at xs h = ap (any P) (next_row k w i at xs h)

pub any-end : (P : Row → Bool) (k w i at : ℕ) (xs : List ℕ) → k ≤ i → any P (chunk (k - i) w (drop at xs)) ≡ false
unfolding chunk
any-end P k w i at xs h = let e : k - i ≡ 0 = omega arith in ap (λ (n : ℕ). any P (chunk n w (drop at xs))) e

module _ (ps : List ℕ) (a b : Row) (i : ℕ) where
  abbrev pub keyed : Bool
  keyed = precedes (picked (drop i ps) a) (picked (drop i ps) b)

module _ (ps : List ℕ) (a b : Row) (i : ℕ) where
  key-next : i < length ps → keyed ps a b i ≡ cond (eqb (get_or a (get_or ps i 0) 0) (get_or b (get_or ps i 0) 0)) (keyed ps a b (i + 1)) (ltb (get_or a (get_or ps i 0) 0) (get_or b (get_or ps i 0) 0))
  unfolding picked
  key-next h =
      ap (λ (l : List ℕ). precedes (picked l a) (picked l b)) (drop-cons ps i 0 h)
      ∙ ap (λ (n : ℕ). cond (eqb (get_or a (get_or ps i 0) 0) (get_or b (get_or ps i 0) 0)) (keyed ps a b n) (ltb (get_or a (get_or ps i 0) 0) (get_or b (get_or ps i 0) 0))) (sym (add-one i))

  pub key-end : length ps ≤ i → keyed ps a b i ≡ false
  unfolding picked
  key-end h = ap (λ (l : List ℕ). precedes (picked l a) (picked l b)) (drop_of_length-le ps {i = i} h)

  module _ (x y : ℕ) (h : i < length ps) (ex : x ≡ get_or a (get_or ps i 0) 0) (ey : y ≡ get_or b (get_or ps i 0) 0) where
    key-at : keyed ps a b i ≡ cond (eqb x y) (keyed ps a b (i + 1)) (ltb x y)
    key-at = key-next h ∙ ap₂ (λ (x y : ℕ). cond (eqb x y) (keyed ps a b (i + 1)) (ltb x y)) (sym ex) (sym ey)

    pub key-differs : (x ≡ y → ⊥) → keyed ps a b i ≡ ltb x y
    key-differs n = key-at ∙ ap (λ (t : Bool). cond t (keyed ps a b (i + 1)) (ltb x y)) (ne_eqb x y n)

    pub key-same : x ≡ y → keyed ps a b i ≡ keyed ps a b (i + 1)
    key-same e = key-at ∙ ap (λ (t : Bool). cond t (keyed ps a b (i + 1)) (ltb x y)) (eq-eqb x y e)
