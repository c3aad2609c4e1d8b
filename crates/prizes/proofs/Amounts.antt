-- Amounts of pence: sums, one penny each, a pool split evenly, and the shares of a purse. Assumes nothing.
use Prim.Native.Nat.{ℕ, zero, suc, ◌+◌, ◌*◌, ◌/◌, ◌%◌, ◌≤◌, ◌<◌}
use native.Mathlib.Omega.{arith}
use native.Mathlib.Nat.{mul-add, suc-mul, zero-mul, mul_comm, div-add-mod', mod-lt}
use native.Mathlib.Numerals.{add-one}
use mathlib.Core.Path.{◌≡◌, refl, sym, ap, ap₂, ◌∙◌}
use mathlib.Core.List.{List, [], ◌∷◌, ◌++◌, map, append-nil}
use lib.ListN.{length, take, drop, get_or, set, replicate, length-map, length-replicate, get_or-replicate, drop_of_length-le}
use lib.Seq.{drop-cons, take_all}
use mir.Syntax.{w32}
use mir.Val.{Fits}
use Rattle.std.specs.List.{fold, sum}
use Rattle.algebra.specs.Lists.{total}
use Rattle.prizes.specs.Payments.{one_each, share_of, left_over, place_pence, split}

-- ---- sums

-- the library's word for a sum adds from the front
sum_from : (a : ℕ) (xs : List ℕ) → fold (λ s x. s + x) a xs ≡ a + total xs
sum_from a [] = omega arith
sum_from a (x ∷ xs) = omega (arith, sum_from (a + x) xs)

pub sum-total : (xs : List ℕ) → sum xs ≡ total xs
sum-total xs = omega (arith, sum_from 0 xs)

-- a sum of 32-bit numbers is at most so many times the largest of them
pub total-few : (xs : List ℕ) → ((i : ℕ) → Fits w32 (get_or xs i 0)) → total xs ≤ length xs * 4294967295
total-few [] below = omega arith
total-few (x ∷ xs) below = omega (arith, below 0, total-few xs (λ i. below (suc i)))

pub total-parts : (n : ℕ) (xs : List ℕ) → total xs ≡ total (take n xs) + total (drop n xs)
total-parts zero xs = omega arith
total-parts (suc n) [] = refl
total-parts (suc n) (x ∷ xs) = omega (arith, total-parts n xs)

pub total-next : (xs : List ℕ) (i : ℕ) → i < length xs → total (drop i xs) ≡ get_or xs i 0 + total (drop (i + 1) xs)
total-next xs i h = ap total (drop-cons xs i 0 h) ∙ ap (λ (k : ℕ). get_or xs i 0 + total (drop k xs)) (sym (add-one i))

pub total-below : (xs : List ℕ) (i : ℕ) → get_or xs i 0 ≤ total xs
total-below [] i = omega arith
total-below (x ∷ xs) zero = omega arith
total-below (x ∷ xs) (suc i) = omega (arith, total-below xs i)

pub total-drop : (i : ℕ) (xs : List ℕ) → total (drop i xs) ≤ total xs
total-drop i xs = omega (arith, total-parts i xs)

pub total-take : (i : ℕ) (xs : List ℕ) → total (take i xs) ≤ total xs
total-take i xs = omega (arith, total-parts i xs)

total-same : (n x : ℕ) → total (replicate n x) ≡ n * x
total-same zero x = sym (zero-mul x)
total-same (suc n) x = omega (arith, total-same n x, suc-mul n x)

-- ---- one penny each

pub one-each-length : (n : ℕ) (xs : List ℕ) → length (one_each n xs) ≡ length xs
unfolding one_each
one-each-length n [] = refl
one-each-length zero (x ∷ xs) = refl
one-each-length (suc n) (x ∷ xs) = ap suc (one-each-length n xs)

pub one-each-none : (xs : List ℕ) → one_each 0 xs ≡ xs
unfolding one_each
one-each-none [] = refl
one-each-none (x ∷ xs) = refl

pub one-each-total : (n : ℕ) (xs : List ℕ) → n ≤ length xs → total (one_each n xs) ≡ total xs + n
unfolding one_each
one-each-total zero [] h = refl
one-each-total (suc n) [] h = absurd (omega arith)
one-each-total zero (x ∷ xs) h = omega arith
one-each-total (suc n) (x ∷ xs) h = omega (arith, one-each-total n xs (omega arith))

-- an amount that has its penny, and one that has none
pub one-each_had : (n : ℕ) (xs : List ℕ) (k : ℕ) → k < n → k < length xs → get_or (one_each n xs) k 0 ≡ get_or xs k 0 + 1
unfolding one_each
one-each_had n [] k h l = absurd (omega arith)
one-each_had zero (x ∷ xs) k h l = absurd (omega arith)
one-each_had (suc n) (x ∷ xs) zero h l = omega arith
one-each_had (suc n) (x ∷ xs) (suc k) h l = one-each_had n xs k (omega arith) (omega arith)

pub one-each-left : (n : ℕ) (xs : List ℕ) (k : ℕ) → n ≤ k → get_or (one_each n xs) k 0 ≡ get_or xs k 0
unfolding one_each
one-each-left n [] k h = refl
one-each-left zero (x ∷ xs) k h = refl
one-each-left (suc n) (x ∷ xs) zero h = absurd (omega arith)
one-each-left (suc n) (x ∷ xs) (suc k) h = one-each-left n xs k (omega arith)

-- a penny more
more : (n : ℕ) (xs : List ℕ) → n < length xs → set (one_each n xs) n (get_or (one_each n xs) n 0 + 1) ≡ one_each (suc n) xs
unfolding one_each
more n [] h = absurd (omega arith)
more zero (x ∷ xs) h = ap₂ (λ (a : ℕ) (l : List ℕ). a ∷ l) (add-one x) (sym (one-each-none xs))
more (suc n) (x ∷ xs) h = ap (λ (l : List ℕ). suc x ∷ l) (more n xs (omega arith))

pub one-each-next : (n : ℕ) (xs : List ℕ) → n < length xs → set (one_each n xs) n (get_or (one_each n xs) n 0 + 1) ≡ one_each (n + 1) xs
one-each-next n xs h = more n xs h ∙ ap (λ (k : ℕ). one_each k xs) (sym (add-one n))

-- ---- a pool split among n rows

pub split-length : (n pence : ℕ) → length (split n pence) ≡ n
split-length n pence = one-each-length (pence % n) (replicate n (pence / n)) ∙ length-replicate n (pence / n)

pub split-total : (n pence : ℕ) → 0 < n → total (split n pence) ≡ pence
split-total n pence h =
    one-each-total (pence % n) (replicate n (pence / n)) (omega (arith, length-replicate n (pence / n), mod-lt pence {m = n} h))
    ∙ (ap (λ (k : ℕ). k + pence % n) (total-same n (pence / n) ∙ mul_comm n (pence / n)) ∙ div-add-mod' pence n)

-- row k's part, where it has an odd penny and where it has none
pub part_odd : (n pence k : ℕ) → k < n → k < pence % n → pence / n + 1 ≡ get_or (split n pence) k 0
part_odd n pence k h l =
    sym (one-each_had (pence % n) (replicate n (pence / n)) k l (omega (arith, length-replicate n (pence / n)))
    ∙ ap (λ (x : ℕ). x + 1) (get_or-replicate n k (pence / n) 0 h))

pub part-even : (n pence k : ℕ) → k < n → pence % n ≤ k → pence / n ≡ get_or (split n pence) k 0
part-even n pence k h l = sym (one-each-left (pence % n) (replicate n (pence / n)) k l ∙ get_or-replicate n k (pence / n) 0 h)

-- ---- the shares of a purse

-- a value is written for each element
pub all-written : (f : ℕ → ℕ) (xs ys : List ℕ) (i : ℕ) → length xs ≤ i → length ys ≡ length xs → map f (take i xs) ++ drop i ys ≡ map f xs
all-written f xs ys i h e =
    ap₂ (λ (a b : List ℕ). map f a ++ b) (take_all i xs h) (drop_of_length-le ys {i = i} (omega arith)) ∙ append-nil (map f xs)

floor_low : (x : ℕ) → x / 10000 * 10000 ≤ x
floor_low x = omega (arith, div-add-mod' x 10000)

floor_high : (x : ℕ) → x ≤ x / 10000 * 10000 + 9999
floor_high x = omega (arith, div-add-mod' x 10000, mod-lt x {m = 10000} (omega arith))

-- all shares rounded down: at most 9,999 of 10,000 are lost at each
floors_low : (purse : ℕ) (shares : List ℕ) → total (map (share_of purse) shares) * 10000 ≤ purse * total shares
floors_low purse [] = omega arith
floors_low purse (s ∷ shares) = omega (arith, floor_low (purse * s), floors_low purse shares, mul-add purse s (total shares))

floors_high : (purse : ℕ) (shares : List ℕ) → purse * total shares ≤ total (map (share_of purse) shares) * 10000 + length shares * 9999
floors_high purse [] = omega arith
floors_high purse (s ∷ shares) = omega (arith, floor_high (purse * s), floors_high purse shares, mul-add purse s (total shares))

module _ (purse : ℕ) (shares : List ℕ) (sum : total shares ≡ 10000) where
  pub floors_within : total (map (share_of purse) shares) ≤ purse
  floors_within = omega (arith, floors_low purse shares, ap (λ (k : ℕ). purse * k) sum)

  -- there is a place for every penny left over
  pub left-few : left_over purse shares ≤ length (map (share_of purse) shares)
  left-few = omega (arith, floors_high purse shares, ap (λ (k : ℕ). purse * k) sum, length-map shares (share_of purse))

  pub places-total : total (place_pence purse shares) ≡ purse
  unfolding place_pence
  places-total = one-each-total (left_over purse shares) (map (share_of purse) shares) left-few ∙ omega (arith, floors_within)
