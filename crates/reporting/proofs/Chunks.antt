-- Rows in cells: `chunk k w xs` reads k rows of w cells. Assumes nothing.
use mathlib.Core.Path.{◌≡◌, refl, sym, ap, ◌∙◌, subst}
use mathlib.Core.List.{List, [], ◌∷◌, ◌++◌}
use Prim.Native.Nat.{ℕ, zero, suc, ◌+◌, ◌*◌, ◌-◌, ◌≤◌, ◌<◌}
use native.Mathlib.Nat.{zero-add, suc-add, zero-mul, suc-mul, mul-le-mul_right, add_comm, add-mul}
use native.Mathlib.Numerals.{add-one}
use native.Mathlib.Omega.{arith}
use lib.ListN.{length, take, drop, length-drop}
use lib.Seq.{take_at, drop_at, take-take, drop-drop, paste, take-paste, drop-paste, length-take-le}
use Rattle.algebra.specs.Plans.{Row}
use Rattle.reporting.specs.Rows.{chunk, Gives}

module _ {ℓ} {A : Type ℓ} where
  drop-take : (n m : ℕ) (l : List A) → drop n (take (n + m) l) ≡ take m (drop n l)
  drop-take zero m l = rw zero-add
  drop-take (suc n) m [] = rw suc-add (sym (nil m))
    where
      nil : (m : ℕ) → ◌≡◌ {A = List A} (take m []) []
      nil zero = refl
      nil (suc m) = refl
  drop-take (suc n) m (x ∷ l) = rw suc-add (drop-take n m l)

  -- a copy of n elements to `at`: what is before it, the copy, and what is behind it
  module _ (d : List A) (at : ℕ) (s : List A) (n : ℕ) (hd : at ≤ length d) (hs : n ≤ length s) where
    pub paste-front : take at (paste d at s n) ≡ take at d
    paste-front =
        sym (take-take at (at + n) (paste d at s n) (omega arith)) ∙ ap (take at) (take-paste d at s n hd hs)
        ∙ take_at (take at d) (take n s) at (length-take-le at d hd)

    pub paste-row : take n (drop at (paste d at s n)) ≡ take n s
    paste-row =
        sym (drop-take at n (paste d at s n)) ∙ ap (drop at) (take-paste d at s n hd hs)
        ∙ drop_at (take at d) (take n s) at (length-take-le at d hd)

    pub paste-rest : (k : ℕ) → at + n ≤ k → drop k (paste d at s n) ≡ drop k d
    paste-rest k h =
        let e : (at + n) + (k - (at + n)) ≡ k = omega arith in
        ap (λ (j : ℕ). drop j (paste d at s n)) (sym e) ∙ sym (drop-drop (k - (at + n)) (at + n) (paste d at s n))
        ∙ ap (drop (k - (at + n))) (drop-paste d at s n hd hs)
        ∙ drop-drop (k - (at + n)) (at + n) d ∙ ap (λ (j : ℕ). drop j d) e

-- a row more
pub times_suc : (k w : ℕ) → suc k * w ≡ w + k * w
times_suc k w = suc-mul k w ∙ add_comm (k * w) w

pub next_place : (i w : ℕ) → i * w + w ≡ (i + 1) * w
next_place i w = rw (add-one i, times_suc i w) (omega arith)

pub length-chunk : (k w : ℕ) (xs : List ℕ) → length (chunk k w xs) ≡ k
unfolding chunk
length-chunk zero w xs = refl
length-chunk (suc k) w xs = ap suc (length-chunk k w (drop w xs))

-- the rows lie in the first k * w cells
chunk_of_take : (k w : ℕ) (xs : List ℕ) → chunk k w (take (k * w) xs) ≡ chunk k w xs
unfolding chunk
chunk_of_take zero w xs = refl
chunk_of_take (suc k) w xs =
    let one : take w (take (w + k * w) xs) ≡ take w xs = take-take w (w + k * w) xs (omega arith) in
    let rest : chunk k w (drop w (take (w + k * w) xs)) ≡ chunk k w (drop w xs) = ap (chunk k w) (drop-take w (k * w) xs) ∙ chunk_of_take k w (drop w xs) in
    rw (times_suc k w) (λ i. one i ∷ rest i)

pub chunk-same : (k w : ℕ) (xs ys : List ℕ) → take (k * w) xs ≡ take (k * w) ys → chunk k w xs ≡ chunk k w ys
chunk-same k w xs ys e = sym (chunk_of_take k w xs) ∙ ap (chunk k w) e ∙ chunk_of_take k w ys

-- the rows from a place on, where the cells agree as far as they go
pub chunk-drop-same : (at k w n : ℕ) (xs ys : List ℕ) → at + k * w ≤ n → take n xs ≡ take n ys → chunk k w (drop at xs) ≡ chunk k w (drop at ys)
chunk-drop-same at k w n xs ys h e =
    let shorter : take (at + k * w) xs ≡ take (at + k * w) ys = sym (take-take (at + k * w) n xs h) ∙ ap (take (at + k * w)) e ∙ take-take (at + k * w) n ys h in
    chunk-same k w (drop at xs) (drop at ys) (sym (drop-take at (k * w) xs) ∙ ap (drop at) shorter ∙ drop-take at (k * w) ys)

pub chunk_snoc : (k w : ℕ) (xs : List ℕ) → chunk (suc k) w xs ≡ chunk k w xs ++ (take w (drop (k * w) xs) ∷ [])
unfolding chunk
chunk_snoc zero w xs = rw zero-mul
chunk_snoc (suc k) w xs =
    ap (λ (l : List Row). take w xs ∷ l) (chunk_snoc k w (drop w xs))
    ∙ ap (λ (l : List ℕ). take w xs ∷ (chunk k w (drop w xs) ++ (take w l ∷ []))) (drop-drop (k * w) w xs ∙ ap (λ (n : ℕ). drop n xs) (sym (times_suc k w)))

-- what the loop's arithmetic needs
pub turns : (m w i : ℕ) → i < m → i * w + w ≤ m * w
turns m w i h = subst (λ (k : ℕ). k ≤ m * w) (times_suc i w ∙ add_comm w (i * w)) (mul-le-mul_right w h)

pub mono : (i m w : ℕ) → i ≤ m → i * w ≤ m * w
mono i m w h = mul-le-mul_right w h

-- the first of the rows that are left
pub next_row : (m w i src : ℕ) (cells : List ℕ) → i < m → chunk (m - i) w (drop src cells) ≡ take w (drop src cells) ∷ chunk (m - (i + 1)) w (drop (src + w) cells)
unfolding chunk
next_row m w i src cells h =
    let e : m - i ≡ suc (m - (i + 1)) = omega arith in
    ap (λ (k : ℕ). chunk k w (drop src cells)) e
    ∙ ap (λ (l : List ℕ). take w (drop src cells) ∷ chunk (m - (i + 1)) w l) (drop-drop w src cells)

-- a row as a part of a slice has it
pub part-row : (at w : ℕ) (xs : List ℕ) → take w (drop at xs) ≡ take (at + w - at) (drop at xs)
part-row at w xs = let e : w ≡ at + w - at = omega arith in ap (λ (k : ℕ). take k (drop at xs)) e

pub part_length : (at w : ℕ) (xs : List ℕ) → at + w ≤ length xs → length (take (at + w - at) (drop at xs)) ≡ w
part_length at w xs h = sym (ap length (part-row at w xs)) ∙ length-take-le w (drop at xs) (rw length-drop (omega arith))

-- a row is the same where the cells agree as far as it goes
pub row_same : (at w n : ℕ) (xs ys : List ℕ) → at + w ≤ n → take n xs ≡ take n ys → take w (drop at xs) ≡ take w (drop at ys)
row_same at w n xs ys h e =
    sym (drop-take at w xs)
    ∙ ap (drop at) (sym (take-take (at + w) n xs h) ∙ ap (take (at + w)) e ∙ take-take (at + w) n ys h)
    ∙ drop-take at w ys

pub chunk_add : (k j w : ℕ) (xs : List ℕ) → chunk (k + j) w xs ≡ chunk k w xs ++ chunk j w (drop (k * w) xs)
unfolding chunk
chunk_add zero j w xs = rw (zero-add, zero-mul)
chunk_add (suc k) j w xs =
    ap (λ (n : ℕ). chunk n w xs) (suc-add k j)
    ∙ ap (λ (l : List Row). take w xs ∷ l) (chunk_add k j w (drop w xs))
    ∙ ap (λ (l : List ℕ). take w xs ∷ (chunk k w (drop w xs) ++ chunk j w l)) (drop-drop (k * w) w xs ∙ ap (λ (n : ℕ). drop n xs) (sym (times_suc k w)))

-- n cells copied to the front
pub copied : (n : ℕ) (d s cells : List ℕ) → cells ≡ paste d 0 s n → n ≤ length s → take n cells ≡ take n s
copied n d s cells e h = ap (take n) e ∙ ap (λ (j : ℕ). take j (paste d 0 s n)) (sym (zero-add n)) ∙ take-paste d 0 s n (omega arith) h

-- the rows behind the one at hand, where the cells behind it agree up to a place past the rows
pub rows_left_lem : (m w own i src behind : ℕ) (xs ys : List ℕ) → i < m → src ≡ own + i * w → own + m * w ≤ behind
    → take (behind - (src + w)) (drop (src + w) xs) ≡ take (behind - (src + w)) (drop (src + w) ys)
    → chunk (m - (i + 1)) w (drop (src + w) xs) ≡ chunk (m - (i + 1)) w (drop (src + w) ys)
rows_left_lem m w own i src behind xs ys h s below e =
    let k : ℕ = m - (i + 1) in
    let all : (i + 1) * w + k * w ≤ m * w = subst (λ (x : ℕ). x ≤ m * w) (add-mul (i + 1) k w) (mono (i + 1 + k) m w (omega arith)) in
    let t : (i + 1) * w ≡ w + i * w = ap (λ (x : ℕ). x * w) (add-one i) ∙ times_suc i w in
    let n : ℕ = behind - (src + w) in
    chunk-same k w (drop (src + w) xs) (drop (src + w) ys)
    (sym (take-take (k * w) n (drop (src + w) xs) (omega arith)) ∙ ap (take (k * w)) e ∙ take-take (k * w) n (drop (src + w) ys) (omega arith))

-- one row, none
pub gives_one : (rows : List Row) (w : ℕ) (row : Row) (cells : List ℕ) → rows ≡ row ∷ [] → take w cells ≡ row → Gives rows w 1 1 cells
unfolding chunk
gives_one rows w row cells e f = record { is = ap (λ (r : Row). r ∷ []) f ∙ sym e; few = omega arith }

pub gives_none : (rows : List Row) (w : ℕ) (cells : List ℕ) → rows ≡ [] → Gives rows w 1 0 cells
unfolding chunk
gives_none rows w cells e = record { is = sym e; few = omega arith }
