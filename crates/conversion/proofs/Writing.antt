-- Bytes written at a place, one run behind another, and what a list of numbers gives one after another. Assumes nothing.
use Prim.Native.Nat.{ℕ, zero, suc, ◌+◌, ◌-◌, ◌*◌, ◌≤◌, ◌<◌}
use native.Mathlib.Omega.{arith}
use native.Mathlib.Nat.{mul-suc}
use native.Mathlib.Numerals.{add-one}
use mathlib.Core.Path.{◌≡◌, refl, sym, ap, ap₂, ◌∙◌}
use mathlib.Core.List.{List, [], ◌∷◌, ◌++◌, append_assoc, append-nil}
use lib.ListN.{length, take, drop, length-append, take-append-drop}
use lib.Seq.{drop-drop, take_at, drop_at, length-take-le}
use Rattle.algebra.specs.Lists.{flat_map, upward}
use Rattle.reading.proofs.Places.{upward_append, upward-more, flat_map-joined}
use Rattle.conversion.specs.Helpers.{bytes_written}

-- ---- no bytes, and one run of bytes behind another

pub written_none : (out : List ℕ) (at : ℕ) → out ≡ bytes_written out at []
written_none out at = let z : at + 0 ≡ at = omega arith in rw z (sym (take-append-drop at out))

module _ (out : List ℕ) (at : ℕ) (xs ys : List ℕ) (fits : at + length xs ≤ length out) where
  pub written-more : (n : ℕ) → n ≡ at + length xs → bytes_written (bytes_written out at xs) n ys ≡ bytes_written out at (xs ++ ys)
  written-more n e =
      let p = take at out ++ xs in
      let r = drop n out in
      let long : length p ≡ n = length-append (take at out) xs ∙ omega (arith, length-take-le at out (omega arith)) in
      let start : bytes_written out at xs ≡ p ++ r = rw e (sym (append_assoc (take at out) xs (drop (at + length xs) out))) in
      let rest : drop (n + length ys) (p ++ r) ≡ drop (n + length ys) out =
      sym (drop-drop (length ys) n (p ++ r)) ∙ (ap (drop (length ys)) (drop_at p r n long) ∙ drop-drop (length ys) n out) in
      let place : n + length ys ≡ at + length (xs ++ ys) = omega (arith, length-append xs ys) in
      ap (λ (s : List ℕ). bytes_written s n ys) start
      ∙ (ap₂ (λ (a b : List ℕ). a ++ (ys ++ b)) (take_at p r n long) rest
      ∙ (ap (λ (j : ℕ). p ++ (ys ++ drop j out)) place ∙ simp append_assoc))

-- three runs of bytes: what each write leaves
pub three-written : (out : List ℕ) (at n m : ℕ) (xs ys zs first second third : List ℕ)
    → first ≡ bytes_written out at xs → second ≡ bytes_written first n ys → third ≡ bytes_written second m zs
    → n ≡ at + length xs → m ≡ at + length xs + length ys → at + length xs + length ys ≤ length out
    → third ≡ bytes_written out at (xs ++ (ys ++ zs))
three-written out at n m xs ys zs first second third p q r e f h =
    let two : second ≡ bytes_written out at (xs ++ ys) = q ∙ (ap (λ (s : List ℕ). bytes_written s n ys) p ∙ written-more out at xs ys (omega arith) n e) in
    r ∙ (ap (λ (s : List ℕ). bytes_written s m zs) two
    ∙ (written-more out at (xs ++ ys) zs (omega (arith, length-append xs ys)) m (omega (arith, length-append xs ys)) ∙ ap (bytes_written out at) (append_assoc xs ys zs)))

-- ---- what the numbers from 0 on give

pub flat_more : (f : ℕ → List ℕ) (n : ℕ) → flat_map f (upward (n + 1) 0) ≡ flat_map f (upward n 0) ++ f n
flat_more f n =
    let z : 0 + n ≡ n = omega arith in
    ap (flat_map f) (upward-more n 0) ∙ (flat_map-joined f (upward n 0) ((0 + n) ∷ []) ∙ rw z (ap (λ (s : List ℕ). flat_map f (upward n 0) ++ s) (append-nil (f n))))

pub flat_long : (f : ℕ → List ℕ) (z n : ℕ) → ((k : ℕ) → k < n → length (f k) ≡ z) → length (flat_map f (upward n 0)) ≡ z * n
flat_long f z zero h = omega arith
flat_long f z (suc n) h =
    ap (λ (m : ℕ). length (flat_map f (upward m 0))) (sym (add-one n))
    ∙ (ap length (flat_more f n) ∙ (length-append (flat_map f (upward n 0)) (f n) ∙ omega (arith, flat_long f z n (λ k l. h k (omega arith)), h n (omega arith), mul-suc z n)))

pub flat_most : (f : ℕ → List ℕ) (m n : ℕ) → m ≤ n → length (flat_map f (upward m 0)) ≤ length (flat_map f (upward n 0))
flat_most f m n h =
    let q : n ≡ m + (n - m) = omega arith in
    let e : flat_map f (upward n 0) ≡ flat_map f (upward m 0) ++ flat_map f (upward (n - m) (0 + m)) =
    ap (λ (j : ℕ). flat_map f (upward j 0)) q ∙ (ap (flat_map f) (upward_append m (n - m) 0) ∙ flat_map-joined f (upward m 0) (upward (n - m) (0 + m))) in
    omega (arith, ap length e, length-append (flat_map f (upward m 0)) (flat_map f (upward (n - m) (0 + m))))

-- the room of one more
pub flat_room : (f : ℕ → List ℕ) (m n : ℕ) → m < n → length (flat_map f (upward m 0)) + length (f m) ≤ length (flat_map f (upward n 0))
flat_room f m n h = omega (arith, flat_most f (m + 1) n (omega arith), ap length (flat_more f m), length-append (flat_map f (upward m 0)) (f m))

-- one more of what the numbers from 0 on give, behind the others
pub flat_written : (f : ℕ → List ℕ) (out : List ℕ) (at i place : ℕ) → at + length (flat_map f (upward i 0)) ≤ length out → place ≡ at + length (flat_map f (upward i 0))
    → bytes_written (bytes_written out at (flat_map f (upward i 0))) place (f i) ≡ bytes_written out at (flat_map f (upward (i + 1) 0))
flat_written f out at i place h e = written-more out at (flat_map f (upward i 0)) (f i) h place e ∙ ap (bytes_written out at) (sym (flat_more f i))

pub flat_next : (f : ℕ → List ℕ) (i : ℕ) → length (flat_map f (upward (i + 1) 0)) ≡ length (flat_map f (upward i 0)) + length (f i)
flat_next f i = ap length (flat_more f i) ∙ length-append (flat_map f (upward i 0)) (f i)

pub flat_same : (f g : ℕ → List ℕ) (n : ℕ) → ((k : ℕ) → k < n → f k ≡ g k) → flat_map f (upward n 0) ≡ flat_map g (upward n 0)
flat_same f g zero h = refl
flat_same f g (suc n) h =
    ap (λ (m : ℕ). flat_map f (upward m 0)) (sym (add-one n))
    ∙ (flat_more f n ∙ (ap₂ ◌++◌ (flat_same f g n (λ k l. h k (omega arith))) (h n (omega arith))
    ∙ (sym (flat_more g n) ∙ ap (λ (m : ℕ). flat_map g (upward m 0)) (add-one n))))
