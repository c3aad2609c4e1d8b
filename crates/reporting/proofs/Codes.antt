-- A cell's code fits 64 bits, the next code is written, and the next cell is cleared. Assumes nothing.
use Prim.Native.Nat.{ℕ, zero, suc, ◌+◌, ◌-◌, ◌%◌, ◌≤◌, ◌<◌}
use mathlib.Core.Path.{◌≡◌, refl, ap, ◌∙◌}
use mathlib.Core.List.{List, [], ◌∷◌, ◌++◌, map}
use mathlib.Core.Bool.{Bool, true, false, cond}
use native.Mathlib.Omega.{arith}
use native.Mathlib.Numerals.{add-one}
use borrow.Author.Tests.{ltb-true, ltb-false}
use lib.Dec.{ltb}
use lib.IntN.{ℤ, pos, negsuc}
use lib.Signed.{mag}
use lib.ListN.{length, take, drop, get_or, set}
use mir.Syntax.{w64}
use mir.Val.{SFits, to_z, of_z}
use mir.Facts.{to_z_pos, to_z-neg, to_z-of_z}
use Rattle.reporting.specs.Report.{code_of}

-- how far from zero a difference lies, by the test that it computes
far : (b : Bool) (w : ℕ) → w < 18446744073709551616 → (b ≡ true → w < 9223372036854775808) → (b ≡ false → 9223372036854775808 < w + 1)
    → mag (cond b (negsuc (9223372036854775808 - suc w)) (pos (w - 9223372036854775808))) < 9223372036854775808
far true w h y n = omega (arith, y refl)
far false w h y n = omega (arith, n refl)

code_fits : (w : ℕ) → w < 18446744073709551616 → SFits w64 (code_of w)
unfolding code_of
code_fits w h = record { sfits = far (ltb w 9223372036854775808) w h (ltb-true _ _) (λ e. omega (arith, ltb-false w 9223372036854775808 e)) }

-- what stands for `cell - 2^63` modulo 2^64 is the code
pub code-moved : (w : ℕ) → w < 18446744073709551616 → to_z w64 ((w + 9223372036854775808) % 18446744073709551616) ≡ code_of w
unfolding code_of
code-moved w h =
    (elim (ltb w 9223372036854775808) as (λ b. ltb w 9223372036854775808 ≡ b → to_z w64 ((w + 9223372036854775808) % 18446744073709551616) ≡ cond b (negsuc (9223372036854775808 - suc w)) (pos (w - 9223372036854775808))) [
      | true ↦ λ e.
          let l : w < 9223372036854775808 = ltb-true _ _ e in
          let n : (w + 9223372036854775808) % 18446744073709551616 ≡ 18446744073709551616 - suc (9223372036854775808 - suc w) = omega arith in
          ap (to_z w64) n ∙ to_z-neg w64 (9223372036854775808 - suc w) (omega arith)
      | false ↦ λ e.
          let l : 9223372036854775808 ≤ w = omega (arith, ltb-false _ _ e) in
          let n : (w + 9223372036854775808) % 18446744073709551616 ≡ w - 9223372036854775808 = omega arith in
          ap (to_z w64) n ∙ to_z_pos w64 {n = w - 9223372036854775808} (omega arith)
    ]) refl

-- the first i values are written, and the next one now
next : {A : Type 0} (f : ℕ → A) (xs : List ℕ) (ys : List A) (i : ℕ) → i < length xs → i < length ys
    → set (map f (take i xs) ++ drop i ys) i (f (get_or xs i 0)) ≡ map f (take (suc i) xs) ++ drop (suc i) ys
next f [] ys i h k = absurd (omega arith)
next f (x ∷ xs) [] i h k = absurd (omega arith)
next f (x ∷ xs) (y ∷ ys) zero h k = refl
next f (x ∷ xs) (y ∷ ys) (suc i) h k = ap (λ zs. f x ∷ zs) (next f xs ys i (omega arith) (omega arith))

pub written_next : {A : Type 0} (f : ℕ → A) (xs : List ℕ) (ys : List A) (i : ℕ) → i < length xs → i < length ys
    → set (map f (take i xs) ++ drop i ys) i (f (get_or xs i 0)) ≡ map f (take (i + 1) xs) ++ drop (i + 1) ys
written_next f xs ys i h k = rw add-one (next f xs ys i h k)

-- a code that is stored in an `i64` is read back as it is
pub stored : {z : ℤ} (w : ℕ) → w < 18446744073709551616 → z ≡ code_of w → to_z w64 (of_z w64 z) ≡ code_of w
stored w h e = ap (λ (x : ℤ). to_z w64 (of_z w64 x)) e ∙ to_z-of_z (code_fits w h)
