-- How a code is printed, by its sign and its size. Assumes nothing.
use Prim.Native.Nat.{ℕ}
use mathlib.Core.Path.{◌≡◌, sym, ap}
use mathlib.Core.Bool.{true, false, false≢true}
use native.Mathlib.Omega.{arith}
use borrow.Author.Tests.{ltb-true, ne_eqb}
use lib.IntN.{ℤ, pos, negsuc, nat_abs}
use lib.Signed.{lt_z}
use Rattle.listing.specs.Listing.{shown_of}
use Rattle.listing.specs.declared.cell.Shown.TheVariants.{BelowZero, Number}

pub below-zero : (z : ℤ) (n : ℕ) → (z ≡ negsuc 9223372036854775807 → ⊥) → lt_z z (pos 0) ≡ true → n ≡ nat_abs z → BelowZero n ≡ shown_of z
unfolding shown_of
below-zero (pos k) n d h e = absurd (omega (arith, ltb-true k 0 h))
below-zero (negsuc k) n d h e = rw (ne_eqb k 9223372036854775807 (λ q. d (ap negsuc q))) (ap BelowZero e)

pub not-below : (z : ℤ) (n : ℕ) → (z ≡ pos 9223372036854775807 → ⊥) → lt_z z (pos 0) ≡ false → n ≡ nat_abs z → Number n ≡ shown_of z
unfolding shown_of
not-below (pos k) n d h e = rw (ne_eqb k 9223372036854775807 (λ q. d (ap pos q))) (ap Number e)
not-below (negsuc k) n d h e = absurd (false≢true (sym h))
