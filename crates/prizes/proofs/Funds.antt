-- What a purse and shares that are not refused 17 are. Assumes nothing.
use Rattle.std.specs.Prelude.{if◌then◌else◌}
use Prim.Native.Nat.{ℕ, suc, ◌≤◌}
use native.Mathlib.Omega.{arith}
use borrow.Author.Tests.{leb-true, eqb-true}
use mathlib.Core.Bool.{Bool, true, false, ◌&&◌, and-eq-true_iff}
use mathlib.Core.Path.{◌≡◌, refl}
use mathlib.Core.List.{List}
use lib.Dec.{eqb, leb}
use lib.ListN.{length}
use Rattle.algebra.specs.Lists.{total}
use Rattle.prizes.specs.Prize.{valid_fund, fund_number}

-- a test that does not turn back holds
test-holds : (b : Bool) (n : ℕ) → (if b then 0 else suc n) ≡ 0 → b ≡ true
test-holds true n e = refl
test-holds false n e = absurd (omega arith)

-- the last of some tests, and those before it
both : (a b : Bool) → (a && b) ≡ true → (a ≡ true) × (b ≡ true)
both a b e = (and-eq-true_iff a b).0 e

module _ (purse : ℕ) (shares : List ℕ) (accepted : fund_number purse shares ≡ 0) where
  valid : valid_fund purse shares ≡ true
  unfolding fund_number
  valid = test-holds (valid_fund purse shares) 16 accepted

  sized : ((leb purse 100000000 && leb 1 (length shares)) ≡ true) × (leb (length shares) 20 ≡ true)
  sized = both _ _ (both _ (eqb (total shares) 10000) valid).0

  pub valid_sum : total shares ≡ 10000
  valid_sum = eqb-true (total shares) 10000 (both (leb purse 100000000 && leb 1 (length shares) && leb (length shares) 20) _ valid).1

  pub valid_purse : purse ≤ 100000000
  valid_purse = leb-true purse 100000000 (both (leb purse 100000000) _ sized.0).0
