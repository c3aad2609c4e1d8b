use native.Mathlib.Omega.{arith}
use native.Mathlib.Nat.{mul-zero}
use Rattle.reading.proofs.BoundLaws.{product_test}
use Rattle.reading.proofs.bound.product_low.Goals as goal

pub returns-then-second-eq0 : goal.returns-then-second-eq0
returns-then-second-eq0 c = rw (c.if-second-eq0.true, mul-zero)

pub returns : goal.returns
returns c = product_test _ c.args.second _ (omega arith)
