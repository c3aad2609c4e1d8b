use borrow.Author.Count.{below_more}
use native.Mathlib.Omega.{arith}
use mathlib.Core.Path.{sym}
use Rattle.reading.proofs.Laws.{all-holds, all-fails}
use Rattle.reading.proofs.TreeNumbers.{capped_over, capped_within}
use Rattle.reading.proofs.bound.bounds_low.Goals as goal

pub returns-then-bound_at-gt4096 : goal.returns-then-bound_at-gt4096
returns-then-bound_at-gt4096 c = sym (all-fails _ _ c.loop-i.i (omega arith) (capped_over _ _ 4096 c.bound_at.ensures c.if-bound_at-gt4096.true))

pub loop-i-preserved : goal.loop-i-preserved
loop-i-preserved c =
    below_more _ _ c.loop-i.invariant (capped_within _ _ 4096 c.bound_at.ensures c.if-bound_at-gt4096.false)

pub returns : goal.returns
returns c = sym (all-holds _ _ (λ k h. c.loop-i.invariant k (omega arith)))
