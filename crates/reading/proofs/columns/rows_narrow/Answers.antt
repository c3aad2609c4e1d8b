use borrow.Author.Count.{below_more}
use native.Mathlib.Omega.{arith}
use mathlib.Core.Path.{sym}
use Rattle.reading.proofs.Laws.{all-holds, all-fails}
use Rattle.reading.proofs.TreeNumbers.{capped_over, capped_within}
use Rattle.reading.proofs.columns.rows_narrow.Goals as goal

pub returns-then-columns_at-gt32 : goal.returns-then-columns_at-gt32
returns-then-columns_at-gt32 c = sym (all-fails _ _ c.loop-i.i (omega arith) (capped_over _ _ 32 c.columns_at.ensures c.if-columns_at-gt32.true))

pub loop-i-preserved : goal.loop-i-preserved
loop-i-preserved c =
    below_more _ _ c.loop-i.invariant (capped_within _ _ 32 c.columns_at.ensures c.if-columns_at-gt32.false)

pub returns : goal.returns
returns c = sym (all-holds _ _ (λ k h. c.loop-i.invariant k (omega arith)))
