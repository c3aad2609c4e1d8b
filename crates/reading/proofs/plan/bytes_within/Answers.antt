use borrow.Author.Count.{below_more}
use borrow.Author.Tests.{le-leb, lt-leb}
use native.Mathlib.Omega.{arith}
use mathlib.Core.Path.{sym}
use Rattle.reading.proofs.Laws.{all-holds, all-fails}
use Rattle.reading.proofs.plan.bytes_within.Goals as goal

pub returns-then-byte_at : goal.returns-then-byte_at
returns-then-byte_at c =
    let l = c.loop-j in
    sym (all-fails _ _ l.j (omega arith) (simp (← c.byte_at-in-loop-j.ensures, ← c.byte_at.ensures) (lt-leb _ _ c.if-byte_at.true)))

pub loop-j-preserved : goal.loop-j-preserved
loop-j-preserved c =
    let l = c.loop-j in
    below_more _ _ l.invariant (simp (← c.byte_at-in-loop-j.ensures, ← c.byte_at.ensures) (le-leb _ _ c.if-byte_at.false))

pub returns : goal.returns
returns c =
    let l = c.loop-j in
    sym (all-holds _ _ (λ k h. l.invariant k (omega arith)))
