use borrow.Author.Count.{below_more}
use borrow.Author.Tests.{le-ltb, eq-eqb, ne_eqb}
use native.Mathlib.Omega.{arith}
use mathlib.Core.Path.{sym}
use mathlib.Core.Bool.{or-true}
use Rattle.reading.proofs.Laws.{all-holds, all-fails}
use Rattle.reading.specs.Plan.{list_ends}
use Rattle.reading.proofs.plan.list_ends.Goals as goal

pub returns-then-byte_at-ne0 : goal.returns-then-byte_at-ne0
unfolding list_ends
returns-then-byte_at-ne0 c =
    let l = c.loop-j in
    sym (all-fails _ _ l.j (omega arith) (rw (le-ltb _ _ l.auto.j, ← c.byte_at.ensures, ne_eqb _ _ c.if-byte_at-ne0.true)))

pub loop-j-preserved : goal.loop-j-preserved
loop-j-preserved c =
    let l = c.loop-j in
    below_more _ _ l.invariant (rw (← c.byte_at.ensures, eq-eqb _ _ c.if-byte_at-ne0.false, or-true))

pub returns : goal.returns
unfolding list_ends
returns c =
    let l = c.loop-j in
    sym (all-holds _ _ (λ k h. l.invariant k (omega arith)))
