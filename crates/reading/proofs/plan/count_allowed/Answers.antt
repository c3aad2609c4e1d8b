use borrow.Author.Tests.{eq-eqb, ne_eqb}
use Rattle.reading.proofs.plan.count_allowed.Goals as goal

pub returns-then-byte_at-ne0 : goal.returns-then-byte_at-ne0
returns-then-byte_at-ne0 c = simp (← c.byte_at.ensures, ne_eqb _ _ c.if-byte_at-ne0.true)

pub returns : goal.returns
returns c = simp (← c.byte_at-2.ensures, ← c.byte_at.ensures, eq-eqb _ _ c.if-byte_at-ne0.false)
