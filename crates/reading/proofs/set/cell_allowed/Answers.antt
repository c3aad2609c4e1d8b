use borrow.Author.Tests.{eq-eqb, ne_eqb}
use Rattle.reading.proofs.set.cell_allowed.Goals as goal

pub returns-then-w-eq0 : goal.returns-then-w-eq0
returns-then-w-eq0 c = simp (eq-eqb _ _ c.if-w-eq0.true)

pub returns-then-w-eq18446744073709551615 : goal.returns-then-w-eq18446744073709551615
returns-then-w-eq18446744073709551615 c = simp (ne_eqb _ _ c.if-w-eq0.false, eq-eqb _ _ c.if-w-eq18446744073709551615.true)

pub returns : goal.returns
returns c = simp (ne_eqb _ _ c.if-w-eq0.false, ne_eqb _ _ c.if-w-eq18446744073709551615.false) c.number_as.ensures
