use borrow.Author.Tests.{eq-eqb, ne_eqb}
use Rattle.reading.specs.Plan.{test_of}
use Rattle.reading.proofs.plan.test_of.Goals as goal

pub returns-then-form-eq0 : goal.returns-then-form-eq0
unfolding test_of
returns-then-form-eq0 c = simp (eq-eqb _ _ c.if-form-eq0.true)

pub returns-then-form-eq1 : goal.returns-then-form-eq1
unfolding test_of
returns-then-form-eq1 c = simp (ne_eqb _ _ c.if-form-eq0.false, eq-eqb _ _ c.if-form-eq1.true, c.from-comparison.ensures)

pub returns : goal.returns
unfolding test_of
returns c =
    simp (ne_eqb _ _ c.if-form-eq0.false, ne_eqb _ _ c.if-form-eq1.false, ← c.test_number.ensures, c.from-comparison.ensures)
