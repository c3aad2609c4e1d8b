use borrow.Author.Tests.{le-leb, lt-leb}
use Rattle.reading.proofs.plan.list_allowed.Goals as goal

pub returns-then-listed-has : goal.returns-then-listed-has
returns-then-listed-has c = simp (← c.byte_at-listed.ensures, lt-leb _ _ c.if-listed-has.true)

pub returns-then-has-listed : goal.returns-then-has-listed
returns-then-has-listed c =
    simp (← c.byte_at-listed.ensures, le-leb _ _ c.if-listed-has.false, lt-leb _ _ c.if-has-listed.true)

pub returns : goal.returns
returns c =
    simp (← c.byte_at-listed.ensures, le-leb _ _ c.if-listed-has.false, le-leb _ _ c.if-has-listed.false) c.list_ends.ensures
