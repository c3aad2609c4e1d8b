use borrow.Author.Tests.{le-leb, lt-leb}
use Rattle.reading.proofs.set.size_allowed.Goals as goal

pub returns-then-columns-lt1 : goal.returns-then-columns-lt1
returns-then-columns-lt1 c = simp (← c.columns_of-columns.ensures.value, lt-leb _ _ c.if-columns-lt1.true)

pub returns-then-columns-gt16 : goal.returns-then-columns-gt16
returns-then-columns-gt16 c =
    simp (← c.columns_of-columns.ensures.value, le-leb _ _ c.if-columns-lt1.false, lt-leb _ _ c.if-columns-gt16.true)

pub returns : goal.returns
returns c =
    simp (← c.rows_of.ensures.value, ← c.columns_of-columns.ensures.value, le-leb _ _ c.if-columns-lt1.false, le-leb _ _ c.if-columns-gt16.false)
