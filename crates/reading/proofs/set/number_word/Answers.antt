use borrow.Author.Tests.{le-leb, lt-leb}
use Rattle.reading.proofs.set.number_word.Goals as goal

pub returns-then-w-lt9214372036854775808 : goal.returns-then-w-lt9214372036854775808
returns-then-w-lt9214372036854775808 c = simp (lt-leb _ _ c.if-w-lt9214372036854775808.true)

pub returns : goal.returns
returns c = simp (le-leb _ _ c.if-w-lt9214372036854775808.false)
