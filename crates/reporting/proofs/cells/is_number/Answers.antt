use borrow.Author.Tests.{ne_eqb}
use Rattle.reporting.proofs.cells.is_number.Goals as goal

pub returns-then-x-eq0 : goal.returns-then-x-eq0
returns-then-x-eq0 c = rw c.if-x-eq0.true

pub returns : goal.returns
returns c = rw (ne_eqb c.args.x 0 c.if-x-eq0.false)
