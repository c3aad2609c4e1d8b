use Rattle.prizes.proofs.Amounts.{part_odd, part-even}
use Rattle.prizes.proofs.table.part.Goals as goal

pub returns-then-k-odd : goal.returns-then-k-odd
returns-then-k-odd c = let a = c.args in part_odd a.n a.pool a.k c.requires.0 c.if-k-odd.true

pub returns-else-k-odd : goal.returns-else-k-odd
returns-else-k-odd c = let a = c.args in part-even a.n a.pool a.k c.requires.0 c.if-k-odd.false
