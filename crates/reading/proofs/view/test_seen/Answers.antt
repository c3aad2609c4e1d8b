use Rattle.reading.proofs.FlagLaws.{sees_none, sees_one, sees_absent, sees_more}
use Rattle.reading.proofs.view.test_seen.Goals as goal

pub returns-then-not-flagged : goal.returns-then-not-flagged
returns-then-not-flagged c = rw c.in-Columns.is (sees_absent c.flagged.ensures (c.if-not-flagged.true) _)

pub returns-in-Always : goal.returns-in-Always
returns-in-Always c = rw c.in-Always.is (sees_none _)

pub returns-else-not-flagged : goal.returns-else-not-flagged
returns-else-not-flagged c = rw c.in-Columns.is (sees_more c.flagged.ensures (c.if-not-flagged.false) (sees_one c.flagged-in-Columns.ensures))

pub returns-in-Number : goal.returns-in-Number
returns-in-Number c = rw c.in-Number.is (sees_one c.flagged-in-Number.ensures)
