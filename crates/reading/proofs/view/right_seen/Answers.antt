use Rattle.reading.proofs.FlagLaws.{sees_absent, sees_more}
use Rattle.reading.proofs.view.right_seen.Goals as goal

pub returns-then-not-flagged : goal.returns-then-not-flagged
returns-then-not-flagged c = sees_absent c.flagged.ensures (c.if-not-flagged.true) _

pub returns : goal.returns
returns c = sees_more c.flagged.ensures (c.if-not-flagged.false) c.measure_seen.ensures
