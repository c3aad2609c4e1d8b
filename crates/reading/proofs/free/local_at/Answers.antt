use Rattle.reading.proofs.FlagLaws.{adds-first}
use Rattle.reading.proofs.free.local_at.Goals as goal

pub returns : goal.returns
returns c = c.test_seen.ensures.decides _ (adds-first c.add_columns-columns.ensures)
