use Rattle.reading.proofs.FlagLaws.{adds_then}
use Rattle.reading.proofs.free.add_row.Goals as goal

pub returns : goal.returns
returns c = adds_then c.add_test.ensures c.add_measure.ensures
