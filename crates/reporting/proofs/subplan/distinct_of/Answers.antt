use Rattle.reading.specs.Tree.{operator_by}
use Rattle.reporting.proofs.subplan.distinct_of.Goals as goal

pub returns : goal.returns
unfolding operator_by
returns c = rw c.one.ensures
