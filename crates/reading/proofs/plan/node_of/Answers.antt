use Rattle.reading.specs.Plan.{node_of}
use Rattle.reading.proofs.plan.node_of.Goals as goal

pub returns : goal.returns
unfolding node_of
returns c = rw (← c.test_of-test.ensures, c.from-kind.ensures, c.from-comparison.ensures)
