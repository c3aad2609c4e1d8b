use Prim.Native.Nat.{◌-◌}
use Rattle.reading.specs.Plan.{nodes_of}
use Rattle.reporting.proofs.columns.+columns_into.Given as goal

abbrev pub decreases-columns_into : goal.decreases-columns_into
decreases-columns_into l = nodes_of l.plan.now - l.i
