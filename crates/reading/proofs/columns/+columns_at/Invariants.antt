use Prim.Native.Nat.{◌-◌}
use Rattle.reading.specs.Plan.{nodes_of}
use Rattle.reading.proofs.columns.+columns_at.Given as goal

abbrev pub decreases-columns_at : goal.decreases-columns_at
decreases-columns_at l = nodes_of l.plan.now - l.i
