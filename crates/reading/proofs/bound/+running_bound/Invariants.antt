use Prim.Native.Nat.{◌-◌}
use Rattle.reading.specs.Plan.{nodes_of}
use Rattle.reading.proofs.bound.+running_bound.Given as goal

abbrev pub decreases-running_bound : goal.decreases-running_bound
decreases-running_bound l = nodes_of l.plan.now - l.i
