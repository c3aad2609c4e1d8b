use Prim.Native.Nat.{◌-◌}
use Rattle.reading.specs.Plan.{nodes_of}
use Rattle.reading.proofs.free.+free_columns.Given as goal

abbrev pub decreases-free_columns : goal.decreases-free_columns
decreases-free_columns l = nodes_of l.plan.now - l.i
