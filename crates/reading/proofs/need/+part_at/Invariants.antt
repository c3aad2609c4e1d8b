use Prim.Native.Nat.{◌-◌}
use Rattle.reading.specs.Plan.{nodes_of}
use Rattle.reading.proofs.need.+part_at.Given as goal

abbrev pub decreases-part_at : goal.decreases-part_at
decreases-part_at l = nodes_of l.plan.now - l.i
