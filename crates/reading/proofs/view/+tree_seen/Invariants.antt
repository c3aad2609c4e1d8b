use Prim.Native.Nat.{◌-◌}
use Rattle.reading.specs.Plan.{nodes_of}
use Rattle.reading.proofs.view.+tree_seen.Given as goal

abbrev pub decreases-tree_seen : goal.decreases-tree_seen
decreases-tree_seen l = nodes_of l.plan.now - l.i
