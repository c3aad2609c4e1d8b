use Prim.Native.Nat.{◌-◌}
use Rattle.reading.specs.Plan.{nodes_of}
use Rattle.reading.proofs.tree.+tree_end.Given as goal

abbrev pub decreases-tree_end : goal.decreases-tree_end
decreases-tree_end l = nodes_of l.plan.now - l.i
