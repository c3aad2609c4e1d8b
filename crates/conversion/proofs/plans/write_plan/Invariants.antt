use Prim.Native.Nat.{◌+◌}
use mathlib.Core.Path.{◌≡◌}
use lib.ListN.{length}
use Rattle.algebra.specs.Lists.{flat_map, upward}
use Rattle.conversion.specs.Helpers.{bytes_written, node_in}
use Rattle.conversion.proofs.plans.write_plan.Given as goal

abbrev pub invariant-loop-i : goal.invariant-loop-i
invariant-loop-i l = (l.at ≡ 6 + length (flat_map (node_in l.version l.plan) (upward l.i 0))) × (l.out ≡ bytes_written l.initial.out 6 (flat_map (node_in l.version l.plan) (upward l.i 0)))
