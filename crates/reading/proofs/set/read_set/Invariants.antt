use Prim.Native.Nat.{◌-◌, ◌≤◌}
use mathlib.Core.Path.{◌≡◌}
use lib.ListN.{length, drop}
use Rattle.reading.specs.TableSet.{read_from, read_set_as}
use Rattle.reading.proofs.set.read_set.Given as goal

abbrev pub invariant-loop-at : goal.invariant-loop-at
invariant-loop-at l =
    (l.at ≤ length l.set) × (l.found ≤ 8) × (read_set_as l.version l.set ≡ read_from l.version (8 - l.found) l.found (drop l.at l.set))

abbrev pub decreases-loop-at : goal.decreases-loop-at
decreases-loop-at l = 8 - l.found
