use mathlib.Core.Path.{◌≡◌}
use mathlib.Core.List.{◌++◌}
use Prim.Native.Nat.{◌≤◌}
use lib.ListN.{length, drop, take}
use Rattle.reporting.specs.Positions.{positions}
use Rattle.reporting.proofs.places.positions_of.Given as goal

abbrev pub invariant-loop-id : goal.invariant-loop-id
invariant-loop-id l = (l.n ≤ l.id-index) × (length l.places ≡ length l.initial.places) × (positions l.list l.ids ≡ take l.n l.places ++ positions (drop l.id-index l.list) l.ids)
