use mathlib.Core.List.{[]}
use mathlib.Core.Path.{◌≡◌}
use Prim.Native.Nat.{◌+◌, ◌*◌}
use lib.ListN.{length, drop}
use Rattle.algebra.specs.Lists.{filter}
use Rattle.reporting.specs.Rows.{chunk}
use Rattle.reporting.specs.Sides.{condition_holds}
use Rattle.reporting.proofs.Building.{Building, kept}
use Rattle.reporting.proofs.select.select.Given as goal

abbrev pub invariant-loop-i : goal.invariant-loop-i
invariant-loop-i l = Building (kept (condition_holds l.test [])) (filter (condition_holds l.test []) (chunk l.m (length l.ids) (drop l.own l.initial.cells))) 1 l.m (length l.ids) (length l.ids) l.own l.cells l.i l.out (l.own + l.i * length l.ids) (l.out * length l.ids) × (length l.cells ≡ length l.initial.cells)
