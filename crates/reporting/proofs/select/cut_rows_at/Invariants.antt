use mathlib.Core.Path.{◌≡◌}
use mathlib.Core.List.{map}
use Prim.Native.Nat.{◌+◌, ◌*◌}
use lib.ListN.{length}
use Rattle.reporting.specs.Positions.{picked}
use Rattle.reporting.specs.Rows.{rows_from}
use Rattle.reporting.proofs.Building.{Building, single}
use Rattle.reporting.proofs.select.cut_rows_at.Given as goal

abbrev pub invariant-loop-i : goal.invariant-loop-i
invariant-loop-i l = Building (single (picked l.places)) (map (picked l.places) (rows_from l.own l.m l.w l.initial.cells)) 1 l.m l.w (length l.places) l.own l.cells l.i l.i (l.own + l.i * l.w) (l.i * length l.places) × (length l.cells ≡ length l.initial.cells)
