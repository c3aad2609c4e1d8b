use mathlib.Core.Path.{◌≡◌}
use mathlib.Core.List.{map}
use Prim.Native.Nat.{◌+◌, ◌*◌}
use lib.ListN.{length}
use Rattle.algebra.specs.Plans.{cut}
use Rattle.reporting.specs.Rows.{rows_from, env_of}
use Rattle.reporting.proofs.Building.{Building, single}
use Rattle.reporting.proofs.select.cut_rows.Given as goal

abbrev pub invariant-loop-i : goal.invariant-loop-i
invariant-loop-i l = Building (single (cut l.list l.ids (env_of l.env))) (map (cut l.list l.ids (env_of l.env)) (rows_from l.own l.m (length l.ids) l.initial.cells)) 1 l.m (length l.ids) (length l.list) l.own l.cells l.i l.i (l.own + l.i * length l.ids) (l.i * length l.list) × (length l.cells ≡ length l.initial.cells)
