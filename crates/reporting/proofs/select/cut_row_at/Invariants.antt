use mathlib.Core.Path.{◌≡◌}
use lib.ListN.{length, take, drop}
use Rattle.reporting.specs.Positions.{picked}
use Rattle.reporting.specs.Written.{Written}
use Rattle.reporting.proofs.select.cut_row_at.Given as goal

abbrev pub invariant-loop-j : goal.invariant-loop-j
invariant-loop-j l = (length l.cells ≡ length l.initial.cells) × Written l.dst l.j (picked (take l.j l.places) (drop l.src l.initial.cells)) l.initial.cells l.cells
