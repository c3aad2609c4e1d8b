use mathlib.Core.Path.{◌≡◌}
use lib.ListN.{length, take, drop}
use Rattle.algebra.specs.Plans.{cut}
use Rattle.reporting.specs.Rows.{env_of}
use Rattle.reporting.specs.Written.{Written}
use Rattle.reporting.proofs.select.cut_row.Given as goal

abbrev pub invariant-loop-j : goal.invariant-loop-j
invariant-loop-j l = (length l.cells ≡ length l.initial.cells) × Written l.dst l.j (cut (take l.j l.list) l.ids (env_of l.env) (take (length l.ids) (drop l.src l.initial.cells))) l.initial.cells l.cells
