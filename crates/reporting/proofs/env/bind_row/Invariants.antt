use mathlib.Core.Path.{◌≡◌}
use lib.ListN.{length, drop}
use Rattle.algebra.specs.Plans.{bind}
use Rattle.reporting.specs.Rows.{env_of}
use Rattle.reporting.proofs.env.bind_row.Given as goal

abbrev pub invariant-loop-i : goal.invariant-loop-i
invariant-loop-i l = (length l.env ≡ length l.initial.env) × (env_of l.env ≡ bind (drop l.i l.ids) (drop l.i l.row) (env_of l.initial.env))
