use mathlib.Core.Path.{◌≡◌}
use lib.ListN.{drop}
use Rattle.algebra.specs.Plans.{bind}
use Rattle.reporting.specs.Rows.{env_of}
use Rattle.reporting.proofs.env.column.Given as goal

abbrev pub invariant-loop-i : goal.invariant-loop-i
invariant-loop-i l = bind l.ids l.row (env_of l.env) l.id ≡ bind (drop l.i l.ids) (drop l.i l.row) (env_of l.env) l.id
