use mathlib.Core.Path.{◌≡◌}
use mathlib.Core.Bool.{true}
use lib.ListN.{length}
use Rattle.algebra.specs.Refusals.{once}
use Rattle.reading.specs.TableSet.{tables_of}
use Rattle.reading.specs.Flags.{Flags}
use Rattle.reading.specs.Nodes.{ids_of}
use Rattle.reading.proofs.ids.ids_once.Given as goal

abbrev pub invariant-loop-i : goal.invariant-loop-i
invariant-loop-i l = (length l.flags ≡ 256) × (once (ids_of (tables_of l.set) l.plan l.i 0) ≡ true) × Flags l.flags (ids_of (tables_of l.set) l.plan l.i 0)
