use mathlib.Core.Path.{◌≡◌}
use Prim.Native.Nat.{◌<◌}
use lib.ListN.{drop}
use Rattle.reporting.specs.Index.{mixed}
use Rattle.reporting.proofs.index.hash_row.Given as goal

abbrev pub invariant-loop-cell : goal.invariant-loop-cell
invariant-loop-cell l = (mixed 0 l.row ≡ mixed l.h (drop l.cell-index l.row)) × (l.h < 4294967296)
