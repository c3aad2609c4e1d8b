use mathlib.Core.Path.{◌≡◌}
use mathlib.Core.List.{map}
use lib.ListN.{length, take}
use Rattle.algebra.specs.Lists.{upward}
use Rattle.reading.specs.TableSet.{cell_at}
use Rattle.reporting.proofs.leaf.cells_in.Given as goal

abbrev pub invariant-loop-i : goal.invariant-loop-i
invariant-loop-i l = (length l.cells ≡ length l.initial.cells) × (take l.i l.cells ≡ map (cell_at l.version l.from) (upward l.i 0))
