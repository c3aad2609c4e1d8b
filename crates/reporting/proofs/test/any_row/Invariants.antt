use mathlib.Core.Path.{◌≡◌}
use Prim.Native.Nat.{◌+◌, ◌*◌, ◌-◌}
use lib.ListN.{length, drop}
use Rattle.algebra.specs.Lists.{any}
use Rattle.reporting.specs.Rows.{rows_from}
use Rattle.reporting.specs.Sides.{meets}
use Rattle.reporting.proofs.test.any_row.Given as goal

abbrev pub invariant-loop : goal.invariant-loop
invariant-loop l = (l.at ≡ l.right.at + l.counter * (length l.right.columns.now)) × (any (meets l.found (drop l.src l.cells)) (rows_from l.right.at l.right.count (length l.right.columns.now) l.cells) ≡ any (meets l.found (drop l.src l.cells)) (rows_from l.at (l.right.count - l.counter) (length l.right.columns.now) l.cells))
