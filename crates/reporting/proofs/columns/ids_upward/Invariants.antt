use mathlib.Core.Path.{◌≡◌}
use lib.ListN.{length, take}
use Rattle.algebra.specs.Lists.{upward}
use Rattle.reporting.proofs.columns.ids_upward.Given as goal

abbrev pub invariant-loop-k : goal.invariant-loop-k
invariant-loop-k l = (length l.ids ≡ length l.initial.ids) × (take l.k l.ids ≡ upward l.k l.first)
