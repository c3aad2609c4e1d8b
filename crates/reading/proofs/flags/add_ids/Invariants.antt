use Prim.Native.Nat.{ℕ}
use mathlib.Core.Path.{◌≡◌}
use mathlib.Core.List.{List, ◌++◌}
use lib.ListN.{length}
use Rattle.algebra.specs.Lists.{upward}
use Rattle.reading.specs.Flags.{Flags}
use Rattle.reading.proofs.flags.add_ids.Given as goal

abbrev pub invariant-loop-k : goal.invariant-loop-k
invariant-loop-k l = (length l.marks ≡ 256) × ((ids : List ℕ) → Flags l.initial.marks ids → Flags l.marks (upward l.k l.first ++ ids))
