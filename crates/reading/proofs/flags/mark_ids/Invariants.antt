use Prim.Native.Nat.{ℕ}
use mathlib.Core.Path.{◌≡◌}
use mathlib.Core.Bool.{true}
use mathlib.Core.List.{List, ◌++◌}
use lib.ListN.{length}
use Rattle.algebra.specs.Lists.{upward}
use Rattle.algebra.specs.Refusals.{once}
use Rattle.reading.specs.Flags.{Flags}
use Rattle.reading.proofs.flags.mark_ids.Given as goal

abbrev pub invariant-loop-k : goal.invariant-loop-k
invariant-loop-k l = (length l.marks ≡ 256) × ((ids : List ℕ) → Flags l.initial.marks ids → once ids ≡ true → (once (ids ++ upward l.k l.first) ≡ true) × Flags l.marks (ids ++ upward l.k l.first))
