use Prim.Native.Nat.{ℕ, ◌+◌, ◌<◌}
use mathlib.Core.Path.{◌≡◌}
use mathlib.Core.Bool.{true, ◌||◌}
use lib.Dec.{ltb, eqb}
use Rattle.reading.specs.Bytes.{byte_at}
use Rattle.reading.proofs.plan.list_ends.Given as goal

abbrev pub invariant-loop-j : goal.invariant-loop-j
invariant-loop-j l =
    (k : ℕ) → k < l.j → (ltb k l.listed || eqb (byte_at l.node (9 + k)) 0) ≡ true
