use Prim.Native.Nat.{ℕ, ◌<◌}
use mathlib.Core.Path.{◌≡◌}
use mathlib.Core.Bool.{true}
use lib.Dec.{leb}
use Rattle.reading.specs.Bytes.{byte_at}
use Rattle.reading.proofs.plan.bytes_within.Given as goal

abbrev pub invariant-loop-j : goal.invariant-loop-j
invariant-loop-j l = (k : ℕ) → k < l.j → leb (byte_at l.bytes k) (byte_at l.limits k) ≡ true
