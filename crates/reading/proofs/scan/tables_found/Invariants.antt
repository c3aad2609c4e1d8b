use Prim.Native.Nat.{ℕ, ◌<◌}
use mathlib.Core.Path.{◌≡◌}
use mathlib.Core.Bool.{true}
use Rattle.algebra.specs.Plans.{Tables}
use Rattle.algebra.specs.Refusals.{found}
use Rattle.reading.specs.Tree.{operator_at}
use Rattle.reading.proofs.scan.tables_found.Given as goal

abbrev pub invariant-loop-i : goal.invariant-loop-i
invariant-loop-i l = (T : Tables) → T.amount ≡ l.tables → (k : ℕ) → k < l.i → found T (operator_at l.plan k) ≡ true
