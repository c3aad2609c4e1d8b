use Prim.Native.Nat.{ℕ, ◌<◌}
use mathlib.Core.Path.{◌≡◌}
use mathlib.Core.Bool.{true}
use Rattle.reading.specs.Plan.{node_at}
use Rattle.conversion.specs.Helpers.{test_fits}
use Rattle.conversion.proofs.plans.plan_fits.Given as goal

abbrev pub invariant-loop-i : goal.invariant-loop-i
invariant-loop-i l = (k : ℕ) → k < l.i → test_fits l.version (node_at l.plan k).test ≡ true
