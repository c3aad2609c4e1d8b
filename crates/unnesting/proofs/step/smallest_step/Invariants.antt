use mathlib.Core.Path.{◌≡◌}
use Prim.Native.Nat.{ℕ, ◌<◌}
use lib.ListN.{length}
use Rattle.algebra.specs.Demand3.{Still}
use Rattle.reading.specs.TableSet.{tables_of}
use Rattle.reading.specs.Tree.{plan_of}
use Rattle.unnesting.proofs.step.smallest_step.Given as goal

abbrev pub invariant-loop-i : goal.invariant-loop-i
invariant-loop-i l = (length l.out ≡ length l.initial.out) × (length l.scratch ≡ length l.initial.scratch) × ((j : ℕ) → j < l.i → Still (tables_of l.input.set.now) (plan_of l.input.plan.now) j)
