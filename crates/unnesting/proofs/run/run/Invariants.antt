use mathlib.Core.Path.{◌≡◌}
use Prim.Native.Nat.{◌-◌}
use lib.ListN.{length}
use Rattle.unnesting.proofs.RunLaws.{Running}
use Rattle.unnesting.proofs.run.run.Given as goal

abbrev pub invariant-loop-needed : goal.invariant-loop-needed
invariant-loop-needed l = (length l.current ≡ length l.initial.current) × (length l.next ≡ length l.initial.next) × (length l.steps ≡ length l.initial.steps) × (length l.scratch ≡ length l.initial.scratch) × Running l.input.set.now l.input.plan.now (length l.initial.scratch) l.current l.steps l.bytes l.needed l.count

abbrev pub decreases-loop-needed : goal.decreases-loop-needed
decreases-loop-needed l = 192 - l.count
