use mathlib.Core.Path.{◌≡◌}
use Prim.Native.Nat.{◌≤◌}
use lib.ListN.{length}
use Rattle.unnesting.proofs.FollowLaws.{Following}
use Rattle.unnesting.proofs.follow.follow.Given as goal

abbrev pub invariant-loop-pair : goal.invariant-loop-pair
invariant-loop-pair l = (length l.current ≡ length l.initial.current) × (length l.next ≡ length l.initial.next) × (length l.scratch ≡ length l.initial.scratch) × (l.needed ≤ length l.initial.scratch) × Following l.input.set.now l.input.plan.now l.steps (length l.initial.scratch) l.current l.bytes l.needed l.pair-index
