use mathlib.Core.Path.{◌≡◌}
use Prim.Native.Nat.{◌*◌}
use Rattle.unnesting.proofs.CheckStepsLaws.{rules_from}
use Rattle.unnesting.proofs.check_steps.check_list.Given as goal

abbrev pub invariant-loop-pair : goal.invariant-loop-pair
invariant-loop-pair l = rules_from l.steps 0 ≡ rules_from l.steps (2 * l.pair-index)
