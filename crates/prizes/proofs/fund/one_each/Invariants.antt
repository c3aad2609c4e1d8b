use mathlib.Core.Path.{◌≡◌}
use Rattle.prizes.specs.Payments.{one_each}
use Rattle.prizes.proofs.fund.one_each.Given as goal

abbrev pub invariant-loop-i : goal.invariant-loop-i
invariant-loop-i l = l.pence ≡ one_each l.i l.initial.pence
