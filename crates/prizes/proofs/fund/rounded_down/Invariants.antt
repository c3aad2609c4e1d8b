use mathlib.Core.Path.{◌≡◌}
use mathlib.Core.List.{◌++◌, map}
use lib.ListN.{take, drop}
use Rattle.prizes.specs.Payments.{share_of}
use Rattle.prizes.proofs.fund.rounded_down.Given as goal

abbrev pub invariant-loop-i : goal.invariant-loop-i
invariant-loop-i l = l.pence ≡ map (share_of l.purse) (take l.i l.shares) ++ drop l.i l.initial.pence
