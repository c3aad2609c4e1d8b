use mathlib.Core.Path.{◌≡◌}
use lib.ListN.{take}
use Rattle.unnesting.proofs.sequence.common_beginning.Given as goal

abbrev pub invariant-loop-i : goal.invariant-loop-i
invariant-loop-i l = take l.i l.first ≡ take l.i l.second
