use Rattle.unnesting.proofs.BitLaws.{Searched}
use Rattle.unnesting.proofs.ids.IdSet.smallest_free.Given as goal

abbrev pub invariant-loop-i : goal.invariant-loop-i
invariant-loop-i l = Searched l.self l.i
