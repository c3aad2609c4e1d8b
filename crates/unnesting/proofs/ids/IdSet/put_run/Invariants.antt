use Rattle.algebra.specs.Lists.{upward}
use Rattle.unnesting.specs.Ids.{Holding}
use Rattle.unnesting.proofs.ids.IdSet.put_run.Given as goal

abbrev pub invariant-loop-k : goal.invariant-loop-k
invariant-loop-k l = Holding l.initial.self (upward l.k l.first) l.self
