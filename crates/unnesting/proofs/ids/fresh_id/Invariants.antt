use Rattle.reading.specs.TableSet.{tables_of}
use Rattle.reading.specs.Nodes.{ids_of}
use Rattle.unnesting.specs.Ids.{Holds}
use Rattle.unnesting.proofs.ids.fresh_id.Given as goal

abbrev pub invariant-loop-i : goal.invariant-loop-i
invariant-loop-i l = Holds l.ids (ids_of (tables_of l.set) l.plan l.i 0)
