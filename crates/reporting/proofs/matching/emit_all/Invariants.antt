use Rattle.reporting.specs.Asked.{LookupFor}
use Rattle.reporting.proofs.Emitting.{Emitting}
use Rattle.reporting.proofs.matching.emit_all.Given as goal

abbrev pub invariant-loop : goal.invariant-loop
invariant-loop l = Emitting l.asked.node l.asked.found l.asked.ids.now l.asked.right.columns.now l.own l.m l.asked.right.at l.asked.right.count l.initial.cells l.cells l.counter l.out l.src l.dst × LookupFor l.lookup l.asked l.initial.cells l.known
