use mathlib.Core.List.{[]}
use lib.ListN.{length}
use Rattle.reporting.specs.Sides.{side_cell}
use Rattle.reporting.proofs.Groups.{Grouping}
use Rattle.reporting.proofs.group.group_all.Given as goal

abbrev pub invariant-loop : goal.invariant-loop
invariant-loop l = Grouping l.found (side_cell l.side []) l.rows.count (length l.rows.columns.now) l.rows.at l.initial.cells l.cells l.counter l.out l.src l.dst
