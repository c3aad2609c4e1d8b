use lib.ListN.{length, get_or}
use Rattle.reporting.proofs.Groups.{Grouping, GivenKeys}
use Rattle.reporting.proofs.group.group_linked.Given as goal

abbrev pub invariant-loop-i : goal.invariant-loop-i
invariant-loop-i l = Grouping l.found (λ q. get_or q l.index.keys.right 0) l.rows.count (length l.rows.columns.now) l.rows.at l.initial.cells l.cells l.i l.out l.src l.dst × GivenKeys (λ q. get_or q l.index.keys.right 0) (length l.rows.columns.now) l.rows.at l.initial.cells l.cells l.i l.out
