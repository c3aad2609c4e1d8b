use Prim.Native.Nat.{suc}
use lib.ListN.{length, drop}
use Rattle.reporting.specs.Index.{chain}
use Rattle.reporting.specs.Rows.{rows_from}
use Rattle.reporting.proofs.Chains.{Walk}
use Rattle.reporting.proofs.Meets.{on_chain}
use Rattle.reporting.proofs.Tallies.{Tallying}
use Rattle.reporting.proofs.gather.gather_linked.Given as goal

abbrev pub invariant-loop-h : goal.invariant-loop-h
invariant-loop-h l = Walk l.right.count l.index.next.now l.h × Tallying l.found (drop l.src l.cells) (rows_from l.right.at l.right.count (length l.right.columns.now) l.cells) (on_chain l.right.count (rows_from l.right.at l.right.count (length l.right.columns.now) l.cells) l.index.next.now l.h) l.tally

abbrev pub decreases-loop-h : goal.decreases-loop-h
decreases-loop-h l = length (chain (suc l.right.count) l.index.next.now l.h)
