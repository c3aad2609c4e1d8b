use mathlib.Core.Path.{◌≡◌}
use Prim.Native.Nat.{suc}
use lib.Dec.{eqb}
use lib.ListN.{length, get_or, drop}
use Rattle.reporting.specs.Rows.{chunk}
use Rattle.reporting.specs.Index.{before, chain}
use Rattle.reporting.proofs.Chains.{Walk}
use Rattle.reporting.proofs.Earliest.{earliest, key_at}
use Rattle.reporting.proofs.index.first_linked.Given as goal

abbrev pub invariant-loop-h : goal.invariant-loop-h
invariant-loop-h l = Walk l.rows.count l.index.next.now l.h × (before (λ q. eqb (get_or q l.index.keys.right 0) l.key) (chunk l.rows.count (length l.rows.columns.now) (drop l.rows.at l.cells)) ≡ earliest (key_at l.index.keys.right l.key (chunk l.rows.count (length l.rows.columns.now) (drop l.rows.at l.cells))) l.rows.count (chain (suc l.rows.count) l.index.next.now l.h))

abbrev pub decreases-loop-h : goal.decreases-loop-h
decreases-loop-h l = length (chain (suc l.rows.count) l.index.next.now l.h)
