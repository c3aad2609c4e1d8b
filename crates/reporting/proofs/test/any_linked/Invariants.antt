use mathlib.Core.Path.{◌≡◌}
use Prim.Native.Nat.{suc}
use lib.ListN.{length, drop}
use Rattle.algebra.specs.Lists.{any}
use Rattle.reporting.specs.Index.{chain}
use Rattle.reporting.specs.Rows.{rows_from}
use Rattle.reporting.specs.Sides.{meets}
use Rattle.reporting.proofs.Chains.{Walk}
use Rattle.reporting.proofs.Meets.{on_chain}
use Rattle.reporting.proofs.test.any_linked.Given as goal

abbrev pub invariant-loop-h : goal.invariant-loop-h
invariant-loop-h l = Walk l.right.count l.index.next.now l.h × (any (meets l.found (drop l.src l.cells)) (rows_from l.right.at l.right.count (length l.right.columns.now) l.cells) ≡ any (meets l.found (drop l.src l.cells)) (on_chain l.right.count (rows_from l.right.at l.right.count (length l.right.columns.now) l.cells) l.index.next.now l.h))

abbrev pub decreases-loop-h : goal.decreases-loop-h
decreases-loop-h l = length (chain (suc l.right.count) l.index.next.now l.h)
