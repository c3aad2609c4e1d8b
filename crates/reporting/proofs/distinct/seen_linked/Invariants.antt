use mathlib.Core.Path.{◌≡◌}
use Prim.Native.Nat.{suc, ◌≤◌}
use lib.ListN.{length, take, drop}
use Rattle.algebra.specs.Lists.{any, same}
use Rattle.reporting.specs.Rows.{chunk}
use Rattle.reporting.specs.Index.{nth, chain}
use Rattle.reporting.proofs.Chains.{Walk}
use Rattle.reporting.proofs.distinct.seen_linked.Given as goal

abbrev pub invariant-loop-h : goal.invariant-loop-h
invariant-loop-h l = Walk l.k l.next l.h × (any (λ q. same q (take l.w (drop l.src l.cells))) (chunk l.k l.w l.cells) ≡ any (λ i. same (nth (chunk l.k l.w l.cells) i) (take l.w (drop l.src l.cells))) (chain (suc l.k) l.next l.h)) × (l.steps ≤ 8)

abbrev pub decreases-loop-h : goal.decreases-loop-h
decreases-loop-h l = length (chain (suc l.k) l.next l.h)
