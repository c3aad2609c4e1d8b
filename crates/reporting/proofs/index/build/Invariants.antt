use mathlib.Core.Path.{◌≡◌}
use Prim.Native.Nat.{◌-◌}
use lib.ListN.{length}
use Rattle.algebra.specs.Lists.{upward}
use Rattle.reporting.specs.Rows.{chunk}
use Rattle.reporting.specs.Index.{slot_of, Index}
use Rattle.reporting.proofs.index.build.Given as goal

abbrev pub invariant-loop-i : goal.invariant-loop-i
invariant-loop-i l = (length l.heads ≡ 4096) × (length l.next ≡ length l.initial.next) × Index (slot_of l.place) (chunk l.k l.w l.rows) (upward (l.k - l.i) l.i) l.heads l.next
