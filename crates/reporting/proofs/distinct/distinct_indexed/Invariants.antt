use Prim.Native.Nat.{◌*◌}
use Rattle.algebra.specs.Lists.{firsts}
use Rattle.reporting.specs.Rows.{chunk}
use Rattle.reporting.specs.Index.{row_slot, downward, Index}
use Rattle.reporting.proofs.Firsts.{Sifting}
use Rattle.reporting.proofs.distinct.distinct_indexed.Given as goal

abbrev pub invariant-loop-i : goal.invariant-loop-i
invariant-loop-i l = Sifting (firsts (chunk l.m l.w l.initial.cells)) l.m l.w l.initial.cells l.cells l.i l.out (l.i * l.w) (l.out * l.w) × Index row_slot (chunk l.out l.w l.cells) (downward l.out) l.heads l.next
