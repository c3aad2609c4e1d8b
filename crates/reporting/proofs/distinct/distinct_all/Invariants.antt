use Prim.Native.Nat.{◌*◌}
use Rattle.algebra.specs.Lists.{firsts}
use Rattle.reporting.specs.Rows.{chunk}
use Rattle.reporting.proofs.Firsts.{Sifting}
use Rattle.reporting.proofs.distinct.distinct_all.Given as goal

abbrev pub invariant-loop-i : goal.invariant-loop-i
invariant-loop-i l = Sifting (firsts (chunk l.m l.w l.initial.cells)) l.m l.w l.initial.cells l.cells l.i l.out (l.i * l.w) (l.out * l.w)
