use Rattle.std.specs.Prelude.{if◌then◌else◌}
use Prim.Native.Nat.{ℕ, ◌≤◌, ◌<◌}
use mathlib.Core.Path.{◌≡◌}
use lib.Dec.{eqb}
use lib.ListN.{length, get_or}
use Rattle.reading.proofs.free.set_where.Given as goal

abbrev pub invariant-loop-k : goal.invariant-loop-k
invariant-loop-k l = record {
  long : length l.marks ≡ 256;
  done : (j : ℕ) → j < l.k → get_or l.marks j 0 ≡ (if eqb (get_or l.fn.at j 0) 1 then l.value else get_or l.initial.marks j 0);
  left : (j : ℕ) → l.k ≤ j → get_or l.marks j 0 ≡ get_or l.initial.marks j 0;
}
