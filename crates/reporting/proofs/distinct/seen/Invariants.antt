use mathlib.Core.Path.{◌≡◌}
use Prim.Native.Nat.{◌*◌, ◌-◌}
use lib.ListN.{take, drop}
use Rattle.algebra.specs.Lists.{any, same}
use Rattle.reporting.specs.Rows.{chunk}
use Rattle.reporting.proofs.distinct.seen.Given as goal

abbrev pub invariant-loop-i : goal.invariant-loop-i
invariant-loop-i l = any (λ q. same q (take l.w (drop l.src l.cells))) (chunk l.k l.w l.cells) ≡ any (λ q. same q (take l.w (drop l.src l.cells))) (chunk (l.k - l.i) l.w (drop (l.i * l.w) l.cells))
