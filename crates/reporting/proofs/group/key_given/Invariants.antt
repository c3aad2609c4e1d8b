use mathlib.Core.Path.{◌≡◌}
use mathlib.Core.List.{[], ◌∷◌}
use Prim.Native.Nat.{◌*◌, ◌-◌}
use lib.ListN.{drop, take}
use Rattle.algebra.specs.Lists.{same, any}
use Rattle.reporting.specs.Rows.{chunk}
use Rattle.reporting.proofs.group.key_given.Given as goal

abbrev pub invariant-loop : goal.invariant-loop
invariant-loop l = (l.at ≡ l.counter * 2) × (any (λ q. same (take 1 q) (l.key ∷ [])) (chunk l.k 2 l.cells) ≡ any (λ q. same (take 1 q) (l.key ∷ [])) (chunk (l.k - l.counter) 2 (drop l.at l.cells)))
