use mathlib.Core.Path.{◌≡◌}
use mathlib.Core.List.{◌++◌, map}
use Prim.Native.Nat.{◌+◌, ◌*◌}
use lib.ListN.{length, take, drop}
use Rattle.reporting.specs.Rows.{chunk}
use Rattle.reporting.proofs.Building.{Building, single}
use Rattle.reporting.proofs.emit.join_rows.Given as goal

abbrev pub invariant-loop : goal.invariant-loop
invariant-loop l = Building (single (λ r. take l.w (drop l.src l.initial.cells) ++ r)) (map (λ r. take l.w (drop l.src l.initial.cells) ++ r) (chunk l.k l.v (drop l.behind l.initial.cells))) 1 l.k l.v (l.w + l.v) l.behind l.cells l.counter l.counter l.from l.to × (length l.cells ≡ length l.initial.cells) × (drop (l.k * (l.w + l.v)) l.cells ≡ drop (l.k * (l.w + l.v)) l.initial.cells)
