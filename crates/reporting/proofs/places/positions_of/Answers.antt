use mathlib.Core.Path.{◌≡◌, sym, ap, ◌∙◌}
use mathlib.Core.List.{List, ◌++◌, append-nil}
use Prim.Native.Nat.{ℕ, ◌+◌, ◌≤◌, ◌<◌}
use native.Mathlib.Omega.{arith}
use lib.ListN.{length, drop, take, length-set}
use Rattle.reporting.specs.Positions.{positions}
use Rattle.reporting.proofs.Alike.{positions_hit, positions_miss, positions-end}
use Rattle.reporting.proofs.places.positions_of.Goals as goal
use Rattle.reporting.proofs.places.positions_of.Goals.{then-place-ids, else-place-ids}

pub loop-id-preserved : goal.loop-id-preserved
loop-id-preserved c =
    let a = c.args in
    let l = c.loop-id in
    let i = l.id-index in
    let p = c.place_of-place in
    let all : List ℕ = positions a.list.now a.ids.now in
    let room : l.n < length l.places = omega (arith, l.invariant, c.loop-id-test.true) in
    let n = c.if-place-ids.n in
    let places = c.if-place-ids.places in
    let turn : (n ≤ i + 1) × (length places ≡ length l.places) × (all ≡ take n places ++ positions (drop (i + 1) a.list.now) a.ids.now) =
    elim c.if-place-ids.branch [
      | then-place-ids v ↦ (omega (arith, v.n-is, l.invariant), ap length v.places-is ∙ length-set l.places l.n p.result, positions_hit a.list.now a.ids.now i all l.places places l.n n p.result c.loop-id-test.true p.ensures l.invariant.2 v.if-place-ids.true room v.places-is v.n-is)
      | else-place-ids v ↦ (omega (arith, v.n-is, l.invariant), ap length v.places-is, positions_miss a.list.now a.ids.now i all l.places places l.n n p.result c.loop-id-test.true p.ensures l.invariant.2 v.if-place-ids.false v.places-is v.n-is)
    ] in
    (turn.0, turn.1 ∙ l.invariant.1, turn.2)

pub returns : goal.returns
returns c =
    let a = c.args in
    let l = c.loop-id in
    sym (l.invariant.2 ∙ ap (λ (z : List ℕ). take l.n l.places ++ z) (positions-end a.list.now a.ids.now l.id-index (omega arith)) ∙ append-nil (take l.n l.places))
