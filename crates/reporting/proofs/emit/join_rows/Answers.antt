use mathlib.Core.Path.{◌≡◌, refl, sym, ap, ◌∙◌}
use mathlib.Core.List.{List, ◌++◌}
use Prim.Native.Nat.{ℕ, ◌+◌, ◌*◌, ◌≤◌}
use native.Mathlib.Omega.{arith}
use lib.ListN.{length, take, drop}
use Rattle.reporting.specs.Rows.{chunk}
use Rattle.reporting.specs.Written.{Written}
use Rattle.reporting.proofs.Copies.{written-joined, written_as, written-rest}
use Rattle.reporting.proofs.Lent.{drop-beyond}
use Rattle.reporting.proofs.Building.{map-single, building_start, building_row, kept-room, kept-turn, kept-done}
use Rattle.reporting.proofs.emit.join_rows.Goals as goal
use Rattle.reporting.proofs.emit.join_rows.Goals.{In-loop}

-- the row at hand lies within the cells, and there is room for what it gives
in_row : (c : In-loop) → (c.loop.from + c.args.v ≤ length c.loop.cells) × (c.args.behind ≤ c.loop.from) × (c.loop.to + (c.args.w + c.args.v) ≤ c.args.k * (c.args.w + c.args.v))
in_row c =
    let p = c.loop.invariant.0 in
    let room = kept-room p c.loop-test.true in
    (omega (arith, building_row p c.loop-test.true), omega (arith, p.src_at), room)

pub loop-init : goal.loop-init
loop-init c =
    let a = c.args in
    (building_start a.cells.now (sym (map-single (λ r. take a.w (drop a.src a.cells.now) ++ r) (chunk a.k a.v (drop a.behind a.cells.now)))), refl, refl)

pub loop-preserved : goal.loop-preserved
loop-preserved c =
    let a = c.args in
    let l = c.loop in
    let p = l.invariant.0 in
    let h = c.loop-test.true in
    let (inside, below, room) = in_row (goal.at.loop-preserved c).In-loop in
    let d : List ℕ = c.copy_row.new.cells in
    let e : List ℕ = c.copy_row-in-loop.new.cells in
    let from : drop a.src l.cells ≡ drop a.src a.cells.now = drop-beyond (a.k * (a.w + a.v)) a.src l.cells a.cells.now (omega arith) l.invariant.2 in
    let g : Written l.to (a.w + a.v) (take a.w (drop a.src a.cells.now) ++ take a.v (drop l.from l.cells)) l.cells e =
    written_as (ap (λ x. take a.w x ++ take a.v (drop l.from l.cells)) from) (written-joined l.cells d e a.src l.from l.to a.w a.v c.copy_row.ensures c.copy_row-in-loop.ensures c.copy_row.auto.cells (omega arith) (omega arith) (omega arith) (omega arith)) in
    (kept-turn p h (take a.w (drop a.src a.cells.now) ++ take a.v (drop l.from l.cells)) e (l.counter + 1) (l.to + (a.w + a.v)) refl g (omega arith) refl refl, c.copy_row-in-loop.auto.cells ∙ c.copy_row.auto.cells ∙ l.invariant.1, written-rest g (a.k * (a.w + a.v)) room ∙ l.invariant.2)

pub returns : goal.returns
returns c =
    let a = c.args in
    let l = c.loop in
    let e : a.k ≡ l.counter = omega (arith, l.invariant.0.within) in
    let g = kept-done l.invariant.0 c.loop-test.false in record { gives = record { is = ap (λ (n : ℕ). chunk n (a.w + a.v) l.cells) e ∙ g.is; few = omega arith }; cells_unchanged = l.invariant.2 }
