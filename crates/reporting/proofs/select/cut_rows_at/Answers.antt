use mathlib.Core.Path.{◌≡◌, refl, sym, ap, ◌∙◌}
use mathlib.Core.List.{◌∷◌, []}
use Prim.Native.Nat.{ℕ, ◌+◌, ◌*◌}
use native.Mathlib.Omega.{arith}
use lib.ListN.{length, drop}
use Rattle.algebra.specs.Plans.{Row}
use Rattle.reporting.specs.Positions.{picked}
use Rattle.reporting.specs.Rows.{chunk, rows_from}
use Rattle.reporting.proofs.Building.{map-single, building_places, building_start, kept-turn, kept-done}
use Rattle.reporting.proofs.Picks.{picked-front}
use Rattle.reporting.proofs.select.cut_rows_at.Goals as goal

pub loop-i-init : goal.loop-i-init
loop-i-init c =
    let a = c.args in
    (building_places (building_start a.cells.now (sym (map-single (picked a.places.now) (rows_from a.own a.m a.w a.cells.now)))), refl)

pub loop-i-preserved : goal.loop-i-preserved
loop-i-preserved c =
    let a = c.args in
    let l = c.loop-i in
    let n = length a.places.now in
    let row : Row = drop (a.own + l.i * a.w) l.cells in
    (building_places (kept-turn l.invariant.0 c.loop-i-test.true (picked a.places.now row) c.cut_row_at.new.cells (l.i + 1) (l.i * n + n) (ap (λ (q : Row). q ∷ []) (picked-front a.places.now a.w row c.requires.0)) c.cut_row_at.ensures (omega (arith, c.requires.1.below l.i c.loop-i-test.true)) refl refl), c.cut_row_at.auto.cells ∙ l.invariant.1)

pub returns : goal.returns
returns c =
    let a = c.args in
    let l = c.loop-i in
    let e : a.m ≡ l.i = omega (arith, l.invariant.0.within) in
    let g = kept-done l.invariant.0 c.loop-i-test.false in
    record { is = ap (λ (n : ℕ). chunk n (length a.places.now) l.cells) e ∙ g.is; few = omega arith }
