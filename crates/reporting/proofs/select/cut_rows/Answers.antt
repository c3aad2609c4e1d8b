use mathlib.Core.Path.{◌≡◌, refl, sym, ap, ◌∙◌}
use Prim.Native.Nat.{ℕ, ◌+◌, ◌*◌}
use native.Mathlib.Omega.{arith}
use lib.ListN.{length}
use Rattle.algebra.specs.Plans.{cut}
use Rattle.reporting.specs.Rows.{chunk, row_at, rows_from, env_of}
use Rattle.reporting.proofs.Building.{map-single, building_places, building_start, kept-turn, kept-done}
use Rattle.reporting.proofs.select.cut_rows.Goals as goal

pub loop-i-init : goal.loop-i-init
loop-i-init c =
    let a = c.args in
    (building_places (building_start a.cells.now (sym (map-single (cut a.list.now a.ids.now (env_of a.env.now)) (rows_from a.own a.m (length a.ids.now) a.cells.now)))), refl)

pub loop-i-preserved : goal.loop-i-preserved
loop-i-preserved c =
    let a = c.args in
    let l = c.loop-i in
    let w = length a.ids.now in
    let n = length a.list.now in
    (building_places (kept-turn l.invariant.0 c.loop-i-test.true (cut a.list.now a.ids.now (env_of a.env.now) (row_at (a.own + l.i * w) w l.cells)) c.cut_row.new.cells (l.i + 1) (l.i * n + n) refl c.cut_row.ensures (omega (arith, c.requires.1.below l.i c.loop-i-test.true)) refl refl), c.cut_row.auto.cells ∙ l.invariant.1)

pub returns : goal.returns
returns c =
    let a = c.args in
    let l = c.loop-i in
    let e : a.m ≡ l.i = omega (arith, l.invariant.0.within) in
    let g = kept-done l.invariant.0 c.loop-i-test.false in
    record { is = ap (λ (n : ℕ). chunk n (length a.list.now) l.cells) e ∙ g.is; few = omega arith }
