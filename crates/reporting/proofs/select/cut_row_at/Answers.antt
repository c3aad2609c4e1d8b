use mathlib.Core.Path.{refl}
use native.Mathlib.Omega.{arith}
use lib.ListN.{length-set}
use Rattle.reporting.proofs.Picks.{picks_start, picks_turn}
use Rattle.reporting.proofs.select.cut_row_at.Goals as goal

pub loop-j-init : goal.loop-j-init
loop-j-init c =
    let a = c.args in
    (refl, picks_start a.places.now a.cells.now a.src a.dst)

pub loop-j-preserved : goal.loop-j-preserved
loop-j-preserved c =
    let a = c.args in
    let l = c.loop-j in
    (simp length-set l.invariant.0, picks_turn a.places.now a.cells.now l.cells a.src a.dst l.j l.invariant.1 c.loop-j-test.true c.requires.0 (omega (arith, c.requires.1 l.j c.loop-j-test.true, l.invariant.0)))
