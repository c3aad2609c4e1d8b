use Rattle.prizes.proofs.ClubLines.{club-taken, club-passed, club-end}
use mathlib.Core.Path.{sym, ◌∙◌}
use native.Mathlib.Omega.{arith}
use Rattle.prizes.specs.Helpers.{scores_in}
use Rattle.prizes.proofs.Amounts.{total-next}
use Rattle.prizes.proofs.standings.Standings.club_line.Goals as goal
use Rattle.prizes.proofs.standings.Standings.club_line.Goals.{then-not-has_number, else-not-has_number}

pub loop-i-preserved : goal.loop-i-preserved
loop-i-preserved c =
    let a = c.args in
    let l = c.loop-i in
    let s = scores_in a.self.now.rows a.self.now.columns a.self.now.cells.now in
    let h = c.loop-i-test.true in
    let t = total-next a.places.now.pence.now l.i h in
    let n = sym c.has_number.ensures in
    elim c.if-not-has_number.branch [
      | then-not-has_number w ↦ let k = club-taken s a.places.now.pence.now l.i h (n ∙ w.if-not-has_number.true) in (omega (arith, l.invariant.0, k, w.line-is), omega (arith, l.invariant.1, t, w.line-is))
      | else-not-has_number w ↦ let k = club-passed s a.places.now.pence.now l.i h (n ∙ w.if-not-has_number.false) in (omega (arith, l.invariant.0, k, w.line-is), omega (arith, l.invariant.1, t, w.line-is))
    ]

pub returns : goal.returns
returns c =
    let a = c.args in
    let l = c.loop-i in
    omega (arith, l.invariant.0, club-end (scores_in a.self.now.rows a.self.now.columns a.self.now.cells.now) a.places.now.pence.now l.i c.loop-i-test.false)
