use Rattle.prizes.specs.Payments.{tied}
use mathlib.Core.Path.{◌≡◌, sym, ap, ◌∙◌}
use native.Mathlib.Omega.{arith}
use lib.ListN.{get_or}
use Rattle.prizes.specs.Helpers.{scores_in}
use Rattle.prizes.proofs.RowsInCells.{scores-length}
use Rattle.prizes.proofs.Runs.{run-starts, run-goes-on, run-stops, run-over}
use Rattle.prizes.proofs.standings.Standings.run_end.Goals as goal
use Rattle.prizes.proofs.standings.Standings.run_end.Goals.{After-compare}

compared : (c : After-compare) → tied c.score-score.result (get_or (scores_in c.args.self.now.rows c.args.self.now.columns c.args.self.now.cells.now) c.loop-i.i 0) ≡ c.compare.result
compared c = ap (tied c.score-score.result) (sym c.score.ensures) ∙ sym c.compare.ensures

pub loop-i-init : goal.loop-i-init
loop-i-init c =
    let s = c.args.self.now in
    run-starts (scores_in s.rows s.columns s.cells.now) c.args.from _ (omega (arith, scores-length s.rows s.columns s.cells.now, c.requires)) c.score-score.ensures

pub returns-then-not-compare : goal.returns-then-not-compare
returns-then-not-compare c =
    let s = c.args.self.now in
    let l = c.loop-i in
    omega (arith, l.invariant, run-stops (scores_in s.rows s.columns s.cells.now) l.i c.score-score.result (omega (arith, scores-length s.rows s.columns s.cells.now)) (compared (goal.at.returns-then-not-compare c).After-compare ∙ c.if-not-compare.true))

pub loop-i-preserved : goal.loop-i-preserved
loop-i-preserved c =
    let s = c.args.self.now in
    let l = c.loop-i in
    l.invariant ∙ run-goes-on (scores_in s.rows s.columns s.cells.now) l.i c.score-score.result (omega (arith, scores-length s.rows s.columns s.cells.now)) (compared (goal.at.loop-i-preserved c).After-compare ∙ c.if-not-compare.false)

pub returns : goal.returns
returns c =
    let s = c.args.self.now in
    let l = c.loop-i in
    omega (arith, l.invariant, run-over (scores_in s.rows s.columns s.cells.now) l.i c.score-score.result (omega (arith, scores-length s.rows s.columns s.cells.now)))
