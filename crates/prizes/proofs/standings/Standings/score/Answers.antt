use mathlib.Core.Path.{sym}
use Rattle.prizes.proofs.RowsInCells.{score_at}
use Rattle.prizes.proofs.standings.Standings.score.Goals as goal

pub returns : goal.returns
returns c = let s = c.args.self.now in sym (score_at s.rows s.columns s.cells.now c.args.i c.requires s.scored.wide)
