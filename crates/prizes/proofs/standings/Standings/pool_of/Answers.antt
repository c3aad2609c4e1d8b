use mathlib.Core.Path.{sym, ◌∙◌}
use native.Mathlib.Omega.{arith}
use Rattle.prizes.specs.Helpers.{scores_in}
use Rattle.prizes.proofs.RowsInCells.{scores-length}
use Rattle.prizes.proofs.Runs.{pool-none, pool-whole}
use Rattle.prizes.proofs.standings.Standings.pool_of.Goals as goal

pub returns-then-has_number : goal.returns-then-has_number
returns-then-has_number c =
    let a = c.args in
    let s = scores_in a.self.now.rows a.self.now.columns a.self.now.cells.now in
    c.pence_from.ensures ∙ pool-whole s a.places.now.pence.now a.from a.to (omega (arith, scores-length a.self.now.rows a.self.now.columns a.self.now.cells.now, c.requires.row)) c.requires.to_value (sym c.has_number.ensures ∙ c.if-has_number.true)

pub returns-else-has_number : goal.returns-else-has_number
returns-else-has_number c =
    let a = c.args in
    let s = scores_in a.self.now.rows a.self.now.columns a.self.now.cells.now in
    pool-none s a.places.now.pence.now a.from a.to (omega (arith, scores-length a.self.now.rows a.self.now.columns a.self.now.cells.now, c.requires.row)) c.requires.to_value (sym c.has_number.ensures ∙ c.if-has_number.false)
