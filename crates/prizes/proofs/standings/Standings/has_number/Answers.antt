use mathlib.Core.Path.{sym, ap, ◌∙◌}
use native.Mathlib.Omega.{arith}
use borrow.Author.Tests.{le-ltb}
use lib.ListN.{get_or-eq_default}
use Rattle.algebra.specs.Cells.{is_number}
use Rattle.prizes.specs.Helpers.{scores_in}
use Rattle.prizes.proofs.RowsInCells.{scores-length}
use Rattle.prizes.proofs.standings.Standings.has_number.Goals as goal

pub returns-else-i-self : goal.returns-else-i-self
returns-else-i-self c =
    let s = c.args.self.now in
    let none = get_or-eq_default (scores_in s.rows s.columns s.cells.now) 0 (omega (arith, scores-length s.rows s.columns s.cells.now, c.if-i-self.false)) in
    le-ltb c.args.i s.rows c.if-i-self.false ∙ sym (ap is_number none)
