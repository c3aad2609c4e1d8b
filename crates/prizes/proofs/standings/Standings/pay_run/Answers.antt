use Prim.Native.Nat.{◌≤◌}
use mathlib.Core.Path.{◌≡◌, ap, ◌∙◌}
use native.Mathlib.Omega.{arith}
use lib.IntN.{pos}
use lib.ListN.{get_or}
use lib.Seq.{take_all}
use mir.Syntax.{w64}
use mir.Val.{to_z, of_z}
use mir.Facts.{to_z_pos}
use Rattle.reporting.specs.Report.{code_of}
use Rattle.reporting.proofs.Codes.{stored}
use Rattle.prizes.specs.Payments.{split}
use Rattle.prizes.specs.Helpers.{players_in}
use Rattle.prizes.proofs.Amounts.{total-below, split-length, split-total}
use Rattle.prizes.proofs.RowsInCells.{players-length}
use Rattle.prizes.proofs.Tables.{table-next}
use Rattle.prizes.proofs.standings.Standings.pay_run.Goals as goal
use Rattle.prizes.proofs.standings.Standings.pay_run.Goals.{After-part-paid}

paid-few : (c : After-part-paid) → c.part-paid.result ≤ 100000000
paid-few c =
    let n = c.args.self.now.rows in
    let pool = c.args.pool in
    omega (arith, c.part-paid.ensures, total-below (split n pool) c.loop-i.i, split-total n pool (omega arith))

pub overflow_cast-paid : goal.overflow_cast-paid
overflow_cast-paid c = omega (arith, paid-few (goal.at.overflow_cast-paid c).After-part-paid)

pub loop-i-preserved : goal.loop-i-preserved
loop-i-preserved c =
    let l = c.loop-i in
    let s = c.args.self.now in
    let players = players_in s.rows s.columns s.cells.now in
    let pence = split s.rows c.args.pool in
    let player : to_z w64 (of_z w64 c.code-player.result) ≡ code_of (get_or players l.i 0) = stored c.player.result c.player.type_inv c.code-player.ensures ∙ ap code_of c.player.ensures in
    let paid : to_z w64 c.part-paid.result ≡ pos (get_or pence l.i 0) = to_z_pos w64 {n = c.part-paid.result} (omega (arith, paid-few (goal.at.loop-i-preserved c).After-part-paid)) ∙ ap pos c.part-paid.ensures in
    rw (l.invariant, player, paid)
    (table-next players pence c.args.out.now l.i (omega (arith, players-length s.rows s.columns s.cells.now)) (omega (arith, split-length s.rows c.args.pool)) (omega arith))

pub returns : goal.returns
returns c =
    let l = c.loop-i in
    let s = c.args.self.now in
    let q : l.i ≡ s.rows = omega arith in
    let players = players_in s.rows s.columns s.cells.now in
    let pence = split s.rows c.args.pool in
    l.invariant ∙ rw (q, take_all s.rows players (omega (arith, players-length s.rows s.columns s.cells.now)), take_all s.rows pence (omega (arith, split-length s.rows c.args.pool)))
