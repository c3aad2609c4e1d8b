use Prim.Native.Nat.{◌≤◌, ◌+◌}
use mathlib.Core.Path.{◌≡◌}
use lib.ListN.{drop}
use Rattle.algebra.specs.Lists.{total}
use Rattle.prizes.specs.Helpers.{scores_in}
use Rattle.prizes.specs.Payments.{club_line}
use Rattle.prizes.proofs.standings.Standings.club_line.Given as goal

abbrev pub invariant-loop-i : goal.invariant-loop-i
invariant-loop-i l = (club_line (scores_in l.self.rows l.self.columns l.self.cells.now) l.places.pence.now ≡ l.line + club_line (drop l.i (scores_in l.self.rows l.self.columns l.self.cells.now)) (drop l.i l.places.pence.now)) × (l.line + total (drop l.i l.places.pence.now) ≤ 100000000)
