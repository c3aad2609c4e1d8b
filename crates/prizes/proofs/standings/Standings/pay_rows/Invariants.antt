use Prim.Native.Nat.{◌-◌, ◌≤◌}
use mathlib.Core.Path.{◌≡◌}
use Rattle.prizes.proofs.Tables.{finished}
use Rattle.prizes.proofs.standings.Standings.pay_rows.Given as goal

abbrev pub invariant-loop-i : goal.invariant-loop-i
invariant-loop-i l = (l.i ≤ l.self.rows) × (finished l.self.rows l.self.columns l.self.cells.now l.places.pence.now l.i l.out ≡ finished l.self.rows l.self.columns l.self.cells.now l.places.pence.now 0 l.initial.out)

abbrev pub decreases-loop-i : goal.decreases-loop-i
decreases-loop-i l = l.self.rows - l.i
