use Prim.Native.Nat.{◌*◌}
use mathlib.Core.Path.{◌≡◌}
use mathlib.Core.List.{◌++◌}
use lib.ListN.{take, drop}
use Rattle.prizes.specs.Payments.{split}
use Rattle.prizes.specs.Prize.{table_codes}
use Rattle.prizes.specs.Helpers.{players_in}
use Rattle.prizes.proofs.standings.Standings.pay_run.Given as goal

abbrev pub invariant-loop-i : goal.invariant-loop-i
invariant-loop-i l = l.out ≡ table_codes (take l.i (players_in l.self.rows l.self.columns l.self.cells.now)) (take l.i (split l.self.rows l.pool)) ++ drop (2 * l.i) l.initial.out
