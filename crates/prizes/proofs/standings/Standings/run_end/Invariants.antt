use Prim.Native.Nat.{◌+◌}
use mathlib.Core.Path.{◌≡◌}
use lib.ListN.{drop}
use Rattle.prizes.specs.Helpers.{scores_in, first_run, tied_with}
use Rattle.prizes.proofs.standings.Standings.run_end.Given as goal

abbrev pub invariant-loop-i : goal.invariant-loop-i
invariant-loop-i l = l.from + first_run (drop l.from (scores_in l.self.rows l.self.columns l.self.cells.now)) ≡ l.i + tied_with l.score (drop l.i (scores_in l.self.rows l.self.columns l.self.cells.now))
