use Prim.Native.Nat.{◌-◌}
use mathlib.Core.Path.{◌≡◌}
use Rattle.reading.specs.TableSet.{table_from}
use Rattle.reading.proofs.set.table_from.Given as goal

abbrev pub invariant-loop : goal.invariant-loop
invariant-loop l = table_from l.t l.set ≡ table_from (l.t - l.counter) l.rest
