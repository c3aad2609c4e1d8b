use Prim.Native.Nat.{ℕ, ◌<◌}
use mathlib.Core.Path.{◌≡◌}
use mathlib.Core.Bool.{true}
use Rattle.reading.specs.TableSet.{cell_allowed}
use Rattle.conversion.proofs.TableBytes.{word_in}
use Rattle.conversion.proofs.tables.table_fits.Given as goal

abbrev pub invariant-loop-i : goal.invariant-loop-i
invariant-loop-i l = (k : ℕ) → k < l.i → cell_allowed l.version (word_in l.table k) ≡ true
