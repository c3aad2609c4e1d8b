use Prim.Native.Nat.{ℕ, ◌<◌}
use mathlib.Core.Path.{◌≡◌}
use mathlib.Core.Bool.{true}
use Rattle.algebra.specs.Lists.{all}
use Rattle.reading.specs.TableSet.{cell_allowed, table_from}
use Rattle.conversion.specs.Bytes.{table_words}
use Rattle.conversion.proofs.tables.set_fits.Given as goal

abbrev pub invariant-loop-t : goal.invariant-loop-t
invariant-loop-t l = (k : ℕ) → k < l.t → all (cell_allowed l.version) (table_words (table_from k l.set)) ≡ true
