use Prim.Native.Nat.{◌+◌}
use mathlib.Core.Path.{◌≡◌}
use lib.ListN.{length}
use Rattle.algebra.specs.Lists.{flat_map, upward}
use Rattle.reading.specs.Encoding.{number_bytes}
use Rattle.conversion.specs.Helpers.{bytes_written}
use Rattle.conversion.proofs.TableBytes.{word_in}
use Rattle.conversion.proofs.tables.write_cells.Given as goal

abbrev pub invariant-loop-i : goal.invariant-loop-i
invariant-loop-i l = (l.place ≡ l.at + length (flat_map (λ k. number_bytes l.version (word_in l.table k)) (upward l.i 0))) × (l.out ≡ bytes_written l.initial.out l.at (flat_map (λ k. number_bytes l.version (word_in l.table k)) (upward l.i 0)))
