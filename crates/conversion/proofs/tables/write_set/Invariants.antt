use mathlib.Core.Path.{◌≡◌}
use lib.ListN.{length}
use Rattle.conversion.specs.Bytes.{set_bytes}
use Rattle.conversion.specs.Helpers.{bytes_written}
use Rattle.conversion.proofs.tables.write_set.Given as goal

abbrev pub invariant-loop-t : goal.invariant-loop-t
invariant-loop-t l = (l.at ≡ length (set_bytes l.version l.t l.set)) × (l.out ≡ bytes_written l.initial.out 0 (set_bytes l.version l.t l.set))
