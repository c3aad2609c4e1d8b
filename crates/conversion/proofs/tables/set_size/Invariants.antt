use Prim.Native.Nat.{◌*◌, ◌≤◌}
use mathlib.Core.Path.{◌≡◌}
use lib.ListN.{length}
use Rattle.conversion.specs.Bytes.{set_bytes}
use Rattle.conversion.proofs.tables.set_size.Given as goal

abbrev pub invariant-loop-t : goal.invariant-loop-t
invariant-loop-t l = (l.size ≤ 133691408 * l.t) × (l.size ≡ length (set_bytes l.version l.t l.set))
