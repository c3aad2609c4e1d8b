use mathlib.Core.List.{List}
use Prim.Native.Nat.{◌≤◌}
use native.Mathlib.Omega.{arith}
use lib.ListN.{length, drop}
use Rattle.algebra.specs.Plans.{Row}
use Rattle.reporting.specs.Held.{held_in}
use Rattle.reporting.proofs.Chunks.{length-chunk}
use Rattle.reporting.proofs.Known.{known_start}
use Rattle.reporting.proofs.matching.kept_at.Goals as goal

pub emit_all-requires : goal.emit_all-requires
emit_all-requires c =
    let a = c.args in
    let x = a.asked.now in
    let p = c.requires in
    let rs : List Row = held_in x.right a.cells.now in
    let few : length rs ≤ 4096 = omega (arith, length-chunk x.right.count (length x.right.columns.now) (drop x.right.at a.cells.now), x.right.few) in
    record { room = p.room; lookup = (p.keys, p.indexed, p.shared, known_start x.found a.index.keys.left a.index.keys.right p.indexed.equals rs few) }
