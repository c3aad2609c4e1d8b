use mathlib.Core.Path.{◌≡◌}
use Prim.Native.Nat.{◌-◌}
use native.Mathlib.Omega.{arith}
use lib.ListN.{length, drop, length-drop}
use Rattle.reporting.proofs.Copies.{written_copy, written-more}
use Rattle.reporting.proofs.emit.write_with.Goals as goal

pub returns : goal.returns
returns c =
    let a = c.args in
    let long : length (drop a.src a.cells.now) ≡ length a.cells.now - a.src = length-drop a.src a.cells.now in
    let copied = written_copy a.cells.now c.copy_row.new.cells (drop a.src a.cells.now) a.dst a.w c.copy_row.ensures (omega (arith, c.requires)) (omega (arith, c.requires)) in
    written-more a.cell copied (omega (arith, c.requires, c.copy_row.auto.cells))
