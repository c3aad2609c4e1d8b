use Prim.Native.Nat.{ℕ, ◌<◌}
use mathlib.Core.Path.{◌≡◌}
use mathlib.Core.Bool.{true}
use Rattle.reading.specs.TableSet.{cell_allowed, cell_at}
use Rattle.reading.proofs.set.codes_allowed.Given as goal

abbrev pub invariant-loop-i : goal.invariant-loop-i
invariant-loop-i g l = (k : ℕ) → k < l.i → cell_allowed g.F.CellFormat.VERSION (cell_at g.F.CellFormat.VERSION l.cells k) ≡ true
