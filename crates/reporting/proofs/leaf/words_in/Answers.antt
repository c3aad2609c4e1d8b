use mathlib.Core.Path.{ap, ◌∙◌}
use Prim.Native.Nat.{◌*◌}
use native.Mathlib.Omega.{arith}
use lib.ListN.{length-set}
use Rattle.reading.specs.Versions.{word_of}
use Rattle.reading.specs.TableSet.{cell_at}
use Rattle.reading.specs.declared.version.Version.TheVariants.{Second}
use Rattle.reading.proofs.NumberBytes.{unsigned_eight}
use Rattle.reporting.proofs.TableRows.{next-cell, cell-word}
use Rattle.reporting.proofs.leaf.words_in.Goals as goal

pub loop-i-preserved : goal.loop-i-preserved
loop-i-preserved c =
    let l = c.loop-i in
    let from = c.args.from.now in
    (simp length-set l.invariant.0, rw (c.word.ensures ∙ ap (word_of Second) (unsigned_eight from (8 * l.i)) ∙ cell-word from l.i (omega arith)) (next-cell (cell_at Second from) l.cells l.i l.invariant.1 (omega arith)))
