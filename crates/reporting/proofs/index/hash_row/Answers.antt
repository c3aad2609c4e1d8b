use mathlib.Core.Path.{sym, ap, ◌∙◌}
use native.Mathlib.Omega.{arith}
use Rattle.reporting.specs.Index.{bucket_of}
use Rattle.reporting.proofs.Chains.{mixed-next, mixed-end}
use Rattle.reporting.proofs.index.hash_row.Goals as goal

pub loop-cell-preserved : goal.loop-cell-preserved
loop-cell-preserved c =
    let l = c.loop-cell in
    (l.invariant.0 ∙ mixed-next c.args.row.now l.h c.mix-h.result l.cell-index c.loop-cell-test.true c.mix-h.ensures, omega (arith, c.mix-h.ensures))

pub returns : goal.returns
returns c =
    let l = c.loop-cell in
    (c.bucket.ensures.0, c.bucket.ensures.1 ∙ ap bucket_of (sym (l.invariant.0 ∙ mixed-end c.args.row.now l.h l.cell-index c.loop-cell-test.false)))
