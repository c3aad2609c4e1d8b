use native.Mathlib.Omega.{arith}
use mathlib.Core.Path.{sym, ap, ap₂, ◌∙◌}
use Rattle.reading.specs.Versions.{cell_size}
use Rattle.reading.specs.TableSet.{cell_allowed, cells_allowed}
use Rattle.reading.proofs.Laws.{all-holds, all-fails}
use Rattle.reading.proofs.set.codes_allowed.Goals as goal

pub returns-then-not-cell_allowed : goal.returns-then-not-cell_allowed
unfolding cells_allowed
returns-then-not-cell_allowed g c =
    let z = c.cell_size.ensures.value ∙ ap cell_size c.VERSION.ensures in
    let a = c.cell_allowed.ensures ∙ ap₂ cell_allowed c.VERSION-in-loop-i.ensures c.cell_of.ensures in
    sym (all-fails _ _ c.loop-i.i (rw z at c.loop-i-test.true) (sym a ∙ c.if-not-cell_allowed.true))

pub returns : goal.returns
unfolding cells_allowed
returns g c =
    let z = c.cell_size.ensures.value ∙ ap cell_size c.VERSION.ensures in
    sym (all-holds _ _ (λ k h. c.loop-i.invariant k (omega (arith, rw z at c.loop-i-test.false))))
