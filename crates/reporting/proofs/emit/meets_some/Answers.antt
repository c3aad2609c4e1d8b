use mathlib.Core.Bool.{Bool-set}
use mathlib.Core.Logic.{∥∥₁_elim}
use mathlib.Core.Path.{sym}
use lib.ListN.{drop}
use Rattle.reporting.specs.Held.{held_in}
use Rattle.reporting.proofs.Known.{any-counted}
use Rattle.reporting.proofs.emit.meets_some.Goals as goal

pub returns-in-Kept-clause-value : goal.returns-in-Kept-clause-value
returns-in-Kept-clause-value c =
    let a = c.args in
    let x = a.asked.now in
    ∥∥₁_elim x.somewhere (Bool-set _ _) (λ s. sym (any-counted x.node x.ids.now x.right.columns.now s.env x.found s.found c.requires.keeps (drop a.src a.cells.now) (held_in x.right a.cells.now) c.gather_known.result c.gather_known.ensures.value))
