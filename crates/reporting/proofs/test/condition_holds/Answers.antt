use mathlib.Core.Path.{sym, ap, ◌∙◌}
use Rattle.std.specs.Prelude.{Option}
use lib.ListN.{drop}
use Rattle.algebra.specs.Lists.{flip}
use Rattle.algebra.specs.Cells.{compares}
use Rattle.reading.specs.Tree.{comparison_of}
use Rattle.reporting.specs.Sides.{compared_holds, condition_holds}
use Rattle.reporting.specs.declared.side.Compared.{Compared}
use Rattle.reporting.proofs.Passing.{flip-true, flip-differs}
use Rattle.reporting.proofs.test.condition_holds.Goals as goal

pub returns-in-None : goal.returns-in-None
unfolding condition_holds
returns-in-None c =
    let a = c.args in
    let k = a.condition.now in
    flip-true k.negated ∙ sym (ap (λ (o : Option Compared). flip k.negated (compared_holds o (drop a.src a.cells.now) (drop a.at a.cells.now))) c.in-None.is)

pub returns-in-Some : goal.returns-in-Some
unfolding condition_holds
returns-in-Some c =
    let a = c.args in
    let k = a.condition.now in
    flip-differs k.negated c.compare.result
    ∙ ap (flip k.negated) (c.compare.ensures ∙ (λ j. compares (comparison_of c.in-Some.compared.comparison) (c.side_cell-a.ensures j) (c.side_cell-b.ensures j)))
    ∙ sym (ap (λ (o : Option Compared). flip k.negated (compared_holds o (drop a.src a.cells.now) (drop a.at a.cells.now))) c.in-Some.is)
