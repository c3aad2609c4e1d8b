use mathlib.Core.Path.{sym, ap, ◌∙◌}
use lib.ListN.{drop}
use lib.Seq.{get_or-drop}
use Rattle.reporting.specs.Sides.{side_cell}
use Rattle.reporting.specs.declared.side.Side.{Side}
use Rattle.reporting.proofs.side.side_cell.Goals as goal

pub returns-in-Left : goal.returns-in-Left
returns-in-Left c =
    let a = c.args in
    let l = drop a.src a.cells.now in
    let r = drop a.at a.cells.now in
    let place = c.in-Left.place in
    sym (ap (λ (s : Side). side_cell s l r) c.in-Left.is ∙ get_or-drop a.src a.cells.now place 0)

pub returns-in-Right : goal.returns-in-Right
returns-in-Right c =
    let a = c.args in
    let l = drop a.src a.cells.now in
    let r = drop a.at a.cells.now in
    let place = c.in-Right.place in
    sym (ap (λ (s : Side). side_cell s l r) c.in-Right.is ∙ get_or-drop a.at a.cells.now place 0)
