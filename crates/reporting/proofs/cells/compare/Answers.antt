use mathlib.Core.Bool.{or-false}
use mathlib.Core.Path.{◌≡◌, sym, ◌∙◌}
use Rattle.algebra.specs.Cells.{is_blank, is_number, compares}
use Rattle.reporting.proofs.cells.compare.Goals as goal
use Rattle.reporting.proofs.cells.compare.Goals.{After-is_number-right}

-- whether each side is a number
left : (c : After-is_number-right) → is_number c.args.a ≡ c.is_number-left.result
left c = sym c.is_number-left.ensures

right : (c : After-is_number-right) → is_number c.args.b ≡ c.is_number-right.result
right c = sym c.is_number-right.ensures

pub returns-then-right : goal.returns-then-right
unfolding compares
returns-then-right c = rw (left (goal.at.returns-then-right c).After-is_number-right ∙ c.if-left.true, right (goal.at.returns-then-right c).After-is_number-right ∙ c.if-right.true) c.ordered.ensures

pub returns-then-left : goal.returns-then-left
unfolding compares
returns-then-left c =
    rw (left (goal.at.returns-then-left c).After-is_number-right ∙ c.if-left.true, right (goal.at.returns-then-left c).After-is_number-right ∙ c.if-right.false, or-false (is_blank c.args.b))
    c.beside_number.ensures

pub returns-then-right-2 : goal.returns-then-right-2
unfolding compares
returns-then-right-2 c = rw (left (goal.at.returns-then-right-2 c).After-is_number-right ∙ c.if-left.false, right (goal.at.returns-then-right-2 c).After-is_number-right ∙ c.if-right-2.true) c.beside_number-then-right-2.ensures

pub returns : goal.returns
unfolding compares
returns c = rw (left (goal.at.returns c).After-is_number-right ∙ c.if-left.false, right (goal.at.returns c).After-is_number-right ∙ c.if-right-2.false)
