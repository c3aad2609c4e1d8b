use mathlib.Core.Path.{sym, ◌∙◌, subst, ◌≡◌}
use mathlib.Core.Bool.{true}
use Prim.Native.Nat.{ℕ, ◌+◌}
use borrow.Author.Tests.{ne_eqb}
use lib.ListN.{drop, get_or}
use lib.Seq.{get_or-drop}
use Rattle.algebra.specs.Cells.{is_number}
use Rattle.reporting.proofs.Sides.{meets-other, meets-same}
use Rattle.reporting.proofs.test.linked_meets.Goals as goal
use Rattle.reporting.proofs.test.linked_meets.Goals.{Start}

-- the left key is a number
number : (c : Start) → is_number (get_or (drop c.args.src c.args.cells.now) c.args.keys.left 0) ≡ true
number c = subst (λ (key : ℕ). is_number key ≡ true) c.requires.key_value.0 c.requires.key_value.1

pub returns-then-cells-at : goal.returns-then-cells-at
returns-then-cells-at c =
    let a = c.args in
    let l = drop a.src a.cells.now in
    let r = drop a.at a.cells.now in
    c.condition_holds.ensures ∙ sym (meets-same a.found.now a.keys.left a.keys.right c.requires.found_inside.1 l r (number (goal.at.returns-then-cells-at c).Start) (get_or-drop a.at a.cells.now a.keys.right 0 ∙ c.if-cells-at.true ∙ c.requires.key_value.0))

pub returns-else-cells-at : goal.returns-else-cells-at
returns-else-cells-at c =
    let a = c.args in
    let l = drop a.src a.cells.now in
    let r = drop a.at a.cells.now in
    ne_eqb (get_or a.cells.now (a.at + a.keys.right) 0) a.key c.if-cells-at.false
    ∙ sym (meets-other a.found.now a.keys.left a.keys.right c.requires.found_inside.1 l r (number (goal.at.returns-else-cells-at c).Start) (λ e. c.if-cells-at.false (sym (get_or-drop a.at a.cells.now a.keys.right 0) ∙ e ∙ sym c.requires.key_value.0)))
