use mathlib.Core.Path.{◌≡◌, refl}
use mathlib.Core.Bool.{false}
use borrow.Author.Tests.{ne_eqb}
use Rattle.algebra.specs.Cells.{is_unequal}
use Rattle.reading.specs.Tree.{comparison_of}
use Rattle.reading.specs.declared.comparison.Comparison.{Comparison}
use Rattle.reading.specs.declared.comparison.Comparison.TheVariants.{Equal, Unequal, Less, AtMost, Greater, AtLeast, Other}
use Rattle.reporting.proofs.cells.beside_number.Goals as goal

none-unequal : (k : Comparison) → (k ≡ Unequal → ⊥) → false ≡ is_unequal (comparison_of k)
none-unequal Equal n = refl
none-unequal Unequal n = absurd (n refl)
none-unequal Less n = refl
none-unequal AtMost n = refl
none-unequal Greater n = refl
none-unequal AtLeast n = refl
none-unequal (Other byte) n = refl

pub returns-then-x-ne0 : goal.returns-then-x-ne0
returns-then-x-ne0 c = rw (ne_eqb c.args.x 0 c.if-x-ne0.true)

pub returns-in-Unequal : goal.returns-in-Unequal
returns-in-Unequal c = rw (c.if-x-ne0.false, c.in-Unequal.is)

pub returns-in_default : goal.returns-in_default
returns-in_default c = rw c.if-x-ne0.false (none-unequal c.args.comparison c.in_default.not-Unequal)
