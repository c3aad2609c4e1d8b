use mathlib.Core.Path.{◌≡◌, refl}
use Rattle.reading.specs.Tree.{operator_by}
use Rattle.reading.specs.declared.kinds.Kind.{Kind}
use Rattle.reading.proofs.Operators.{just, just_other, one_of}
use Rattle.reporting.specs.Columns.{columns_way}
use Rattle.reporting.specs.declared.columns.ColumnsWay.TheVariants.{Own, First, FirstAndNew, Both}
use Rattle.reporting.proofs.columns.columns_way.Goals as goal

pub returns-in-Unit : goal.returns-in-Unit
unfolding operator_by
returns-in-Unit c =
    let P : Kind → Type 0 = λ k. Own ≡ columns_way (operator_by k c.args.node) in
    one_of P refl (one_of P refl (one_of P refl (one_of P refl (one_of P refl (just_other P (λ b. refl)))))) c.in-Unit.is

pub returns-in-Select : goal.returns-in-Select
unfolding operator_by
returns-in-Select c =
    let P : Kind → Type 0 = λ k. First ≡ columns_way (operator_by k c.args.node) in
    one_of P refl (one_of P refl (one_of P refl (one_of P refl (one_of P refl (just P refl))))) c.in-Select.is

pub returns-in-Fold : goal.returns-in-Fold
unfolding operator_by
returns-in-Fold c =
    let P : Kind → Type 0 = λ k. FirstAndNew ≡ columns_way (operator_by k c.args.node) in
    one_of P refl (just P refl) c.in-Fold.is

pub returns-in-Cross : goal.returns-in-Cross
unfolding operator_by
returns-in-Cross c =
    let P : Kind → Type 0 = λ k. Both ≡ columns_way (operator_by k c.args.node) in
    one_of P refl (just P refl) c.in-Cross.is
