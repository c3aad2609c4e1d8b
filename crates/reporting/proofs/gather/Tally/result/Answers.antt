use Prim.Native.Nat.{ℕ}
use mathlib.Core.Path.{◌≡◌, refl, sym, ap, ◌∙◌}
use mathlib.Core.Bool.{true, false}
use Rattle.algebra.specs.Cells.{off_scale}
use Rattle.reading.specs.Tree.{aggregate_by}
use Rattle.reporting.specs.Tallies.{tallied}
use Rattle.reading.specs.declared.plan.AggregateKind.{AggregateKind}
use Rattle.reading.specs.declared.plan.AggregateKind.TheVariants.{Count, Sum, Least, Greatest}
use Rattle.reporting.specs.declared.gather.Tally.{Tally}
use Rattle.reporting.proofs.gather.Tally.result.Goals as goal

-- off scale where a cell was, but for a count
scaled : (kind : AggregateKind) (t : Tally) (column : ℕ) → (kind ≡ Count → ⊥) → t.off ≡ true → off_scale ≡ tallied (aggregate_by kind column) t
unfolding tallied
scaled Count t column h e = absurd (h refl)
scaled Sum t column h e = rw e
scaled Least t column h e = rw e
scaled Greatest t column h e = rw e

-- what is left is the greatest
greatest-left : (kind : AggregateKind) (t : Tally) (column : ℕ) → (kind ≡ Count → ⊥) → (kind ≡ Sum → ⊥) → (kind ≡ Least → ⊥) → t.off ≡ false → t.greatest ≡ tallied (aggregate_by kind column) t
unfolding tallied
greatest-left Count t column h i j e = absurd (h refl)
greatest-left Sum t column h i j e = absurd (i refl)
greatest-left Least t column h i j e = absurd (j refl)
greatest-left Greatest t column h i j e = rw e

pub returns-in-Count : goal.returns-in-Count
unfolding tallied
returns-in-Count c = λ column. sym (ap (λ (k : AggregateKind). tallied (aggregate_by k column) c.args.self) c.in-Count.is)

pub returns-then-self : goal.returns-then-self
returns-then-self c = λ column. scaled c.args.aggregate c.args.self column c.in_default.not-Count c.if-self.true

pub returns-in-Sum : goal.returns-in-Sum
unfolding tallied
returns-in-Sum c = λ column.
    c.sum_cell.ensures ∙ sym (ap (λ (k : AggregateKind). tallied (aggregate_by k column) c.args.self) c.in-Sum.is ∙ rw c.if-self.false)

pub returns-in-Least : goal.returns-in-Least
unfolding tallied
returns-in-Least c = λ column. sym (ap (λ (k : AggregateKind). tallied (aggregate_by k column) c.args.self) c.in-Least.is ∙ rw c.if-self.false)

pub returns-in_default-aggregate : goal.returns-in_default-aggregate
returns-in_default-aggregate c = λ column. greatest-left c.args.aggregate c.args.self column c.in_default.not-Count c.in_default-aggregate.not-Sum c.in_default-aggregate.not-Least c.if-self.false
