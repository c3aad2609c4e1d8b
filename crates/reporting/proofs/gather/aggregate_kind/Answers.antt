use mathlib.Core.Path.{◌≡◌, refl, ◌∙◌}
use mathlib.Core.Logic.{◌⊎◌}
use Rattle.algebra.specs.Cells.{count}
use Rattle.reading.specs.Tree.{aggregate_of, operator_of, operator_by}
use Rattle.reading.specs.declared.kinds.Kind.{Kind}
use Rattle.reading.specs.declared.kinds.Kind.TheVariants.{Fold, Pair, Group}
use Rattle.reading.specs.declared.plan.Node.{Node}
use Rattle.reading.proofs.Operators.{each_kind, just, one_of}
use Rattle.reporting.specs.Rows.{aggregate_in}
use Rattle.reporting.proofs.gather.aggregate_kind.Goals as goal

-- a kind with an aggregate has the one of its code
coded : (node : Node) → (node.kind ≡ Fold) ⊎ ((node.kind ≡ Pair) ⊎ (node.kind ≡ Group)) → aggregate_of node.arg node.column ≡ aggregate_in (operator_of node)
unfolding operator_by aggregate_in
coded node =
    let P : Kind → Type 0 = λ k. aggregate_of node.arg node.column ≡ aggregate_in (operator_by k node) in
    one_of P refl (one_of P refl (just P refl))

pub returns-in-Fold : goal.returns-in-Fold
returns-in-Fold c = c.aggregate_kind.ensures ∙ coded c.args.node c.in-Fold.is

-- a kind without an aggregate counts
pub returns-in_default : goal.returns-in_default
unfolding operator_by aggregate_in
returns-in_default c =
    let n = c.args.node in
    let d = c.in_default in
    each_kind (λ k. (k ≡ Fold → ⊥) → (k ≡ Pair → ⊥) → (k ≡ Group → ⊥) → count ≡ aggregate_in (operator_by k n))
    (λ p q r. refl) (λ p q r. refl) (λ p q r. refl) (λ p q r. refl) (λ p q r. refl) (λ p q r. refl)
    (λ p q r. refl) (λ p q r. refl) (λ p q r. refl) (λ p q r. refl) (λ p q r. absurd (p refl)) (λ p q r. refl)
    (λ p q r. absurd (q refl)) (λ p q r. absurd (r refl)) (λ p q r. refl) (λ k p q r. refl)
    n.kind d.not-Fold d.not-Pair d.not-Group
