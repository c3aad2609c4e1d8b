use mathlib.Core.Path.{◌≡◌, refl}
use Rattle.algebra.specs.Cells.{eq}
use Rattle.reading.specs.Tree.{comparison_of}
use Rattle.reading.specs.declared.kinds.Kind.{Kind}
use Rattle.reading.specs.declared.kinds.Kind.TheVariants.{Pair, Group}
use Rattle.reading.proofs.Operators.{each_kind, just, one_of}
use Rattle.reporting.specs.Keys.{key_comparison}
use Rattle.reporting.proofs.test.key_comparison.Goals as goal

pub returns-in-Pair : goal.returns-in-Pair
unfolding key_comparison
returns-in-Pair c =
    let P : Kind → Type 0 = λ k. comparison_of c.args.comparison ≡ key_comparison k c.args.comparison in
    one_of P refl (just P refl) c.in-Pair.is

pub returns-in_default : goal.returns-in_default
unfolding key_comparison
returns-in_default c =
    let d = c.in_default in
    each_kind (λ k. (k ≡ Pair → ⊥) → (k ≡ Group → ⊥) → eq ≡ key_comparison k c.args.comparison)
    (λ p q. refl) (λ p q. refl) (λ p q. refl) (λ p q. refl) (λ p q. refl) (λ p q. refl)
    (λ p q. refl) (λ p q. refl) (λ p q. refl) (λ p q. refl) (λ p q. refl) (λ p q. refl)
    (λ p q. absurd (p refl)) (λ p q. absurd (q refl)) (λ p q. refl) (λ k p q. refl)
    c.args.kind d.not-Pair d.not-Group
