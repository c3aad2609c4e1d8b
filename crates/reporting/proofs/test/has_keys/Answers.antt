use mathlib.Core.Path.{◌≡◌, refl}
use mathlib.Core.Bool.{true, false}
use Rattle.reading.specs.declared.kinds.Kind.{Kind}
use Rattle.reading.specs.declared.kinds.Kind.TheVariants.{Semi, Anti, Pair, Group}
use Rattle.reading.proofs.Operators.{each_kind, just, one_of}
use Rattle.reporting.specs.Keys.{has_keys}
use Rattle.reporting.proofs.test.has_keys.Goals as goal

pub returns-in-Semi : goal.returns-in-Semi
unfolding has_keys
returns-in-Semi c =
    let P : Kind → Type 0 = λ k. true ≡ has_keys k in
    one_of P refl (one_of P refl (one_of P refl (just P refl))) c.in-Semi.is

pub returns-in_default : goal.returns-in_default
unfolding has_keys
returns-in_default c =
    let d = c.in_default in
    each_kind (λ k. (k ≡ Semi → ⊥) → (k ≡ Anti → ⊥) → (k ≡ Pair → ⊥) → (k ≡ Group → ⊥) → false ≡ has_keys k)
    (λ p q r s. refl) (λ p q r s. refl) (λ p q r s. refl) (λ p q r s. refl) (λ p q r s. refl) (λ p q r s. refl)
    (λ p q r s. absurd (p refl)) (λ p q r s. absurd (q refl)) (λ p q r s. refl) (λ p q r s. refl) (λ p q r s. refl) (λ p q r s. refl)
    (λ p q r s. absurd (r refl)) (λ p q r s. absurd (s refl)) (λ p q r s. refl) (λ k p q r s. refl)
    c.args.kind d.not-Semi d.not-Anti d.not-Pair d.not-Group
