use Prim.Native.Nat.{ℕ}
use mathlib.Core.Path.{◌≡◌, refl}
use Rattle.reading.specs.declared.kinds.Kind.{Kind}
use Rattle.reading.specs.Plan.{kind_entry, kind_row}
use Rattle.reading.proofs.Operators.{just, one_of}
use Rattle.reading.proofs.kinds.children_of.Goals as goal

abbrev Has : ℕ → Kind → Type 0
Has n kind = n ≡ kind_entry (kind_row kind) 0

pub returns-in-Select : goal.returns-in-Select
returns-in-Select c =
    let P = Has 1 in
    one_of P refl (one_of P refl (one_of P refl (one_of P refl (just P refl)))) c.in-Select.is

pub returns-in-Cross : goal.returns-in-Cross
returns-in-Cross c =
    let P = Has 2 in
    one_of P refl (one_of P refl (one_of P refl (one_of P refl (one_of P refl (one_of P refl (one_of P refl (just P refl))))))) c.in-Cross.is
