use mathlib.Core.Path.{◌≡◌, refl}
use mathlib.Core.Bool.{false}
use Rattle.algebra.specs.Refusals.{has_region}
use Rattle.reading.specs.Tree.{operator_by}
use Rattle.reading.specs.declared.kinds.Kind.{Kind}
use Rattle.reading.proofs.Operators.{just, one_of}
use Rattle.reading.proofs.NeedLaws.{region_other}
use Rattle.reading.proofs.need.has_region.Goals as goal

pub returns-in-Select : goal.returns-in-Select
unfolding operator_by
returns-in-Select c =
    let P : Kind → Type 0 = λ k. false ≡ has_region (operator_by k c.args.node) in
    one_of P refl (one_of P refl (one_of P refl (one_of P refl (one_of P refl (just P refl))))) c.in-Select.is

pub returns-in_default : goal.returns-in_default
returns-in_default c =
    let d = c.in_default in
    region_other c.args.node c.args.node.kind d.not-Select d.not-Project d.not-Semi d.not-Anti d.not-Some d.not-Every
