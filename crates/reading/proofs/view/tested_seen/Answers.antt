use mathlib.Core.Path.{◌≡◌, refl}
use Rattle.algebra.specs.Plans.{form_names}
use Rattle.reading.specs.Tree.{form_of}
use Rattle.reading.specs.Nodes.{test_names}
use Rattle.reading.specs.declared.kinds.Kind.{Kind}
use Rattle.reading.proofs.Operators.{just, one_of}
use Rattle.reading.proofs.FlagLaws.{sees_none}
use Rattle.reading.proofs.ViewLaws.{test_none}
use Rattle.reading.proofs.view.tested_seen.Goals as goal

pub returns-in-Select : goal.returns-in-Select
returns-in-Select c =
    let n = c.args.node in
    let P : Kind → Type 0 = λ k. test_names k n ≡ form_names (form_of n.test) in
    rw (one_of P refl (one_of P refl (one_of P refl (one_of P refl (one_of P refl (one_of P refl (one_of P refl (just P refl))))))) c.in-Select.is) c.test_seen.ensures

pub returns-in_default : goal.returns-in_default
returns-in_default c =
    let n = c.args.node in
    let d = c.in_default in
    rw (test_none n n.kind d.not-Select d.not-Semi d.not-Anti d.not-Some d.not-Every d.not-Fold d.not-Pair d.not-Group) (sees_none _)
