use mathlib.Core.Path.{◌≡◌, refl}
use mathlib.Core.List.{[], ◌∷◌}
use Rattle.reading.specs.Nodes.{second_names}
use Rattle.reading.specs.declared.kinds.Kind.{Kind}
use Rattle.reading.proofs.Operators.{just, one_of}
use Rattle.reading.proofs.FlagLaws.{sees_none, sees_one}
use Rattle.reading.proofs.ViewLaws.{second_none}
use Rattle.reading.proofs.view.second_seen.Goals as goal

pub returns-in-Semi : goal.returns-in-Semi
returns-in-Semi c =
    let n = c.args.node in
    let P : Kind → Type 0 = λ k. second_names k n ≡ n.right ∷ [] in
    rw (one_of P refl (just P refl) c.in-Semi.is) (sees_one c.flagged.ensures)

pub returns-in-Fold : goal.returns-in-Fold
returns-in-Fold c = rw c.in-Fold.is c.measure_seen.ensures

pub returns-in-Pair : goal.returns-in-Pair
returns-in-Pair c = rw c.in-Pair.is c.right_seen.ensures

pub returns-in_default : goal.returns-in_default
returns-in_default c =
    let n = c.args.node in
    let d = c.in_default in
    rw (second_none n n.kind d.not-Semi d.not-Anti d.not-Fold d.not-Pair) (sees_none _)
