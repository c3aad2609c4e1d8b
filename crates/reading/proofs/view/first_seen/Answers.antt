use mathlib.Core.Path.{◌≡◌, refl}
use mathlib.Core.List.{[], ◌∷◌}
use Rattle.reading.specs.Nodes.{first_names}
use Rattle.reading.specs.declared.kinds.Kind.{Kind}
use Rattle.reading.proofs.Operators.{just, one_of}
use Rattle.reading.proofs.FlagLaws.{sees_none, sees_one}
use Rattle.reading.proofs.ViewLaws.{first_none}
use Rattle.reading.proofs.view.first_seen.Goals as goal

pub returns-in-Semi : goal.returns-in-Semi
returns-in-Semi c =
    let n = c.args.node in
    let P : Kind → Type 0 = λ k. first_names k n ≡ n.left ∷ [] in
    rw (one_of P refl (one_of P refl (just P refl)) c.in-Semi.is) (sees_one c.flagged.ensures)

pub returns-in-Group : goal.returns-in-Group
returns-in-Group c = rw c.in-Group.is c.right_seen.ensures

pub returns-in_default : goal.returns-in_default
returns-in_default c =
    let n = c.args.node in
    let d = c.in_default in
    rw (first_none n n.kind d.not-Semi d.not-Anti d.not-Pair d.not-Group) (sees_none _)
