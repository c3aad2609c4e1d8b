use mathlib.Core.Path.{◌≡◌, refl}
use Rattle.reading.specs.Tree.{node_list}
use Rattle.reading.specs.Nodes.{list_names}
use Rattle.reading.specs.declared.kinds.Kind.{Kind}
use Rattle.reading.proofs.Operators.{just, one_of}
use Rattle.reading.proofs.FlagLaws.{sees_once-none}
use Rattle.reading.proofs.ViewLaws.{list_none}
use Rattle.reading.proofs.view.listed_seen.Goals as goal

pub returns-in-Project : goal.returns-in-Project
returns-in-Project c =
    let n = c.args.node in
    let P : Kind → Type 0 = λ k. list_names k n ≡ node_list n in
    rw (one_of P refl (one_of P refl (just P refl)) c.in-Project.is) c.list_seen.ensures

pub returns-in_default : goal.returns-in_default
returns-in_default c =
    let n = c.args.node in
    let d = c.in_default in
    rw (list_none n n.kind d.not-Project d.not-Distinct d.not-Sort) (sees_once-none _)
