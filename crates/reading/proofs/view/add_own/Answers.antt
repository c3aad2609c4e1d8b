use mathlib.Core.Path.{◌≡◌, refl}
use mathlib.Core.List.{[], ◌∷◌}
use Rattle.reading.specs.TableSet.{tables_of}
use Rattle.reading.specs.Tree.{node_list}
use Rattle.reading.specs.Nodes.{own_columns}
use Rattle.reading.specs.declared.kinds.Kind.{Kind}
use Rattle.reading.proofs.Operators.{just, one_of}
use Rattle.reading.proofs.FlagLaws.{adds_none, adds_then}
use Rattle.reading.proofs.ViewLaws.{own_none}
use Rattle.reading.proofs.view.add_own.Goals as goal

pub returns-in-Scan : goal.returns-in-Scan
returns-in-Scan c = rw c.in-Scan.is (rw (c.columns_of.ensures.value, c.table_from.ensures) at c.add_ids.ensures)

pub returns-in-Project : goal.returns-in-Project
returns-in-Project c =
    let n = c.args.node in
    let P : Kind → Type 0 = λ k. own_columns k (tables_of c.args.set.now) n ≡ node_list n in
    rw (one_of P refl (just P refl) c.in-Project.is) c.add_list.ensures

pub returns-in-Fold : goal.returns-in-Fold
returns-in-Fold c =
    let n = c.args.node in
    let P : Kind → Type 0 = λ k. own_columns k (tables_of c.args.set.now) n ≡ n.id ∷ [] in
    rw (one_of P refl (just P refl) c.in-Fold.is) c.add_id.ensures

pub returns-in-Group : goal.returns-in-Group
returns-in-Group c = rw c.in-Group.is (adds_then c.add_id-in-Group.ensures c.add_id-in-Group-2.ensures)

pub returns-in_default : goal.returns-in_default
returns-in_default c =
    let n = c.args.node in
    let d = c.in_default in
    rw (own_none n (tables_of c.args.set.now) n.kind d.not-Scan d.not-Project d.not-Distinct d.not-Fold d.not-Pair d.not-Group) (adds_none _)
