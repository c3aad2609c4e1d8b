use mathlib.Core.Path.{◌≡◌, refl}
use mathlib.Core.List.{◌∷◌}
use Rattle.reading.specs.Tree.{operator_by, node_list}
use Rattle.reading.specs.Frees.{operator_names, test_named}
use Rattle.reading.specs.declared.kinds.Kind.{Kind}
use Rattle.reading.proofs.Operators.{just, one_of}
use Rattle.reading.proofs.FlagLaws.{flags_none, adds-first, adds_then}
use Rattle.reading.proofs.FreeLaws.{flags_is, flags_minus, names_other}
use Rattle.reading.proofs.free.node_names.Goals as goal

pub returns-in-Project : goal.returns-in-Project
unfolding operator_by
returns-in-Project c =
    let n = c.args.node in
    let P : Kind → Type 0 = λ k. node_list n ≡ operator_names (operator_by k n) in
    flags_is (one_of P refl (one_of P refl (just P refl)) c.in-Project.is) (adds-first c.add_list.ensures)

pub returns-in-Select : goal.returns-in-Select
unfolding operator_by
returns-in-Select c =
    let n = c.args.node in
    let P : Kind → Type 0 = λ k. test_named n ≡ operator_names (operator_by k n) in
    flags_is (one_of P refl (one_of P refl (just P refl)) c.in-Select.is) (adds-first c.add_test.ensures)

pub returns-in-Semi : goal.returns-in-Semi
unfolding operator_by
returns-in-Semi c =
    let n = c.args.node in
    let P : Kind → Type 0 = λ k. n.left ∷ n.right ∷ test_named n ≡ operator_names (operator_by k n) in
    flags_is (one_of P refl (just P refl) c.in-Semi.is)
    (adds-first (adds_then (adds_then c.add_test-in-Semi.ensures c.add_id.ensures) c.add_id-in-Semi.ensures))

pub returns-in-Fold : goal.returns-in-Fold
unfolding operator_by
returns-in-Fold c = rw c.in-Fold.is (adds-first c.add_row.ensures)

pub returns-in-Pair : goal.returns-in-Pair
unfolding operator_by
returns-in-Pair c =
    rw c.in-Pair.is
    (adds-first (adds_then (adds_then c.add_row-in-Pair.ensures c.add_id-in-Pair.ensures) c.add_id-in-Pair-2.ensures))

pub returns-in-Group : goal.returns-in-Group
unfolding operator_by
returns-in-Group c =
    let row = adds-first c.add_row-in-Group.ensures in
    let key = adds-first c.add_id-key.ensures in
    rw c.in-Group.is (c.add_id-in-Group.ensures.after _ (flags_minus row key c.set_where.ensures))

pub returns-in_default : goal.returns-in_default
returns-in_default c =
    let n = c.args.node in
    let d = c.in_default in
    flags_is (names_other n n.kind d.not-Project d.not-Distinct d.not-Sort d.not-Select d.not-Some d.not-Every d.not-Semi d.not-Anti d.not-Fold d.not-Pair d.not-Group) flags_none
