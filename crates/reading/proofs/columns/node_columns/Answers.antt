use Prim.Native.Nat.{◌+◌}
use native.Mathlib.Omega.{arith}
use mathlib.Core.Path.{◌≡◌, refl}
use lib.ListN.{length}
use Rattle.reading.specs.Tree.{operator_by, node_list}
use Rattle.reading.specs.declared.kinds.Kind.{Kind}
use Rattle.reading.proofs.Operators.{just, one_of, just_other}
use Rattle.reading.proofs.TreeNumbers.{within_cap}
use Rattle.reading.proofs.ColumnLaws.{width_by, scan-width}
use Rattle.reading.proofs.columns.node_columns.Goals as goal

pub returns-in-Scan : goal.returns-in-Scan
returns-in-Scan c =
    let a = c.args in
    rw (scan-width a.set.now a.node a.first a.second c.in-Scan.is, ← c.table_from.ensures, ← c.columns_of.ensures.value) c.capped.ensures

pub returns-in-Project : goal.returns-in-Project
unfolding operator_by
returns-in-Project c =
    let a = c.args in
    let P : Kind → Type 0 = λ k. width_by a.set.now a.node a.first a.second k ≡ length (node_list a.node) in
    let e = c.len.ensures in
    rw (one_of P refl (just P refl) c.in-Project.is, ← e.1) (within_cap c.len.result 33 (omega arith))

pub returns-in-Cross : goal.returns-in-Cross
unfolding operator_by
returns-in-Cross c =
    let a = c.args in
    let P : Kind → Type 0 = λ k. width_by a.set.now a.node a.first a.second k ≡ a.first + a.second in
    rw (one_of P refl (just P refl) c.in-Cross.is) c.capped-in-Cross.ensures

pub returns-in-Fold : goal.returns-in-Fold
unfolding operator_by
returns-in-Fold c =
    let a = c.args in
    let P : Kind → Type 0 = λ k. width_by a.set.now a.node a.first a.second k ≡ a.first + 1 in
    rw (one_of P refl (just P refl) c.in-Fold.is) c.capped-in-Fold.ensures

pub returns-in-Group : goal.returns-in-Group
unfolding operator_by
returns-in-Group c = rw c.in-Group.is

pub returns-in-Select : goal.returns-in-Select
unfolding operator_by
returns-in-Select c =
    let a = c.args in
    let P : Kind → Type 0 = λ k. width_by a.set.now a.node a.first a.second k ≡ a.first in
    rw (one_of P refl (one_of P refl (one_of P refl (one_of P refl (one_of P refl (just P refl))))) c.in-Select.is) (within_cap a.first 33 c.requires.0)

pub returns-in-Unit : goal.returns-in-Unit
unfolding operator_by
returns-in-Unit c =
    let a = c.args in
    let P : Kind → Type 0 = λ k. width_by a.set.now a.node a.first a.second k ≡ 0 in
    rw (one_of P refl (just_other P (λ b. refl)) c.in-Unit.is)
