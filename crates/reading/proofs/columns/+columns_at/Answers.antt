use native.Mathlib.Omega.{arith}
use mathlib.Core.Path.{sym, ap, ◌∙◌}
use Prim.Native.Nat.{min}
use Rattle.reading.specs.TableSet.{tables_of}
use Rattle.reading.proofs.TreeNumbers.{past-number, leaf-number, one_number, two-number}
use Rattle.reading.proofs.ColumnLaws.{widths, unit-width}
use Prim.Native.Nat.{ℕ}
use Rattle.reading.proofs.columns.+columns_at.Goals as goal

pub returns-then-nodes_of-i : goal.returns-then-nodes_of-i
returns-then-nodes_of-i t c =
    let a = c.args in
    ap (λ (n : ℕ). min n 33) (sym (unit-width (tables_of a.set.now)) ∙ past-number (widths (tables_of a.set.now)) a.plan.now a.i (omega arith))

pub returns-then-children-eq0 : goal.returns-then-children-eq0
returns-then-children-eq0 t c =
    let a = c.args in
    c.node_columns.ensures ∙ leaf-number (widths (tables_of a.set.now)) a.plan.now a.i (omega arith) _ c.node_at-node.ensures _ c.children_of-children.ensures
    c.if-children-eq0.true 0 0

pub returns-then-children-eq1 : goal.returns-then-children-eq1
returns-then-children-eq1 t c =
    let a = c.args in
    c.node_columns-then-children-eq1.ensures ∙ one_number (widths (tables_of a.set.now)) a.plan.now a.i (omega arith) _ c.node_at-node.ensures _ c.children_of-children.ensures
    c.if-children-eq1.true _ c.columns_at-first.ensures

pub returns : goal.returns
returns t c =
    let a = c.args in
    c.node_columns-2.ensures ∙ two-number (widths (tables_of a.set.now)) a.plan.now a.i (omega arith) _ c.node_at-node.ensures _ c.children_of-children.ensures
    c.if-children-eq0.false c.if-children-eq1.false _ _ _ c.columns_at-first.ensures c.tree_end-j.ensures c.columns_at-second.ensures
