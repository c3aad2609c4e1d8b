use native.Mathlib.Omega.{arith}
use Prim.Native.Nat.{◌+◌}
use Rattle.reading.specs.TableSet.{tables_of}
use Rattle.reading.specs.Tree.{plan_at}
use Rattle.reading.proofs.NeedLaws.{capped_share-most, capped_part-most, past-part, leaf-part, one-part, two-part}
use Rattle.reading.proofs.need.+part_at.Goals as goal

pub returns-then-nodes_of-i : goal.returns-then-nodes_of-i
returns-then-nodes_of-i t c =
    let a = c.args in
    past-part (tables_of a.set.now) a.plan.now a.i (omega arith)

pub returns-then-children-eq0 : goal.returns-then-children-eq0
returns-then-children-eq0 t c =
    let a = c.args in
    leaf-part (tables_of a.set.now) a.plan.now a.i (omega arith) _ c.node_at-node.ensures _ c.children_of-children.ensures _ c.share_at-own.ensures c.if-children-eq0.true

pub overflow_add-result : goal.overflow_add-result
overflow_add-result t c =
    let a = c.args in
    let own = capped_share-most (tables_of a.set.now) (plan_at a.plan.now a.i) in
    let first = capped_part-most (tables_of a.set.now) a.plan.now (a.i + 1) (omega arith) in
    omega (arith, own, first)

pub returns-then-children-eq1 : goal.returns-then-children-eq1
returns-then-children-eq1 t c =
    let a = c.args in
    one-part (tables_of a.set.now) a.plan.now a.i (omega arith) _ c.node_at-node.ensures _ c.children_of-children.ensures _ c.share_at-own.ensures
    c.if-children-eq1.true _ c.part_at-first.ensures

pub overflow_add-result-2 : goal.overflow_add-result-2
overflow_add-result-2 t c =
    let a = c.args in
    let own = capped_share-most (tables_of a.set.now) (plan_at a.plan.now a.i) in
    let first = capped_part-most (tables_of a.set.now) a.plan.now (a.i + 1) (omega arith) in
    omega (arith, own, first)

pub overflow_add-result-3 : goal.overflow_add-result-3
overflow_add-result-3 t c =
    let a = c.args in
    let own = capped_share-most (tables_of a.set.now) (plan_at a.plan.now a.i) in
    let first = capped_part-most (tables_of a.set.now) a.plan.now (a.i + 1) (omega arith) in
    let second = capped_part-most (tables_of a.set.now) a.plan.now c.tree_end-j.result (omega arith) in
    omega (arith, own, first, second)

pub returns : goal.returns
returns t c =
    let a = c.args in
    two-part (tables_of a.set.now) a.plan.now a.i (omega arith) _ c.node_at-node.ensures _ c.children_of-children.ensures _ c.share_at-own.ensures
    c.if-children-eq0.false c.if-children-eq1.false _ _ _ c.part_at-first.ensures c.tree_end-j.ensures c.part_at.ensures
