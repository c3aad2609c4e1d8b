use native.Mathlib.Omega.{arith}
use Rattle.algebra.specs.Names.{free}
use Rattle.reading.specs.TableSet.{tables_of}
use Rattle.reading.proofs.Trees.{plan_past, second_at}
use Rattle.reading.proofs.FlagLaws.{flags_none, flags_same, adds-first}
use Rattle.reading.proofs.FreeLaws.{flags_is, read-leaf, read_one, read-two}
use Rattle.reading.proofs.free.+free_columns.Goals as goal

pub returns-then-nodes_of-i : goal.returns-then-nodes_of-i
unfolding free
returns-then-nodes_of-i t c = rw (plan_past c.args.plan.now c.args.i (omega arith)) flags_none

pub returns-then-children-eq0 : goal.returns-then-children-eq0
returns-then-children-eq0 t c =
    let a = c.args in
    let n = c.node_at-node in
    let k = c.children_of-children in
    flags_is (read-leaf (tables_of a.set.now) a.plan.now a.i (omega arith) n.result n.ensures k.result k.ensures c.if-children-eq0.true) flags_none

pub returns-then-children-eq1 : goal.returns-then-children-eq1
returns-then-children-eq1 t c =
    let a = c.args in
    let n = c.node_at-node in
    let k = c.children_of-children in
    flags_same (c.node_free.ensures.gives _ _ _ _ c.free_columns-first.ensures (adds-first c.add_columns-first_columns.ensures) flags_none flags_none)
    (read_one (tables_of a.set.now) a.plan.now a.i (omega (arith, c.if-nodes_of-i.false, c.nodes_of.ensures.0)) n.result n.ensures k.result k.ensures c.if-children-eq1.true)

pub returns : goal.returns
returns t c =
    let a = c.args in
    let n = c.node_at-node in
    let k = c.children_of-children in
    let place = second_at a.plan.now a.i c.tree_end-j.result c.tree_end-j.ensures in
    flags_is
    (read-two (tables_of a.set.now) a.plan.now a.i (omega (arith, c.if-nodes_of-i.false, c.nodes_of.ensures.0)) n.result n.ensures k.result k.ensures c.if-children-eq0.false c.if-children-eq1.false)
    (c.node_free-2.ensures.gives _ _ _ _ c.free_columns-first.ensures (adds-first c.add_columns-first_columns.ensures) (rw place at c.free_columns-second.ensures) (adds-first (rw place at c.add_columns-second_columns.ensures)))
