use native.Mathlib.Omega.{arith}
use mathlib.Core.Path.{◌∙◌}
use mathlib.Core.List.{[]}
use Rattle.algebra.specs.Plans.{columns}
use Rattle.reading.specs.TableSet.{tables_of}
use Rattle.reading.proofs.Trees.{second_at, first_tree, second_tree}
use Rattle.reading.proofs.FlagLaws.{flags_none, adds-first}
use Rattle.reading.proofs.ViewLaws.{root-leaf, root-one, root-two}
use Rattle.reading.proofs.view.root_seen.Goals as goal

pub returns-then-children-eq0 : goal.returns-then-children-eq0
returns-then-children-eq0 c = record {
  decides = λ scope f.
      let a = c.args in
      let n = c.node_at-node in
      let k = c.children_of-children in
      root-leaf (tables_of a.set.now) a.plan.now a.i c.requires n.result n.ensures k.result k.ensures scope c.if-children-eq0.true;
}

pub overflow_add-i : goal.overflow_add-i
overflow_add-i c = omega (arith, c.requires, c.type_inv.plan 5)

pub overflow_add-i-then-children-eq1 : goal.overflow_add-i-then-children-eq1
overflow_add-i-then-children-eq1 c = omega (arith, c.requires, c.type_inv.plan 5)

pub returns-then-children-eq1 : goal.returns-then-children-eq1
returns-then-children-eq1 c = record {
  decides = λ scope f.
      let a = c.args in
      let n = c.node_at-node in
      let k = c.children_of-children in
      let T = tables_of a.set.now in
      c.names_seen.ensures.decides scope (columns T (first_tree a.plan.now a.i)) [] (adds-first c.add_columns-first.ensures) flags_none (c.add_columns-seen.ensures.after scope f)
      ∙ root-one T a.plan.now a.i c.requires n.result n.ensures k.result k.ensures scope c.if-children-eq1.true;
}

pub overflow_add-i-2 : goal.overflow_add-i-2
overflow_add-i-2 c = omega (arith, c.requires, c.type_inv.plan 5)

pub overflow_add-i-3 : goal.overflow_add-i-3
overflow_add-i-3 c = omega (arith, c.requires, c.type_inv.plan 5)

pub returns : goal.returns
returns c = record {
  decides = λ scope f.
      let a = c.args in
      let n = c.node_at-node in
      let k = c.children_of-children in
      let T = tables_of a.set.now in
      let cs = columns T (first_tree a.plan.now a.i) in
      let ds = columns T (second_tree a.plan.now a.i) in
      let s = second_at a.plan.now a.i c.tree_end-j.result c.tree_end-j.ensures in
      let second = rw s at c.add_columns-second.ensures in
      let around = rw s at c.add_columns-around.ensures in
      c.names_seen-2.ensures.decides scope cs ds (adds-first c.add_columns-first.ensures) (adds-first second) (c.add_columns-seen-2.ensures.after _ (around.after scope f))
      ∙ root-two T a.plan.now a.i c.requires n.result n.ensures k.result k.ensures scope c.if-children-eq0.false c.if-children-eq1.false;
}
