use native.Mathlib.Omega.{arith}
use mathlib.Core.Path.{refl, sym, ap, ◌∙◌}
use mathlib.Core.List.{◌++◌}
use Rattle.algebra.specs.Plans.{columns}
use Rattle.algebra.specs.Refusals.{in_view}
use Rattle.reading.specs.Tree.{operator_of}
use Rattle.reading.specs.TableSet.{tables_of}
use Rattle.reading.specs.Nodes.{inner_columns}
use Rattle.reading.proofs.Trees.{plan_past, second_at, first_tree}
use Rattle.reading.proofs.ViewLaws.{view_root_fails, view_leaf, view_first_fails, view_one, view_two}
use Rattle.reading.proofs.view.+tree_seen.Goals as goal

pub returns-then-nodes_of-i : goal.returns-then-nodes_of-i
unfolding in_view
returns-then-nodes_of-i t c = rw (plan_past c.args.plan.now c.args.i (omega arith)) (record { decides = λ scope f. refl })

pub returns-then-not-root_seen : goal.returns-then-not-root_seen
returns-then-not-root_seen t c = record {
  decides = λ scope f.
      let a = c.args in
      view_root_fails (tables_of a.set.now) a.plan.now a.i (omega arith) scope (sym (c.root_seen.ensures.decides scope f) ∙ c.if-not-root_seen.true);
}

pub returns-then-children-eq0 : goal.returns-then-children-eq0
returns-then-children-eq0 t c = record {
  decides = λ scope f.
      let a = c.args in
      let n = c.node_at-node in
      let k = c.children_of-children in
      view_leaf (tables_of a.set.now) a.plan.now a.i (omega arith) n.result n.ensures k.result k.ensures scope c.if-children-eq0.true;
}

pub returns-then-not-tree_seen : goal.returns-then-not-tree_seen
returns-then-not-tree_seen t c = record {
  decides = λ scope f.
      let a = c.args in
      let n = c.node_at-node in
      let k = c.children_of-children in
      view_first_fails (tables_of a.set.now) a.plan.now a.i (omega arith) n.result n.ensures k.result k.ensures scope c.if-children-eq0.false
      (sym (c.tree_seen.ensures.decides scope f) ∙ c.if-not-tree_seen.true);
}

pub returns-then-children-eq1 : goal.returns-then-children-eq1
returns-then-children-eq1 t c = record {
  decides = λ scope f.
      let a = c.args in
      let n = c.node_at-node in
      let k = c.children_of-children in
      sym (sym (c.tree_seen.ensures.decides scope f) ∙ c.if-not-tree_seen.false)
      ∙ view_one (tables_of a.set.now) a.plan.now a.i (omega arith) n.result n.ensures k.result k.ensures scope c.if-children-eq1.true
      (sym (c.root_seen.ensures.decides scope f) ∙ c.if-not-root_seen.false);
}

pub returns : goal.returns
returns t c = record {
  decides = λ scope f.
      let a = c.args in
      let n = c.node_at-node in
      let k = c.children_of-children in
      let T = tables_of a.set.now in
      let inner = inner_columns (operator_of n.result) (columns T (first_tree a.plan.now a.i)) ++ scope in
      c.tree_seen-2.ensures.decides inner (c.inner_scope-inner.ensures.after scope f)
      ∙ (ap (λ p. in_view T inner p) (second_at a.plan.now a.i c.tree_end-j.result c.tree_end-j.ensures)
      ∙ view_two T a.plan.now a.i (omega (arith, c.if-nodes_of-i.false, c.nodes_of.ensures.0)) n.result n.ensures k.result k.ensures scope c.if-children-eq0.false c.if-children-eq1.false
      (sym (c.root_seen.ensures.decides scope f) ∙ c.if-not-root_seen.false)
      (sym (c.tree_seen.ensures.decides scope f) ∙ c.if-not-tree_seen.false));
}
