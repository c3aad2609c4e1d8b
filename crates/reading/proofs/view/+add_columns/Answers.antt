use native.Mathlib.Omega.{arith}
use mathlib.Core.Path.{◌≡◌, refl}
use mathlib.Core.List.{◌++◌}
use Rattle.algebra.specs.Plans.{columns}
use Rattle.reading.specs.TableSet.{tables_of}
use Rattle.reading.specs.Nodes.{kept_columns, own_columns}
use Rattle.reading.specs.declared.kinds.Kind.{Kind}
use Rattle.reading.proofs.Operators.{just, just_other, one_of}
use Rattle.reading.proofs.Trees.{plan_past, second_at, first_tree, second_tree}
use Rattle.reading.proofs.FlagLaws.{adds_none, adds_then, adds_same}
use Rattle.reading.proofs.ViewLaws.{columns-kept, kept_one}
use Rattle.reading.proofs.view.+add_columns.Goals as goal

pub returns-then-nodes_of-i : goal.returns-then-nodes_of-i
unfolding columns
returns-then-nodes_of-i t c = rw (plan_past c.args.plan.now c.args.i (omega arith)) (adds_none _)

pub returns-in-Unit : goal.returns-in-Unit
returns-in-Unit t c =
    let a = c.args in
    let n = c.node_at-node in
    let T = tables_of a.set.now in
    let cs = columns T (first_tree a.plan.now a.i) in
    let ds = columns T (second_tree a.plan.now a.i) in
    let own = own_columns n.result.kind T n.result in
    let P : Kind → Type 0 = λ k. kept_columns k own cs ds ≡ own in
    adds_same c.add_own-own.ensures
    (rw (one_of P refl (one_of P refl (one_of P refl (one_of P refl (one_of P refl (just_other P (λ b. refl)))))) c.in-Unit.is) at (columns-kept T a.plan.now a.i (omega (arith, c.if-nodes_of-i.false, c.nodes_of.ensures.0)) n.result n.ensures))

pub returns-in-Cross : goal.returns-in-Cross
returns-in-Cross t c =
    let a = c.args in
    let n = c.node_at-node in
    let T = tables_of a.set.now in
    let cs = columns T (first_tree a.plan.now a.i) in
    let ds = columns T (second_tree a.plan.now a.i) in
    let own = own_columns n.result.kind T n.result in
    let P : Kind → Type 0 = λ k. kept_columns k own cs ds ≡ ds ++ (cs ++ own) in
    let second = rw (second_at a.plan.now a.i c.tree_end-j.result c.tree_end-j.ensures) at c.add_columns.ensures in
    adds_same (adds_then (adds_then c.add_own-own.ensures c.add_columns-first.ensures) second)
    (rw (one_of P refl (just P refl) c.in-Cross.is) at (columns-kept T a.plan.now a.i (omega (arith, c.if-nodes_of-i.false, c.nodes_of.ensures.0)) n.result n.ensures))

pub returns-in_default : goal.returns-in_default
returns-in_default t c =
    let a = c.args in
    let n = c.node_at-node in
    let d = c.in_default in
    let T = tables_of a.set.now in
    let cs = columns T (first_tree a.plan.now a.i) in
    let ds = columns T (second_tree a.plan.now a.i) in
    let own = own_columns n.result.kind T n.result in
    adds_same (adds_then c.add_own-own.ensures c.add_columns-in_default.ensures)
    (rw (kept_one own cs ds n.result.kind d.not-Unit d.not-Scan d.not-Project d.not-Distinct d.not-Group d.not-Other d.not-Cross d.not-Each) at (columns-kept T a.plan.now a.i (omega (arith, c.if-nodes_of-i.false, c.nodes_of.ensures.0)) n.result n.ensures))
