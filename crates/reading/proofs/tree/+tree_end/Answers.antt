use Prim.Native.Nat.{◌+◌}
use native.Mathlib.Omega.{arith}
use mathlib.Core.Path.{sym, ap, ◌∙◌}
use Rattle.reading.proofs.Ends.{children-at, end-past, end-leaf, end-one, end-two}
use Prim.Native.Nat.{ℕ}
use Rattle.reading.proofs.tree.+tree_end.Goals as goal

pub returns-then-n-i : goal.returns-then-n-i
returns-then-n-i t c =
    let a = c.args in
    ap (λ (x : ℕ). x + 1) c.nodes_of-n.ensures.0 ∙ end-past a.plan.now a.i (omega arith)

pub returns-then-children-eq0 : goal.returns-then-children-eq0
returns-then-children-eq0 t c =
    let a = c.args in
    let k = children-at a.plan.now a.i _ _ c.node_at-node.ensures c.children_of-children.ensures in
    end-leaf a.plan.now a.i (omega arith) (sym k ∙ c.if-children-eq0.true)

pub returns-then-children-eq1 : goal.returns-then-children-eq1
returns-then-children-eq1 t c =
    let a = c.args in
    let k = children-at a.plan.now a.i _ _ c.node_at-node.ensures c.children_of-children.ensures in
    c.tree_end-next.ensures ∙ end-one a.plan.now a.i (omega arith) (sym k ∙ c.if-children-eq1.true)

pub returns : goal.returns
returns t c =
    let a = c.args in
    let k = children-at a.plan.now a.i _ _ c.node_at-node.ensures c.children_of-children.ensures in
    c.tree_end.ensures ∙ end-two a.plan.now a.i (omega arith) (λ z. c.if-children-eq0.false (k ∙ z)) (λ z. c.if-children-eq1.false (k ∙ z)) _ c.tree_end-next.ensures
