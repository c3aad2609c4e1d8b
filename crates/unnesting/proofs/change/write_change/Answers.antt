use native.Mathlib.Omega.{arith}
use Rattle.unnesting.proofs.ChangeLaws.{changed}
use Rattle.unnesting.proofs.change.write_change.Goals as goal

pub returns : goal.returns
returns c =
    let n = c.nodes_of-n in
    let m = n.ensures.0 in
    let h = c.write_header.ensures in
    let e₁ = c.copy_nodes-at.ensures in
    let e₂ = c.put_node-at.ensures in
    let e₃ = c.copy_nodes-at-2.ensures in
    let e₄ = c.put_more-at.ensures in
    let e₅ = c.copy_nodes.ensures in (
      omega (arith, m, c.requires.0.kept),
      changed c.args.plan.now c.args.i c.args.change n.result _ m (rw (m, c.count.ensures)) h e₁.1 e₂.1 e₃.1 e₄.1 e₅.1,
    )
