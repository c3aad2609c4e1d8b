use native.Mathlib.Omega.{arith}
use mathlib.Core.Path.{◌≡◌, ap, ap₂, ◌∙◌}
use Prim.Native.Nat.{ℕ, ◌+◌, ◌*◌, ◌-◌}
use lib.ListN.{take, drop}
use Rattle.reading.specs.Versions.{node_size}
use Rattle.reading.specs.Plan.{plan_version}
use Rattle.reading.specs.declared.plan.Node.{Node}
use Rattle.reading.proofs.VersionLaws.{node_least}
use Rattle.conversion.specs.Helpers.{test_tail}
use Rattle.conversion.proofs.NodeBytes.{node_written}
use Rattle.conversion.proofs.plans.write_node.Goals as goal
use Rattle.conversion.proofs.plans.write_node.Goals.{After-node_size}

start_is : (c : After-node_size) → c.node_size.result * c.args.i ≡ node_size (plan_version c.args.plan.now) * c.args.i
start_is c = ap (λ (z : ℕ). z * c.args.i) (c.node_size.ensures.value ∙ ap node_size c.version_at.ensures)

pub returns : goal.returns
returns c =
    let a = c.args in
    let z : (6 + c.node_size.result * a.i) + 20 - (6 + c.node_size.result * a.i) ≡ 20 = omega arith in
    let n : c.node_size-n.result - 20 - 0 ≡ node_size a.version - 20 = omega (arith, c.node_size-n.ensures.value) in
    node_written a.version a.plan.now a.i a.at a.out.now _ _ _ _ c.requires.0 (omega (arith, c.requires.2, node_least a.version))
    (ap₂ (λ (k j : ℕ). take k (drop (6 + j) a.plan.now)) z (start_is (goal.at.returns c).After-node_size))
    (ap (λ (k : ℕ). take k c.test_tail-tail.result) n ∙ (c.test_tail-tail.ensures ∙ ap (λ (m : Node). test_tail a.version m.test) c.node_at-test.ensures))
    c.write_bytes.ensures c.write_bytes-2.ensures
