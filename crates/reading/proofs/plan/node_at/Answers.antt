use Prim.Native.Nat.{ℕ, ◌+◌, ◌*◌, ◌/◌, ◌≤◌, ◌<◌}
use native.Mathlib.Omega.{arith}
use native.Mathlib.Nat.{add-sub_cancel_left}
use mathlib.Core.Path.{◌≡◌, ap, ◌∙◌, subst}
use lib.ListN.{length}
use borrow.Author.Tests.{le-leb, lt-leb}
use Rattle.reading.specs.Versions.{node_size}
use Rattle.reading.specs.Plan.{plan_version, test_of, node_of, node_at}
use Rattle.reading.proofs.VersionLaws.{node-fits, node_past}
use Rattle.reading.proofs.plan.node_at.Goals as goal
use Rattle.reading.proofs.plan.node_at.Goals.{After-node_size-size}

-- the size is that of the plan's version
size_is : (c : After-node_size-size) → c.node_size-size.result ≡ node_size (plan_version c.args.plan.now)
size_is c = c.node_size-size.ensures.value ∙ ap node_size c.version_at-version.ensures

fits : (c : After-node_size-size) → let a = c.args in c.node_size-size.result * a.i + c.node_size-size.result ≤ length a.plan.now
fits c =
    let a = c.args in
    rw c.node_size-size.ensures.value (node-fits c.version_at-version.result (length a.plan.now) a.i (subst (λ (k : ℕ). a.i < k) c.nodes_in.ensures c.if-i-nodes_in.true))

pub overflow_mul-at : goal.overflow_mul-at
overflow_mul-at c = omega (arith, fits (goal.at.overflow_mul-at c).After-node_size-size)

pub overflow_add-at : goal.overflow_add-at
overflow_add-at c = omega (arith, fits (goal.at.overflow_add-at c).After-node_size-size)

pub overflow_add-end : goal.overflow_add-end
overflow_add-end c = omega (arith, fits (goal.at.overflow_add-end c).After-node_size-size)

pub returns-then-end-plan : goal.returns-then-end-plan
unfolding node_at
returns-then-end-plan c =
    let a = c.args in
    let z = node_size (plan_version a.plan.now) in
    let h : 6 + z * a.i + z ≤ length a.plan.now = rw (← size_is (goal.at.returns-then-end-plan c).After-node_size-size) (omega arith) in
    rw (le-leb _ _ h) (c.node_of.ensures ∙ rw (c.version_at-version.ensures, size_is (goal.at.returns-then-end-plan c).After-node_size-size, add-sub_cancel_left (6 + z * a.i) z))

pub returns-else-end-plan : goal.returns-else-end-plan
unfolding node_at node_of test_of
returns-else-end-plan c =
    let a = c.args in
    let z = node_size (plan_version a.plan.now) in
    let h : length a.plan.now < 6 + z * a.i + z = rw (← size_is (goal.at.returns-else-end-plan c).After-node_size-size) (omega arith) in
    rw (lt-leb _ _ h)

pub returns-else-i-nodes_in : goal.returns-else-i-nodes_in
unfolding node_at node_of test_of
returns-else-i-nodes_in c =
    let a = c.args in
    let v = plan_version a.plan.now in
    let k : length a.plan.now / node_size v ≤ a.i = rw (← c.version_at-version.ensures, ← c.nodes_in.ensures) c.if-i-nodes_in.false in
    rw (lt-leb _ _ (node_past v (length a.plan.now) a.i k))
