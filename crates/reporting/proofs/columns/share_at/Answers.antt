use mathlib.Core.Path.{◌≡◌, ap, ◌∙◌}
use Prim.Native.Nat.{◌*◌, ◌≤◌}
use native.Mathlib.Nat.{mul-le-mul}
use native.Mathlib.Omega.{arith}
use Rattle.algebra.specs.Refusals.{has_region, counted_rows}
use Rattle.algebra.proofs.Needs.{counted-most}
use Rattle.reading.specs.Tree.{operator_of}
use Rattle.reading.proofs.TreeNumbers.{capped_exact}
use Rattle.reporting.specs.Evaluation.{bound_at, width_at, share_at}
use Rattle.reporting.proofs.Soundness.{sound-narrow, sound-low, extent-fits}
use Rattle.reporting.proofs.columns.share_at.Goals as goal
use Rattle.reporting.proofs.columns.share_at.Goals.{After-columns_at}

exact : (c : After-columns_at) → let a = c.args in c.counted_rows-rows.result * c.columns_at.result ≡ share_at a.set.now a.plan.now a.i (operator_of a.node)
exact c =
    let a = c.args in
    let s = c.requires in
    let rows = c.counted_rows-rows.ensures ∙ ap (counted_rows (has_region (operator_of a.node))) (capped_exact _ _ 4096 c.bound_at.ensures (sound-low s)) in
    let wide = capped_exact _ _ 32 c.columns_at.ensures (sound-narrow s) in
    λ j. rows j * wide j

few : (c : After-columns_at) → let a = c.args in share_at a.set.now a.plan.now a.i (operator_of a.node) ≤ 131072
few c =
    let a = c.args in
    let most : share_at a.set.now a.plan.now a.i (operator_of a.node) ≤ bound_at a.set.now a.plan.now a.i * width_at a.set.now a.plan.now a.i =
    mul-le-mul (counted-most (has_region (operator_of a.node)) (bound_at a.set.now a.plan.now a.i)) (omega arith) in
    omega (arith, most, extent-fits c.requires)

pub overflow_mul-result : goal.overflow_mul-result
overflow_mul-result c = omega (arith, exact (goal.at.overflow_mul-result c).After-columns_at, few (goal.at.overflow_mul-result c).After-columns_at)

pub returns : goal.returns
returns c = (exact (goal.at.returns c).After-columns_at, omega (arith, exact (goal.at.returns c).After-columns_at, few (goal.at.returns c).After-columns_at))
