use Prim.Native.Nat.{◌≤◌}
use native.Mathlib.Omega.{arith}
use native.Mathlib.Nat.{mul-le-mul}
use mathlib.Core.Path.{ap, ◌∙◌}
use Rattle.reading.specs.Versions.{node_size}
use Rattle.reading.proofs.plan.node_part.Goals as goal

pub overflow_mul-at : goal.overflow_mul-at
overflow_mul-at c =
    let h : c.args.i ≤ 63 = omega arith in
    let m = mul-le-mul c.node_size-size.ensures.lower_bound.1 h in
    omega arith

pub overflow_add-at : goal.overflow_add-at
overflow_add-at c =
    let h : c.args.i ≤ 63 = omega arith in
    let m = mul-le-mul c.node_size-size.ensures.lower_bound.1 h in
    omega arith

pub returns : goal.returns
returns c =
    c.head.ensures ∙ rw (c.tail.ensures, c.node_size-size.ensures.value ∙ ap node_size c.version_at.ensures)
