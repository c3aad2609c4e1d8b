use Prim.Native.Nat.{ℕ, ◌<◌}
use native.Mathlib.Omega.{arith}
use mathlib.Core.Path.{◌≡◌, refl, ap, ◌∙◌}
use mathlib.Core.List.{List}
use Rattle.reading.specs.Plan.{nodes_of}
use Rattle.conversion.specs.Helpers.{bytes_written, node_in}
use Rattle.conversion.proofs.Writing.{flat_written}
use Rattle.conversion.proofs.NodeBytes.{test-fit, node_stands, nodes-room, nodes-next, plan-written}
use Rattle.conversion.proofs.plans.write_plan.Goals as goal

pub write_node-requires : goal.write_node-requires
write_node-requires c =
    let a = c.args in
    let l = c.loop-i in
    let h : l.i < nodes_of a.plan.now = omega arith in (
      node_stands a.version a.plan.now c.requires.0 l.i h,
      test-fit a.version a.plan.now c.requires.1 l.i h,
      omega (arith, c.requires.2, nodes-room a.version a.plan.now c.requires.0 l.i h),
    )

pub loop-i-preserved : goal.loop-i-preserved
loop-i-preserved c =
    let a = c.args in
    let l = c.loop-i in
    let h : l.i < nodes_of a.plan.now = omega arith in (
      omega (arith, nodes-next a.version a.plan.now c.requires.0 l.i h, c.node_size-size.ensures.value),
      c.write_node.ensures ∙ (ap (λ (s : List ℕ). bytes_written s l.at (node_in a.version a.plan.now l.i)) l.invariant.1
          ∙ flat_written (node_in a.version a.plan.now) c.write_bytes-2.new.out 6 l.i l.at
          (omega (arith, c.requires.2, nodes-room a.version a.plan.now c.requires.0 l.i h)) l.invariant.0),
    )

pub returns : goal.returns
returns c =
    let a = c.args in
    let l = c.loop-i in
    let q : l.i ≡ nodes_of a.plan.now = omega arith in
    plan-written a.version a.plan.now c.requires.0 a.out.now _ _ _ _ _ l.i (omega (arith, c.requires.2)) c.plan_mark-mark.ensures refl q
    c.write_bytes.ensures c.write_bytes-2.ensures l.invariant.1
