use mathlib.Core.Path.{refl, ◌∙◌}
use Prim.Native.Nat.{◌≤◌}
use native.Mathlib.Omega.{arith}
use Rattle.reporting.specs.Rows.{chunk}
use Rattle.reporting.specs.Index.{slot_of}
use Rattle.reporting.proofs.Chains.{heads_length, build_start, build_turn}
use Rattle.reporting.proofs.index.build.Goals as goal

pub loop-i-init : goal.loop-i-init
loop-i-init c =
    let a = c.args in
    (heads_length c.requires.heads_value.0, refl, build_start (slot_of a.place) (chunk a.k a.w a.rows.now) a.k a.heads.now a.next.now c.requires.heads_value.0)

pub loop-i-preserved : goal.loop-i-preserved
loop-i-preserved c =
    let a = c.args in
    let l = c.loop-i in
    let b = c.bucket-b.result in
    let h = c.link.new.heads in
    let n = c.link.new.next in
    let most : l.i ≤ a.k = omega arith in (
      c.link.auto.heads ∙ l.invariant.0,
      c.link.auto.next ∙ l.invariant.1,
      build_turn a.place a.w a.k a.rows.now l.heads l.next h n l.i b c.loop-i-test.true most (omega (arith, c.requires)) c.bucket-b.ensures.1 (omega (arith, l.invariant.0, c.bucket-b.ensures, c.requires)) (omega (arith, l.invariant.1, c.requires)) c.link.ensures.heads_after c.link.ensures.next_after l.invariant.2,
    )
