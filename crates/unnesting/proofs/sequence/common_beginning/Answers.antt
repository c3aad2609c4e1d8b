use native.Mathlib.Omega.{arith}
use Prim.Native.Nat.{ℕ}
use mathlib.Core.Path.{◌≡◌, subst}
use mathlib.Core.Logic.{inr}
use lib.ListN.{take}
use Rattle.unnesting.proofs.SequenceLaws.{common-end, common-whole, common_next}
use Rattle.unnesting.proofs.sequence.common_beginning.Goals as goal

pub returns-then-first-i : goal.returns-then-first-i
returns-then-first-i c =
    let l = c.loop-i in
    common-end c.args.first.now c.args.second.now l.i (omega arith) (omega arith) l.invariant (inr (inr c.if-first-i.true))

pub loop-i-preserved : goal.loop-i-preserved
loop-i-preserved c = common_next c.args.first.now c.args.second.now c.loop-i.i (omega arith) (omega arith) c.if-first-i.false c.loop-i.invariant

pub returns : goal.returns
returns c =
    let l = c.loop-i in
    let e : l.i ≡ c.min-n.result = omega arith in
    common-whole c.args.first.now c.args.second.now _ c.min-n.ensures (subst (λ (k : ℕ). take k c.args.first.now ≡ take k c.args.second.now) e l.invariant)
