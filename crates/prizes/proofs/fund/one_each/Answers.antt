use mathlib.Core.Path.{◌≡◌, sym, ap, ◌∙◌}
use native.Mathlib.Omega.{arith}
use lib.ListN.{get_or}
use Rattle.prizes.proofs.Amounts.{one-each-none, one-each-next, one-each-left, total-below}
use mathlib.Core.List.{List}
use Prim.Native.Nat.{ℕ}
use Rattle.prizes.proofs.fund.one_each.Goals as goal

pub loop-i-init : goal.loop-i-init
loop-i-init c = sym (one-each-none c.args.pence.now)

pub overflow_add-pence : goal.overflow_add-pence
overflow_add-pence c =
    let l = c.loop-i in
    let p = c.args.pence.now in
    let e : get_or l.pence l.i 0 ≡ get_or p l.i 0 = ap (λ (xs : List ℕ). get_or xs l.i 0) l.invariant ∙ one-each-left l.i p l.i (omega arith) in
    omega (arith, e, total-below p l.i, c.requires.1)

pub loop-i-preserved : goal.loop-i-preserved
loop-i-preserved c =
    let l = c.loop-i in
    let p = c.args.pence.now in
    rw l.invariant (one-each-next l.i p (omega (arith, c.requires.0)))
