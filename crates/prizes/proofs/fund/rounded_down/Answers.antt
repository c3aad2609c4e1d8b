use native.Mathlib.Omega.{arith}
use Rattle.reporting.proofs.Codes.{written_next}
use Rattle.prizes.specs.Payments.{share_of}
use Rattle.prizes.proofs.fund.rounded_down.Goals as goal

pub loop-i-preserved : goal.loop-i-preserved
loop-i-preserved c =
    let l = c.loop-i in
    let a = c.args in
    rw (c.from.ensures, l.invariant) (written_next (share_of a.purse) a.shares.now a.pence.now l.i (omega arith) (omega (arith, c.requires.1)))
