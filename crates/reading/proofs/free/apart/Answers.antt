use native.Mathlib.Omega.{arith}
use mathlib.Core.Path.{sym}
use borrow.Author.Tests.{eq-eqb}
use Rattle.reading.proofs.FreeLaws.{flags_meet, flags_apart}
use Rattle.reading.proofs.free.apart.Goals as goal

pub returns-then-other-k-eq1 : goal.returns-then-other-k-eq1
returns-then-other-k-eq1 c =
    let l = c.loop-k in
    record { decides = λ xs ys f g a. sym (flags_meet f g l.k (omega arith) (rw (eq-eqb _ _ c.if-flags-k-eq1.true, eq-eqb _ _ c.if-other-k-eq1.true))) }

pub returns : goal.returns
returns c =
    let l = c.loop-k in
    record { decides = λ xs ys f g a. sym (flags_apart f g a (λ j m. l.invariant j (omega arith))) }
