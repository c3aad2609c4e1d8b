use native.Mathlib.Omega.{arith}
use mathlib.Core.Path.{sym}
use Rattle.std.proofs.lemmas.Result.{err_from_is_err_and}
use Rattle.reporting.proofs.Reports.{accepted-input}
use Rattle.reporting.proofs.Subplans.{turned-input, turned-short, turned_none}
use Rattle.reporting.proofs.subplan.turned_back.Goals as goal

pub returns-in_err-accepted : goal.returns-in_err-accepted
returns-in_err-accepted c =
    let a = c.args in
    let p = err_from_is_err_and c.from_residual.result c.from_residual.ensures.1 in
    let t = turned-input a.set.now a.plan.now a.scratch.now _ (sym c.in_err-accepted.ensures) in
    record { value = rw (p.1, p.2) t.0; scratch_after = t.1 }

pub returns-then-scratch-accepted : goal.returns-then-scratch-accepted
returns-then-scratch-accepted c =
    let a = c.args in
    let k = accepted-input a.set.now a.plan.now _ (sym c.in_ok-accepted.ensures) in
    let t = turned-short a.set.now a.plan.now a.scratch.now k.0 _ (omega (arith, k.1, c.if-scratch-accepted.true)) c.clear.ensures in
    record { value = t.0; scratch_after = t.1 }

pub returns : goal.returns
returns c =
    let a = c.args in
    let k = accepted-input a.set.now a.plan.now _ (sym c.in_ok-accepted.ensures) in
    let t = turned_none a.set.now a.plan.now a.scratch.now k.0 (omega (arith, k.1, c.if-scratch-accepted.false)) in
    record { value = t.0; scratch_after = t.1 }
