use native.Mathlib.Omega.{arith}
use mathlib.Core.Path.{sym}
use Rattle.std.proofs.lemmas.Result.{err_from_is_err_and}
use Rattle.reading.proofs.Acceptance.{accepted}
use Rattle.reading.proofs.PlanBytes.{accepted-passes}
use Rattle.reporting.proofs.Reports.{accepted-input, refused-input}
use Rattle.unnesting.proofs.Demand3.{input-parts}
use Rattle.unnesting.proofs.input.Input.check.Goals as goal

pub invariant_of-result : goal.invariant_of-result
invariant_of-result c =
    let a = c.args in
    let e = sym c.in_ok-known.ensures in
    let i = accepted-input a.set.now a.plan.now _ e in
    record {
      accepted = i.0;
      passed = accepted-passes a.set.now a.plan.now (input-parts a.set.now a.plan.now i.0).1 (λ k. omega (arith, c.type_inv.plan k));
      known = (accepted a.set.now a.plan.now _ e).set_read;
      needed = i.1;
    }

pub returns-in_err-known : goal.returns-in_err-known
returns-in_err-known c =
    let a = c.args in
    let p = err_from_is_err_and c.from_residual.result c.from_residual.ensures.1 in
    rw (p.1, p.2) (refused-input a.set.now a.plan.now _ (sym c.in_err-known.ensures))
