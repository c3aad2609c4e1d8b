use mathlib.Core.Path.{sym}
use Rattle.std.proofs.lemmas.Result.{err_from_is_err_and}
use Rattle.reporting.proofs.Reports.{turned-back, accepted-input, cleared-after}
use Rattle.reporting.proofs.report.report.Goals as goal

pub report_accepted-answer-requires : goal.report_accepted-answer-requires
report_accepted-answer-requires c =
    let a = c.args in
    let i = accepted-input a.set.now a.plan.now _ (sym c.in_ok-accepted.ensures) in
    record { plan_value = i.0; cells_value = i.1 }

pub returns-in_err-accepted : goal.returns-in_err-accepted
returns-in_err-accepted c =
    let a = c.args in
    let p = err_from_is_err_and c.from_residual.result c.from_residual.ensures.1 in
    rw (p.1, p.2) (turned-back a.set.now a.plan.now a.out.now a.scratch.now _ (sym c.in_err-accepted.ensures))

pub returns : goal.returns
returns c =
    let a = c.args in
    let e = c.report_accepted-answer.ensures in
    cleared-after a.set.now a.plan.now a.out.now _ a.scratch.now _ _ _ e c.clear.ensures c.report_accepted-answer.auto.scratch
