use mathlib.Core.Path.{sym, ◌∙◌}
use Rattle.std.proofs.lemmas.Result.{err_from_is_err_and}
use Rattle.reading.proofs.Acceptance.{check_set, check_over-as}
use Rattle.reading.proofs.input.check_as.Goals as goal

pub returns-in_err-tables : goal.returns-in_err-tables
returns-in_err-tables c =
    let a = c.args in
    let p = err_from_is_err_and c.from_residual.result c.from_residual.ensures.1 in
    rw (p.1, p.2) (sym (check_set a.version a.set.now a.plan.now _ (sym c.in_err-tables.ensures)))

pub returns : goal.returns
returns c =
    let a = c.args in
    c.check_plan_as.ensures ∙ check_over-as a.version a.set.now a.plan.now _ (sym c.in_ok-tables.ensures)
