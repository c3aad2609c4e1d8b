use mathlib.Core.Path.{sym, ap, ◌∙◌}
use Rattle.std.specs.Prelude.{Ok}
use Rattle.std.proofs.lemmas.Result.{err_from_is_err_and}
use Rattle.reading.proofs.Acceptance.{plan-count, accepted-as, number-accepted}
use Rattle.conversion.proofs.Outcomes.{turned-input}
use Rattle.conversion.proofs.convert.convert.Goals as goal

pub convert_accepted-requires : goal.convert_accepted-requires
convert_accepted-requires c =
    let a = c.args in
    let e = sym c.in_ok-accepted.ensures in
    let w = accepted-as a.from a.set.now a.plan.now _ e in
    record {
      accepted = number-accepted a.from a.set.now a.plan.now _ e;
      set_read = w.set_read;
      plan_read = w.plan_read ∙ sym (ap Ok (plan-count a.from a.plan.now _ w.plan_read));
      whole = w.whole;
    }

pub returns-in_err-accepted : goal.returns-in_err-accepted
returns-in_err-accepted c =
    let a = c.args in
    let p = err_from_is_err_and c.from_residual.result c.from_residual.ensures.1 in
    rw (p.1, p.2) (turned-input a.from a.to a.set.now a.plan.now a.out_set.now a.out_plan.now _ (sym c.in_err-accepted.ensures))
