use Prim.Native.Nat.{ℕ}
use mathlib.Core.Path.{◌≡◌, ap, ◌∙◌}
use lib.ListN.{length, replicate}
use Rattle.std.proofs.lemmas.Result.{err_from_is_err_and}
use Rattle.reporting.proofs.Given.{standing}
use Rattle.prizes.proofs.Numbers.{prize_refused, prize_paid, stands_in}
use Rattle.prizes.proofs.prize.prize.Goals as goal

pub pay_out-prizes-requires : goal.pay_out-prizes-requires
pay_out-prizes-requires c =
    let a = c.args in
    stands_in a.set.now a.plan.now _ _ _ (standing a.set.now a.plan.now a.scratch.now _ c.in_ok-report.report c.in_ok-report.ensures)

pub returns-in_err-report : goal.returns-in_err-report
returns-in_err-report c =
    let a = c.args in
    let p = err_from_is_err_and c.from_residual.result c.from_residual.ensures.1 in
    rw (p.1, p.2) (prize_refused a.set.now a.plan.now a.purse a.shares.now a.out.now a.scratch.now _ _ c.in_err-report.ensures)

pub returns : goal.returns
returns c =
    let a = c.args in
    let n : length c.rows_at.new.scratch ≡ length a.scratch.now = c.rows_at.auto.scratch in
    prize_paid a.set.now a.plan.now a.purse a.shares.now a.out.now a.scratch.now _ _ _ _ c.in_ok-report.report c.in_ok-report.ensures c.pay_out-prizes.ensures (c.clear.ensures ∙ ap (λ (k : ℕ). replicate k 0) n)
