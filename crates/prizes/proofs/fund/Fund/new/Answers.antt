use mathlib.Core.Path.{sym, ◌∙◌}
use borrow.Author.Tests.{ne_eqb}
use Rattle.std.proofs.Common.{rules}
use Rattle.prizes.proofs.Amounts.{sum-total}
use Rattle.prizes.proofs.Numbers.{fund_purse, fund_none, fund_many, fund_sum}
use Rattle.prizes.proofs.fund.Fund.new.Goals as goal
use Rattle.prizes.proofs.fund.Fund.new.Goals.{else-purse-le100000000-via-then-purse-le100000000+then-not-is_empty+then-shares-le20+else-sum_of-eq10000, else-purse-le100000000-via-then-purse-le100000000+then-not-is_empty+else-shares-le20, else-purse-le100000000-via-then-purse-le100000000+else-not-is_empty, else-purse-le100000000-via-else-purse-le100000000}

pub invariant_of-result : goal.invariant_of-result
invariant_of-result c = record { valid = sym (fund_sum c.args.purse c.args.shares.now c.if-purse-le100000000.true (search rules) _ c.if-shares-le20.true (c.sum_of.ensures ∙ sum-total c.args.shares.now)) ∙ rw c.if-sum_of-eq10000.true }

pub returns-else-purse-le100000000-clause-none : goal.returns-else-purse-le100000000-clause-none
returns-else-purse-le100000000-clause-none c =
    let p = c.args.purse in
    let s = c.args.shares.now in
    elim c.else-purse-le100000000.branch [
      | else-purse-le100000000-via-then-purse-le100000000+then-not-is_empty+then-shares-le20+else-sum_of-eq10000 w ↦ sym (fund_sum p s w.if-purse-le100000000.true (search rules) _ w.if-shares-le20.true (w.sum_of.ensures ∙ sum-total s)) ∙ ne_eqb _ _ w.if-sum_of-eq10000.false
      | else-purse-le100000000-via-then-purse-le100000000+then-not-is_empty+else-shares-le20 w ↦ sym (fund_many p s w.if-purse-le100000000.true (search rules) w.if-shares-le20.false)
      | else-purse-le100000000-via-then-purse-le100000000+else-not-is_empty w ↦ sym (fund_none p s w.if-purse-le100000000.true (search rules))
      | else-purse-le100000000-via-else-purse-le100000000 w ↦ sym (fund_purse p s w.if-purse-le100000000.false)
    ]
