use Prim.Native.Nat.{ℕ, ◌≤◌, ◌-◌}
use mathlib.Core.Path.{◌≡◌, ap, ◌∙◌}
use native.Mathlib.Omega.{arith}
use lib.ListN.{length}
use Rattle.algebra.specs.Lists.{total}
use Rattle.prizes.specs.Payments.{place_pence, left_over, one_each}
use Rattle.prizes.proofs.Funds.{valid_sum, valid_purse}
use Rattle.prizes.proofs.Amounts.{sum-total, floors_within, left-few}
use Rattle.prizes.proofs.Numbers.{fund_accepted}
use Rattle.prizes.proofs.fund.Fund.place_pence.Goals as goal
use Rattle.prizes.proofs.fund.Fund.place_pence.Goals.{After-pence_of, After-rounded_down}

within : (c : After-rounded_down) → total c.rounded_down.new.pence ≤ c.args.self.now.purse
within c = rw c.rounded_down.ensures (floors_within c.args.self.now.purse c.args.self.now.shares.now (valid_sum c.args.self.now.purse c.args.self.now.shares.now (fund_accepted c.args.self.now.purse c.args.self.now.shares.now c.args.self.now.valid)))

left : (c : After-pence_of) → c.args.self.now.purse - c.pence_of.result ≡ left_over c.args.self.now.purse c.args.self.now.shares.now
left c = ap (λ (k : ℕ). c.args.self.now.purse - k) (c.pence_of.ensures ∙ (sum-total c.rounded_down.new.pence ∙ ap total c.rounded_down.ensures))

pub pence_of-requires : goal.pence_of-requires
pence_of-requires c = omega (arith, sum-total c.rounded_down.new.pence, within (goal.at.pence_of-requires c).After-rounded_down, valid_purse c.args.self.now.purse c.args.self.now.shares.now (fund_accepted c.args.self.now.purse c.args.self.now.shares.now c.args.self.now.valid))

pub overflow_sub-left : goal.overflow_sub-left
overflow_sub-left c = omega (arith, c.pence_of.ensures, sum-total c.rounded_down.new.pence, within (goal.at.overflow_sub-left c).After-rounded_down)

pub one_each-requires : goal.one_each-requires
one_each-requires c =
    let f = left-few c.args.self.now.purse c.args.self.now.shares.now (valid_sum c.args.self.now.purse c.args.self.now.shares.now (fund_accepted c.args.self.now.purse c.args.self.now.shares.now c.args.self.now.valid)) in
    (omega (arith, left (goal.at.one_each-requires c).After-pence_of, f, ap length c.rounded_down.ensures), omega (arith, within (goal.at.one_each-requires c).After-rounded_down, valid_purse c.args.self.now.purse c.args.self.now.shares.now (fund_accepted c.args.self.now.purse c.args.self.now.shares.now c.args.self.now.valid)))

pub returns : goal.returns
unfolding place_pence
returns c =
    c.one_each.ensures ∙ (λ i. one_each (left (goal.at.returns c).After-pence_of i) (c.rounded_down.ensures i))
