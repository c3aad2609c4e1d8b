use mathlib.Core.Path.{◌≡◌}
use native.Mathlib.Omega.{arith}
use borrow.Author.Rules.{rules}
use Rattle.std.specs.List.{sum}
use Rattle.prizes.proofs.Amounts.{sum-total, total-few}
use Rattle.prizes.proofs.fund.sum_of.Goals as goal

pub returns : goal.returns
returns c =
    let shares = c.args.shares.now in
    let summed : c.sum.result ≡ sum c.args.shares.now = search rules in
    omega (arith, summed, sum-total shares, total-few shares c.type_inv.shares)
