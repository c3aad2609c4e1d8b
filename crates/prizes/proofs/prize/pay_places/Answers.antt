use Prim.Native.Nat.{ℕ, ◌*◌}
use mathlib.Core.Path.{ap, ◌∙◌}
use mathlib.Core.List.{List, ◌++◌}
use native.Mathlib.Omega.{arith}
use lib.ListN.{drop}
use Rattle.prizes.specs.Payments.{payments, club_line}
use Rattle.prizes.specs.Prize.{table_codes}
use Rattle.prizes.specs.Helpers.{players_in, scores_in}
use Rattle.prizes.proofs.Amounts.{places-total}
use Rattle.prizes.proofs.Funds.{valid_sum, valid_purse}
use Rattle.prizes.proofs.Numbers.{fund_accepted}
use Rattle.prizes.proofs.prize.pay_places.Goals as goal

pub invariant_of-places : goal.invariant_of-places
invariant_of-places c =
    let f = c.args.fund.now in
    let e = fund_accepted f.purse f.shares.now f.valid in
    record { few = rw c.place_pence.ensures (omega (arith, places-total f.purse f.shares.now (valid_sum f.purse f.shares.now e), valid_purse f.purse f.shares.now e)) }

pub returns : goal.returns
unfolding players_in scores_in
returns c =
    let s = c.args.standings.now in
    record {
      value = c.club_line.ensures ∙ ap (club_line (scores_in s.rows s.columns s.cells.now)) c.place_pence.ensures;
      out_after = c.pay_rows.ensures ∙ ap (λ (pence : List ℕ). table_codes (players_in s.rows s.columns s.cells.now) (payments (scores_in s.rows s.columns s.cells.now) pence) ++ drop (2 * s.rows) c.args.out.now) c.place_pence.ensures;
    }
