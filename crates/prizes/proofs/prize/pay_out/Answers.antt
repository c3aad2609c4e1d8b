use Rattle.std.specs.Prelude.{Err}
use Rattle.std.specs.Option.{ok_or}
use Rattle.std.proofs.lemmas.Result.{IfErr-at_err, err_from_is_err_and}
use mathlib.Core.Path.{◌≡◌, refl, sym, ap₂, ◌∙◌}
use mathlib.Core.Bool.{true, false}
use Rattle.reading.specs.declared.refusal.Refusal.TheVariants.{OutputShort, Shares, FewColumns}
use Rattle.prizes.specs.Prize.{valid_fund}
use Rattle.prizes.proofs.Numbers.{number_17, number_18, number_15, number_0, paid-refused, paid-done}
use Rattle.prizes.proofs.prize.pay_out.Goals as goal
use Rattle.prizes.proofs.prize.pay_out.Goals.{In_ok-fund}

given : (c : In_ok-fund) → (c.in_ok-fund.fund.purse ≡ c.args.purse) × (c.in_ok-fund.fund.shares.now ≡ c.args.shares.now)
given c = rw c.in_ok-fund.ensures.ok_part at c.new.ensures.some

valid : (c : In_ok-fund) → valid_fund c.args.purse c.args.shares.now ≡ true
valid c = let s = given c in ap₂ valid_fund (sym s.0) (sym s.1) ∙ c.in_ok-fund.fund.valid

pub returns-in_err-fund : goal.returns-in_err-fund
returns-in_err-fund c =
    let a = c.args in
    let p = err_from_is_err_and c.from_residual.result c.from_residual.ensures.1 in
    let invalid : valid_fund a.purse a.shares.now ≡ false = rw c.in_err-fund.ensures.ok_part at c.new.ensures.none in
    let e : Err c.in_err-fund.field-0.0 ≡ ok_or _ Shares = c.in_err-fund.ensures.value in
    let shares : c.in_err-fund.field-0.0 ≡ Shares = IfErr-at_err (λ k. k ≡ Shares) (sym (rw c.in_err-fund.ensures.ok_part at e)) refl in
    rw (p.1, p.2, shares) (paid-refused a.rows a.columns a.cells.now a.purse a.shares.now a.out.now Shares (number_17 _ _ _ _ _ invalid))

pub returns-then-columns-lt2 : goal.returns-then-columns-lt2
returns-then-columns-lt2 c =
    let a = c.args in
    paid-refused a.rows a.columns a.cells.now a.purse a.shares.now a.out.now FewColumns (number_18 _ _ _ _ _ (valid (goal.at.returns-then-columns-lt2 c).In_ok-fund) c.if-columns-lt2.true)

pub returns-then-out-rows : goal.returns-then-out-rows
returns-then-out-rows c =
    let a = c.args in
    paid-refused a.rows a.columns a.cells.now a.purse a.shares.now a.out.now OutputShort (number_15 _ _ _ _ _ (valid (goal.at.returns-then-out-rows c).In_ok-fund) c.if-columns-lt2.false c.if-out-rows.true)

pub returns : goal.returns
returns c =
    let a = c.args in
    let s = given (goal.at.returns c).In_ok-fund in
    paid-done a.rows a.columns a.cells.now a.purse a.shares.now a.out.now _ _ (number_0 _ _ _ _ _ (valid (goal.at.returns c).In_ok-fund) c.if-columns-lt2.false c.if-out-rows.false) refl
    (rw (sym s.0, sym s.1) c.pay_places-club.ensures.value) (rw (sym s.0, sym s.1) c.pay_places-club.ensures.out_after)
