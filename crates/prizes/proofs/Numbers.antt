-- The call's number and its whole answer, end by end. Assumes nothing.
use Rattle.std.specs.Prelude.{Result, Ok, Err}
use Prim.Native.Nat.{ℕ, zero, suc, ◌*◌, ◌≤◌, ◌<◌}
use native.Mathlib.Omega.{arith}
use mathlib.Core.Bool.{true, false}
use mathlib.Core.Path.{◌≡◌, refl, sym, ap, ap₂, ◌∙◌}
use mathlib.Core.List.{List, ◌++◌, map}
use lib.Dec.{eqb}
use lib.IntN.{ℤ}
use lib.ListN.{length, drop, replicate, length-map}
use borrow.Author.Tests.{le-leb, lt-leb, lt-ltb, le-ltb}
use Rattle.algebra.specs.Lists.{total}
use Rattle.reading.specs.Tree.{plan_of}
use Rattle.reading.specs.Refusals.{refusal_number}
use Rattle.reading.specs.Check.{input_refusal}
use Rattle.reading.specs.declared.refusal.Refusal.{Refusal}
use Rattle.reading.specs.declared.refusal.Refusal.TheVariants.{OutputShort, Shares, FewColumns}
use Rattle.reading.proofs.Acceptance.{number-positive}
use Rattle.reporting.specs.Rows.{chunk}
use Rattle.reporting.specs.Report.{scratch_number, scratch_after, rows_number, rows_left, tree_cells, count_after, output_after, RowsGiven}
use Rattle.reporting.specs.declared.answer.Report.{Report}
use Rattle.reporting.proofs.Subplans.{not-turned}
use Rattle.reporting.proofs.Chunks.{length-chunk}
use Rattle.reporting.proofs.Given.{Standing, standing}
use Rattle.prizes.specs.Payments.{place_pence}
use Rattle.prizes.specs.Prize.{score_of, row_payments, prize_table, prize_line, valid_fund, fund_number, table_number, prize_number, Prized}
use Rattle.prizes.specs.Helpers.{InCells, players_in, PaidOut}
use Rattle.prizes.specs.declared.answer.Prizes.{Prizes}
use Rattle.prizes.proofs.RowsInCells.{players-length}
use Rattle.prizes.proofs.Tables.{table-length}
use Rattle.prizes.proofs.Laws.{adds_up}

-- ---- whether a fund is valid
module _ (purse : ℕ) (shares : List ℕ) where
  pub fund_purse : 100000000 < purse → false ≡ valid_fund purse shares
  fund_purse h = rw (lt-leb purse 100000000 h)

  module _ (p : purse ≤ 100000000) where
    pub fund_none : length shares < 1 → false ≡ valid_fund purse shares
    fund_none h = rw (le-leb purse 100000000 p, lt-leb 1 (length shares) h)

    module _ (l : 1 ≤ length shares) where
      pub fund_many : 20 < length shares → false ≡ valid_fund purse shares
      fund_many h = rw (le-leb purse 100000000 p, le-leb 1 (length shares) l, lt-leb (length shares) 20 h)

      pub fund_sum : (sum : ℕ) → length shares ≤ 20 → sum ≡ total shares → eqb sum 10000 ≡ valid_fund purse shares
      fund_sum sum h e = rw (le-leb purse 100000000 p, le-leb 1 (length shares) l, le-leb (length shares) 20 h, e)

-- ---- 17, 18 and 15
module _ (purse : ℕ) (shares : List ℕ) (columns rows room : ℕ) where
  pub number_17 : valid_fund purse shares ≡ false → table_number purse shares columns rows room ≡ refusal_number Shares
  unfolding table_number fund_number
  number_17 e = rw e

  module _ (v : valid_fund purse shares ≡ true) where
    pub number_18 : columns < 2 → table_number purse shares columns rows room ≡ refusal_number FewColumns
    unfolding table_number fund_number
    number_18 h = rw (v, lt-ltb columns 2 h)

    module _ (w : 2 ≤ columns) where
      pub number_15 : room < 2 * rows → table_number purse shares columns rows room ≡ refusal_number OutputShort
      unfolding table_number fund_number
      number_15 h = rw (v, le-ltb columns 2 w, lt-ltb room (2 * rows) h)

      pub number_0 : 2 * rows ≤ room → table_number purse shares columns rows room ≡ 0
      unfolding table_number fund_number
      number_0 h = rw (v, le-ltb columns 2 w, le-ltb room (2 * rows) h)

pub fund_accepted : (purse : ℕ) (shares : List ℕ) → valid_fund purse shares ≡ true → fund_number purse shares ≡ 0
unfolding fund_number
fund_accepted purse shares e = rw e

-- ---- the answer about rows that stand in cells

-- two codes a row
table-codes : (rows w : ℕ) (cells : List ℕ) (purse : ℕ) (shares : List ℕ) → length (prize_table (chunk rows w cells) purse shares) ≡ 2 * rows
unfolding players_in
table-codes rows w cells purse shares =
    let n = length-map (chunk rows w cells) score_of in
    let m : length (players_in rows w cells) ≡ rows = players-length rows w cells in
    let k = adds_up.each_row (map score_of (chunk rows w cells)) (place_pence purse shares) in
    table-length (players_in rows w cells) (row_payments (chunk rows w cells) purse shares) (omega (arith, n, m, k, length-chunk rows w cells)) ∙ ap (λ (x : ℕ). 2 * x) m

module _ (rows w : ℕ) (cells : List ℕ) (purse : ℕ) (shares : List ℕ) (out : List ℤ) where
  pub paid-refused : (k : Refusal) → table_number purse shares w rows (length out) ≡ refusal_number k → PaidOut rows w cells purse shares out out (Err k)
  paid-refused k e = by (refusal_number k) (number-positive k) e refl
    where
      by : (z : ℕ) → 0 < z → table_number purse shares w rows (length out) ≡ z → refusal_number k ≡ z → PaidOut rows w cells purse shares out out (Err k)
      by zero h e q = absurd (omega arith)
      by (suc z) h e q = record { number = q ∙ sym e; rows_paid = rw e; club = rw e; output = rw e }

  pub paid-done : (out' : List ℤ) (r : Prizes) → table_number purse shares w rows (length out) ≡ 0 → r.rows ≡ rows
      → r.club ≡ prize_line (chunk rows w cells) purse shares → out' ≡ prize_table (chunk rows w cells) purse shares ++ drop (2 * rows) out
      → PaidOut rows w cells purse shares out out' (Ok r)
  paid-done out' r e n c o =
      let table : List ℤ = prize_table (chunk rows w cells) purse shares in
      record { number = sym e; rows_paid = rw e n; club = rw e c; output = rw e (o ∙ ap (λ (k : ℕ). table ++ drop k out) (sym (table-codes rows w cells purse shares))) }

-- ---- the answer of the call
module _ (set plan : List ℕ) (purse : ℕ) (shares : List ℕ) (out : List ℤ) (scratch : List ℕ) where
  -- a report that is refused: its scratch is as the call leaves it
  scratch_left : (z s : ℕ) (cells : List ℕ) → input_refusal set plan ≡ z → scratch_number set plan (length scratch) ≡ s → (rows_number set plan (length scratch) ≡ 0 → ⊥)
      → rows_left z s cells scratch ≡ scratch_after z scratch
  unfolding rows_number
  scratch_left zero zero cells e f h = absurd (h (rw (e, f)))
  scratch_left zero (suc s) cells e f h = refl
  scratch_left (suc z) s cells e f h = refl

  by_number : (z : ℕ) → rows_number set plan (length scratch) ≡ z → 0 < z → prize_number set plan purse shares (length out) (length scratch) ≡ z
  unfolding prize_number
  by_number zero e h = absurd (omega arith)
  by_number (suc z) e h = rw e

  refused-by : (k : Refusal) (scratch' : List ℕ) → prize_number set plan purse shares (length out) (length scratch) ≡ refusal_number k
      → scratch' ≡ scratch_after (input_refusal set plan) scratch → Prized set plan purse shares out out scratch scratch' (Err k)
  refused-by k scratch' e s = by (refusal_number k) (number-positive k) e refl
    where
      by : (z : ℕ) → 0 < z → prize_number set plan purse shares (length out) (length scratch) ≡ z → refusal_number k ≡ z
          → Prized set plan purse shares out out scratch scratch' (Err k)
      by zero h e q = absurd (omega arith)
      by (suc z) h e q = record { number = q ∙ sym e; rows = rw e; club = rw e; output = rw e; cleared = s }

  pub prize_refused : (scratch' : List ℕ) (k : Refusal) → RowsGiven set plan (plan_of plan) scratch scratch' (Err k)
      → Prized set plan purse shares out out scratch scratch' (Err k)
  prize_refused scratch' k g =
      let p : 0 < refusal_number k = number-positive k in
      refused-by k scratch' (by_number (refusal_number k) (sym g.number) p)
      (g.cells ∙ scratch_left (input_refusal set plan) (scratch_number set plan (length scratch)) (tree_cells set (plan_of plan)) refl refl (λ z. omega (arith, p, g.number ∙ z)))

  -- a report that stands
  pub prize_paid : (r : Result Prizes Refusal) (cells scratch' : List ℕ) (out' : List ℤ) (report : Report) → RowsGiven set plan (plan_of plan) scratch cells (Ok report)
      → PaidOut report.rows report.columns cells purse shares out out' r → scratch' ≡ replicate (length scratch) 0
      → Prized set plan purse shares out out' scratch scratch' r
  unfolding prize_number
  prize_paid r cells scratch' out' report g p s =
      let stands = standing set plan scratch cells report g in
      let n : rows_number set plan (length scratch) ≡ 0 = sym g.number in
      let a : input_refusal set plan ≡ 0 = (not-turned set plan scratch n).0 in
      let t : table_number purse shares report.columns report.rows (length out) ≡ prize_number set plan purse shares (length out) (length scratch) =
      (λ i. table_number purse shares (stands.width i) (stands.count i) (length out)) ∙ sym (rw n) in
      record {
        number = p.number ∙ t;
        rows = p.rows_paid ∙ ap₂ count_after t stands.count;
        club = p.club ∙ ap₂ count_after t (ap (λ rows. prize_line rows purse shares) stands.are);
        output = p.output ∙ (λ i. output_after (t i) (prize_table (stands.are i) purse shares) out);
        cleared = rw a s;
      }

-- what `pay_out` asks of a report that stands
pub stands_in : (set plan cells : List ℕ) (rows w : ℕ) → Standing set plan rows w cells → InCells rows w cells
stands_in set plan cells rows w s = record { inside = s.inside; few = s.few; narrow = s.thin }
