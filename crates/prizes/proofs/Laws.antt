-- Payments and the club line add up to the purse. Assumes nothing.
use Rattle.std.specs.Prelude.{Result}
use Prim.Native.Nat.{ℕ, zero, suc, ◌+◌, ◌≤◌}
use native.Mathlib.Omega.{arith}
use mathlib.Core.Bool.{Bool, true, false, and-eq-true_iff}
use mathlib.Core.Path.{◌≡◌, refl, sym, ap, ◌∙◌}
use mathlib.Core.List.{List, [], ◌∷◌, ◌++◌, map, map-id}
use lib.IntN.{ℤ, pos, ◌+ℤ◌, pos-+ℤ-pos}
use lib.ListN.{length, take, drop, length-append, length-drop, length-map}
use lib.Seq.{length-take-le}
use Rattle.algebra.specs.Lists.{all, total}
use Rattle.algebra.specs.Cells.{is_number}
use Rattle.algebra.specs.Plans.{Row}
use Rattle.algebra.proofs.Needs.{total-append}
use Rattle.reading.specs.Refusals.{number_of}
use Rattle.reading.specs.Check.{input_refusal}
use Rattle.reading.specs.declared.refusal.Refusal.{Refusal}
use Rattle.reporting.specs.Report.{report_rows, row_count, column_count, rows_number, count_after}
use Rattle.reporting.proofs.Reports.{or-next, accepted-few, few}
use Rattle.prizes.specs.Payments.{place_pence, runs, pool, split, pay_runs, payments, club_line}
use Rattle.prizes.specs.Prize.{player_of, score_of, table_codes, row_payments, prize_line, fund_number, table_number, prize_number, answered_payments, answered_line, Prized}
use Rattle.prizes.specs.Helpers.{first_run}
use Rattle.prizes.specs.Laws.{paid_in, AddsUp}
use Rattle.prizes.specs.declared.answer.Prizes.{Prizes}
use Rattle.prizes.proofs.Amounts.{total-parts, split-length, split-total, places-total}
use Rattle.prizes.proofs.Runs.{run-numbers, run_alone, run-few, paid-first}
use Rattle.prizes.proofs.Funds.{valid_sum, valid_purse}
use Rattle.prizes.proofs.ClubLines.{no_place}

-- ---- the club line

-- places whose scores are numbers add nothing
club-past : (n : ℕ) (scores pence : List ℕ) → n ≤ length scores → all is_number (take n scores) ≡ true → club_line scores pence ≡ club_line (drop n scores) (drop n pence)
unfolding club_line
club-past zero scores pence h e = refl
club-past (suc n) [] pence h e = absurd (omega arith)
club-past (suc n) (s ∷ scores) [] h e = sym (no_place (drop n scores))
club-past (suc n) (s ∷ scores) (p ∷ pence) h e =
    let (number, numbers) = (and-eq-true_iff (is_number s) (all is_number (take n scores))).0 e in
    rw number (omega (arith, club-past n scores pence (omega arith) numbers))

-- a place whose score is no number adds its pence
club-next : (s : ℕ) (scores pence : List ℕ) → is_number s ≡ false → club_line (s ∷ scores) pence ≡ total (take 1 pence) + club_line scores (drop 1 pence)
unfolding club_line
club-next s scores [] e = omega (arith, no_place scores)
club-next s scores (p ∷ pence) e = rw e (omega arith)

-- ---- the first run: its pool and the club line's part are its places' pence
first-adds : (s : ℕ) (scores pence : List ℕ) (n : ℕ) → n ≡ first_run (s ∷ scores)
    → pool (take n (s ∷ scores)) pence + club_line (s ∷ scores) pence ≡ total (take n pence) + club_line (drop n (s ∷ scores)) (drop n pence)
first-adds s scores pence n f = by (is_number s) refl
  where
    few : n ≤ length (s ∷ scores)
    few = omega (arith, run-few (s ∷ scores))

    by : (b : Bool) → is_number s ≡ b
        → pool (take n (s ∷ scores)) pence + club_line (s ∷ scores) pence ≡ total (take n pence) + club_line (drop n (s ∷ scores)) (drop n pence)
    by true e =
        let numbers : all is_number (take n (s ∷ scores)) ≡ true = ap (λ (k : ℕ). all is_number (take k (s ∷ scores))) f ∙ (run-numbers s scores ∙ e) in
        rw (numbers, length-take-le n (s ∷ scores) few, club-past n (s ∷ scores) pence few numbers)
    by false e =
        let one : n ≡ 1 = omega (arith, run_alone s scores e) in
        rw (one, e) (omega (arith, club-next s scores pence e))

-- ---- run by run

-- what holds of no scores, and of scores wherever it holds behind their first run, holds of all scores
run-by-run : (P : List ℕ → List ℕ → Type 0) → ((pence : List ℕ) → P [] pence)
    → ((s : ℕ) (scores pence : List ℕ) → P (drop (first_run (s ∷ scores)) (s ∷ scores)) (drop (first_run (s ∷ scores)) pence) → P (s ∷ scores) pence)
    → (scores pence : List ℕ) → P scores pence
run-by-run P none next scores pence = go (length scores) scores pence (omega arith)
  where
    go : (most : ℕ) (scores pence : List ℕ) → length scores ≤ most → P scores pence
    go zero [] pence h = none pence
    go zero (s ∷ scores) pence h = absurd (omega arith)
    go (suc most) [] pence h = none pence
    go (suc most) (s ∷ scores) pence h =
        next s scores pence (go most _ _ (omega (arith, length-drop (first_run (s ∷ scores)) (s ∷ scores))))

all_paid : (scores pence : List ℕ) → total (payments scores pence) + club_line scores pence ≡ total pence
unfolding runs pay_runs club_line
all_paid scores pence = run-by-run (λ ss ps. total (payments ss ps) + club_line ss ps ≡ total ps) (λ ps. omega arith) next scores pence
  where
    next : (s : ℕ) (scores pence : List ℕ)
        → (let n = first_run (s ∷ scores) in total (payments (drop n (s ∷ scores)) (drop n pence)) + club_line (drop n (s ∷ scores)) (drop n pence) ≡ total (drop n pence))
        → total (payments (s ∷ scores) pence) + club_line (s ∷ scores) pence ≡ total pence
    next s scores pence behind =
        let n : ℕ = first_run (s ∷ scores) in
        let part : ℕ = pool (take n (s ∷ scores)) pence in
        let later : List ℕ = payments (drop n (s ∷ scores)) (drop n pence) in
        let both = simp map-id at (total-append (λ x. x) (split n part) later) in
        omega (arith, ap total (paid-first s scores pence n refl), split-total n part (omega arith), first-adds s scores pence n refl, total-parts n pence)

each_row_lem : (scores pence : List ℕ) → length (payments scores pence) ≡ length scores
unfolding runs pay_runs
each_row_lem scores pence = run-by-run (λ ss ps. length (payments ss ps) ≡ length ss) (λ ps. refl) next scores pence
  where
    next : (s : ℕ) (scores pence : List ℕ)
        → (let n = first_run (s ∷ scores) in length (payments (drop n (s ∷ scores)) (drop n pence)) ≡ length (drop n (s ∷ scores)))
        → length (payments (s ∷ scores) pence) ≡ suc (length scores)
    next s scores pence behind =
        let n : ℕ = first_run (s ∷ scores) in
        ap length (paid-first s scores pence n refl)
        ∙ rw (length-append, split-length) (omega (arith, length-drop n (s ∷ scores), run-few (s ∷ scores)))

pence-add : (scores : List ℕ) (purse : ℕ) (shares : List ℕ) → fund_number purse shares ≡ 0
    → total (payments scores (place_pence purse shares)) + club_line scores (place_pence purse shares) ≡ purse
pence-add scores purse shares e = all_paid scores (place_pence purse shares) ∙ places-total purse shares (valid_sum purse shares e)

-- ---- the codes

table-paid : (rows : List Row) (paid : List ℕ) (rest : List ℤ) → length paid ≡ length rows
    → paid_in (length rows) (table_codes (map player_of rows) paid ++ rest) ≡ pos (total paid)
table-paid [] [] rest e = refl
table-paid [] (x ∷ paid) rest e = absurd (omega arith)
table-paid (row ∷ rows) [] rest e = absurd (omega arith)
table-paid (row ∷ rows) (x ∷ paid) rest e = ap (λ (z : ℤ). pos x +ℤ z) (table-paid rows paid rest (omega arith)) ∙ pos-+ℤ-pos x (total paid)

module _ (set plan : List ℕ) (purse : ℕ) (shares : List ℕ) (room scratch_room : ℕ) where
  -- a call that is not refused had an accepted input and a valid fund
  prize_accepted : prize_number set plan purse shares room scratch_room ≡ 0 → (input_refusal set plan ≡ 0) × (fund_number purse shares ≡ 0)
  unfolding prize_number table_number rows_number
  prize_accepted e =
      let (rows, table) = or-next (rows_number set plan scratch_room) (table_number purse shares (column_count set plan) (row_count set plan) room) e in
      ((or-next (input_refusal set plan) _ rows).0, (or-next (fund_number purse shares) _ table).0)

module _ (set plan : List ℕ) (purse : ℕ) (shares : List ℕ) (out out' : List ℤ) (scratch scratch' : List ℕ) (r : Result Prizes Refusal) where
  codes-add : Prized set plan purse shares out out' scratch scratch' r → number_of r ≡ 0 → paid_in (answered_payments r) out' +ℤ pos (answered_line r) ≡ pos purse
  codes-add p e =
      let none : prize_number set plan purse shares (length out) (length scratch) ≡ 0 = sym p.number ∙ e in
      let fund = (prize_accepted set plan purse shares (length out) (length scratch) none).1 in
      let rows = report_rows set plan in
      let paid = row_payments rows purse shares in
      let line = prize_line rows purse shares in
      rw (p.rows, p.club, p.output, none)
      (ap (λ (z : ℤ). z +ℤ pos line) (table-paid rows paid _ (each_row_lem (map score_of rows) (place_pence purse shares) ∙ length-map rows score_of))
      ∙ (pos-+ℤ-pos (total paid) line ∙ ap pos (pence-add (map score_of rows) purse shares fund)))

  -- at most 4,096 rows, and no more than the largest purse for the club
  pub prized-few : Prized set plan purse shares out out' scratch scratch' r → (answered_payments r ≤ 4096) × (answered_line r ≤ 100000000)
  prized-few p =
      let z : ℕ = prize_number set plan purse shares (length out) (length scratch) in
      let rows = report_rows set plan in
      let a : z ≡ 0 → (input_refusal set plan ≡ 0) × (fund_number purse shares ≡ 0) = prize_accepted set plan purse shares (length out) (length scratch) in
      let line : z ≡ 0 → prize_line rows purse shares ≤ 100000000 =
      λ h. omega (arith, pence-add (map score_of rows) purse shares (a h).1, valid_purse purse shares (a h).1) in
      let n : count_after z (row_count set plan) ≤ 4096 = few z (row_count set plan) 4096 (λ h. (accepted-few set plan (a h).0).0) in
      let c : count_after z (prize_line rows purse shares) ≤ 100000000 = few z (prize_line rows purse shares) 100000000 line in
      (omega (arith, p.rows), omega (arith, p.club))

pub adds_up : AddsUp
adds_up = record { pence_add = pence-add; each_row = each_row_lem; codes_add = codes-add }
