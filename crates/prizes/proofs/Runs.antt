-- Runs of equal scores: the first run and what is behind it, and what its rows are paid. Assumes nothing.
use Rattle.std.specs.Prelude.{if◌then◌else◌}
use Prim.Native.Nat.{ℕ, suc, ◌+◌, ◌-◌, ◌≤◌, ◌<◌}
use native.Mathlib.Omega.{arith}
use native.Mathlib.Numerals.{add-one}
use borrow.Author.Tests.{eqb-true}
use mathlib.Core.Bool.{Bool, true, false, ◌&&◌}
use mathlib.Core.Path.{◌≡◌, refl, sym, ap, ◌∙◌, subst}
use mathlib.Core.List.{List, [], ◌∷◌, ◌++◌}
use lib.Dec.{eqb}
use lib.ListN.{length, take, drop, get_or, drop_of_length-le}
use lib.Seq.{length-take-le, drop-cons}
use Rattle.algebra.specs.Lists.{all, total}
use Rattle.algebra.specs.Cells.{is_number, one_blank, compares}
use Rattle.prizes.specs.Payments.{tied, joined, runs, pool, split, pay_runs, payments}
use Rattle.prizes.specs.Helpers.{tied_with, first_run}

-- ---- equal scores are one number

both : (a b x o : Bool) → (if a && b then x else (o && false)) ≡ true → (a ≡ true) × (b ≡ true) × (x ≡ true)
both true true x o e = (refl, refl, e)
both true false x true e = let z : ◌≡◌ {A = ℕ} 0 1 = cc in absurd (omega arith)
both true false x false e = let z : ◌≡◌ {A = ℕ} 0 1 = cc in absurd (omega arith)
both false b x true e = let z : ◌≡◌ {A = ℕ} 0 1 = cc in absurd (omega arith)
both false b x false e = let z : ◌≡◌ {A = ℕ} 0 1 = cc in absurd (omega arith)

tied-numbers : (a b : ℕ) → tied a b ≡ true → (is_number a ≡ true) × (is_number b ≡ true) × (a ≡ b)
unfolding compares
tied-numbers a b e = let k = both (is_number a) (is_number b) (eqb a b) (one_blank a b) e in (k.0, k.1, eqb-true a b k.2)

-- ---- how many scores are tied with the first

tied-next : (s t : ℕ) (scores : List ℕ) → tied s t ≡ true → tied_with s (t ∷ scores) ≡ suc (tied_with s scores)
unfolding tied_with
tied-next s t scores e = rw e

tied-ends : (s t : ℕ) (scores : List ℕ) → tied s t ≡ false → tied_with s (t ∷ scores) ≡ 0
unfolding tied_with
tied-ends s t scores e = rw e

pub tied-few : (s : ℕ) (scores : List ℕ) → tied_with s scores ≤ length scores
unfolding tied_with
tied-few s [] = omega arith
tied-few s (t ∷ scores) = by (tied s t) refl (tied-few s scores)
  where
    by : (b : Bool) → tied s t ≡ b → tied_with s scores ≤ length scores → tied_with s (t ∷ scores) ≤ suc (length scores)
    by true e h = omega (arith, tied-next s t scores e)
    by false e h = omega (arith, tied-ends s t scores e)

-- the scores of a run behind its first are numbers
tied-all : (s : ℕ) (scores : List ℕ) → all is_number (take (tied_with s scores) scores) ≡ true
unfolding tied_with
tied-all s [] = refl
tied-all s (t ∷ scores) = by (tied s t) refl (tied-all s scores)
  where
    by : (b : Bool) → tied s t ≡ b → all is_number (take (tied_with s scores) scores) ≡ true → all is_number (take (tied_with s (t ∷ scores)) (t ∷ scores)) ≡ true
    by true e h = rw (tied-next s t scores e, (tied-numbers s t e).1) h
    by false e h = rw (tied-ends s t scores e)

and-true : (b : Bool) → (b && true) ≡ b
and-true true = refl
and-true false = refl

-- .. so all of them are where the first is
pub run-numbers : (s : ℕ) (scores : List ℕ) → all is_number (take (first_run (s ∷ scores)) (s ∷ scores)) ≡ is_number s
run-numbers s scores = ap (λ (b : Bool). is_number s && b) (tied-all s scores) ∙ and-true (is_number s)

-- a score that is no number is a run by itself
pub run_alone : (s : ℕ) (scores : List ℕ) → is_number s ≡ false → tied_with s scores ≡ 0
unfolding tied_with
run_alone s [] e = refl
run_alone s (t ∷ scores) e = by (tied s t) refl
  where
    by : (b : Bool) → tied s t ≡ b → tied_with s (t ∷ scores) ≡ 0
    by true f = let z : ◌≡◌ {A = ℕ} 0 1 = (let k = sym (tied-numbers s t f).0 ∙ e in cc) in absurd (omega arith)
    by false f = tied-ends s t scores f

-- ---- the first run, and the runs behind it

pub first_run_lem : (s : ℕ) (scores : List ℕ) → runs (s ∷ scores) ≡ take (first_run (s ∷ scores)) (s ∷ scores) ∷ runs (drop (first_run (s ∷ scores)) (s ∷ scores))
unfolding runs tied_with
first_run_lem s [] = refl
first_run_lem s (t ∷ scores) = ap (joined s) (first_run_lem t scores) ∙ by (tied s t) refl (first_run_lem t scores)
  where
    later : List (List ℕ)
    later = runs (drop (tied_with t scores) scores)

    front : List ℕ
    front = take (tied_with t scores) scores

    by : (b : Bool) → tied s t ≡ b → runs (t ∷ scores) ≡ (t ∷ front) ∷ later
        → joined s ((t ∷ front) ∷ later) ≡ take (first_run (s ∷ t ∷ scores)) (s ∷ t ∷ scores) ∷ runs (drop (first_run (s ∷ t ∷ scores)) (s ∷ t ∷ scores))
    by true e h =
        let same : tied_with t scores ≡ tied_with s scores = ap (λ (x : ℕ). tied_with x scores) (sym (tied-numbers s t e).2) in
        rw (e, same)
    by false e h = rw e (ap (λ (l : List (List ℕ)). (s ∷ []) ∷ l) (sym h))

pub run-few : (scores : List ℕ) → first_run scores ≤ length scores
run-few [] = omega arith
run-few (s ∷ scores) = omega (arith, tied-few s scores)

-- what the first run is paid, and what the rows behind it are
pub paid-first : (s : ℕ) (scores pence : List ℕ) (n : ℕ) → n ≡ first_run (s ∷ scores)
    → payments (s ∷ scores) pence ≡ split n (pool (take n (s ∷ scores)) pence) ++ payments (drop n (s ∷ scores)) (drop n pence)
unfolding pay_runs
paid-first s scores pence n e =
    let long : length (take n (s ∷ scores)) ≡ n = length-take-le n (s ∷ scores) (omega (arith, e, run-few (s ∷ scores))) in
    let first : runs (s ∷ scores) ≡ take n (s ∷ scores) ∷ runs (drop n (s ∷ scores)) = first_run_lem s scores ∙ ap (λ (k : ℕ). take k (s ∷ scores) ∷ runs (drop k (s ∷ scores))) (sym e) in
    ap (λ (l : List (List ℕ)). pay_runs l pence) first
    ∙ ap (λ (k : ℕ). split k (pool (take n (s ∷ scores)) pence) ++ pay_runs (runs (drop n (s ∷ scores))) (drop k pence)) long

-- .. the same from a row on
pub paid-from : (scores pence : List ℕ) (i n : ℕ) → i < length scores → n ≡ first_run (drop i scores)
    → payments (drop i scores) (drop i pence) ≡ split n (pool (take n (drop i scores)) (drop i pence)) ++ payments (drop n (drop i scores)) (drop n (drop i pence))
paid-from scores pence i n h e =
    let c = drop-cons scores i 0 h in
    subst (λ (l : List ℕ). n ≡ first_run l → payments l (drop i pence) ≡ split n (pool (take n l) (drop i pence)) ++ payments (drop n l) (drop n (drop i pence))) (sym c)
    (λ k. paid-first (get_or scores i 0) (drop (suc i) scores) (drop i pence) n k) e

-- ---- the first run, row by row

module _ (scores : List ℕ) where
  -- from a row on
  pub run-starts : (from s : ℕ) → from < length scores → s ≡ get_or scores from 0 → from + first_run (drop from scores) ≡ from + 1 + tied_with s (drop (from + 1) scores)
  run-starts from s h e =
      let c : first_run (drop from scores) ≡ suc (tied_with (get_or scores from 0) (drop (suc from) scores)) = ap first_run (drop-cons scores from 0 h) in
      let n : tied_with s (drop (from + 1) scores) ≡ tied_with (get_or scores from 0) (drop (suc from) scores) = (λ i. tied_with (e i) (drop (add-one from i) scores)) in
      omega (arith, c, n)

  -- a row more, the row behind the last of the run, and no row more
  pub run-goes-on : (i s : ℕ) → i < length scores → tied s (get_or scores i 0) ≡ true → i + tied_with s (drop i scores) ≡ i + 1 + tied_with s (drop (i + 1) scores)
  run-goes-on i s h e =
      let c : tied_with s (drop i scores) ≡ suc (tied_with s (drop (suc i) scores)) = ap (tied_with s) (drop-cons scores i 0 h) ∙ tied-next s (get_or scores i 0) (drop (suc i) scores) e in
      let n : tied_with s (drop (i + 1) scores) ≡ tied_with s (drop (suc i) scores) = ap (λ (k : ℕ). tied_with s (drop k scores)) (add-one i) in
      omega (arith, c, n)

  pub run-stops : (i s : ℕ) → i < length scores → tied s (get_or scores i 0) ≡ false → tied_with s (drop i scores) ≡ 0
  run-stops i s h e = ap (tied_with s) (drop-cons scores i 0 h) ∙ tied-ends s (get_or scores i 0) (drop (suc i) scores) e

  pub run-over : (i s : ℕ) → length scores ≤ i → tied_with s (drop i scores) ≡ 0
  unfolding tied_with
  run-over i s h = ap (tied_with s) (drop_of_length-le scores {i = i} h)

  -- ---- the pool of a run that begins with row `from` and ends before row `to`
  module _ (pence : List ℕ) (from to : ℕ) (h : from < length scores) (e : to ≡ from + first_run (drop from scores)) where
    abbrev run : List ℕ
    run = take (to - from) (drop from scores)

    run_long : length run ≡ to - from
    run_long = length-take-le (to - from) (drop from scores) (omega (arith, e, run-few (drop from scores)))

    run-all : all is_number run ≡ is_number (get_or scores from 0)
    run-all =
        let n : to - from ≡ first_run (drop from scores) = omega (arith, e) in
        let c = drop-cons scores from 0 h in
        ap (λ (k : ℕ). all is_number (take k (drop from scores))) n
        ∙ (ap (λ (l : List ℕ). all is_number (take (first_run l) l)) c ∙ run-numbers (get_or scores from 0) (drop (suc from) scores))

    pub pool-none : is_number (get_or scores from 0) ≡ false → 0 ≡ pool (take (to - from) (drop from scores)) (drop from pence)
    pool-none k = rw (run-all ∙ k)

    pub pool-whole : is_number (get_or scores from 0) ≡ true → total (take (to - from) (drop from pence)) ≡ pool (take (to - from) (drop from scores)) (drop from pence)
    pool-whole k = rw (run-all ∙ k, run_long)
