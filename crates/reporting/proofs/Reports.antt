-- The reporting call's answer, end by end, and what an accepted input gives the evaluator. Assumes nothing.
use Rattle.std.specs.Prelude.{Ok, Err, Result}
use Prim.Native.Nat.{ℕ, zero, suc, ◌*◌, ◌+◌, ◌≤◌, ◌<◌, min}
use mathlib.Core.Bool.{true, and-eq-true_iff}
use mathlib.Core.Path.{◌≡◌, refl, sym, ap, ap₂, ◌∙◌}
use mathlib.Core.List.{List, [], ◌++◌, map, map-append}
use native.Mathlib.Omega.{arith}
use native.Mathlib.Nat.{zero-mul, mul-le-mul, le_trans}
use lib.IntN.{ℤ}
use lib.ListN.{length, get_or, take, drop, replicate, length-map}
use lib.Seq.{take-add}
use borrow.Author.Tests.{leb-true, lt-ltb, le-ltb}
use Rattle.algebra.specs.Lists.{all, unique, flat_map}
use Rattle.algebra.specs.Plans.{Env, Tables, Plan, eval}
use Rattle.algebra.specs.Names.{introduced}
use Rattle.algebra.specs.Refusals.{byte, need, bound, width, narrow, low, once}
use Rattle.algebra.specs.Rules.{outside}
use Rattle.algebra.proofs.Refusals.{Unrefused, refusal-none, all-root, low_rows}
use Rattle.algebra.proofs.Needs.{extent, rows-within}
use Rattle.reading.specs.TableSet.{tables_of, read_set}
use Rattle.reading.specs.Tree.{plan_of, whole_tree}
use Rattle.reading.specs.Refusals.{refusal_number}
use Rattle.reading.specs.Check.{or_next, set_number, plan_refusal, input_refusal, input_refusal_as, check_of}
use Rattle.reading.specs.declared.input.Accepted.{Accepted}
use Rattle.reading.specs.declared.refusal.Refusal.{Refusal}
use Rattle.reading.specs.declared.refusal.Refusal.TheVariants.{OutputShort, ScratchShort}
use Rattle.reading.specs.declared.version.Version.TheVariants.{Second}
use Rattle.reading.proofs.Acceptance.{number-positive, accepted, number-accepted, number-refused, Listed, listed_next, listed_if, listed-input}
use Rattle.reading.proofs.PlanBytes.{plan_passed}
use Rattle.reporting.specs.Rows.{chunk, env_of, Gives}
use Rattle.reporting.specs.Evaluation.{Ready}
use Rattle.reporting.specs.Report.{report_rows, row_count, column_count, code_of, report_codes, scratch_number, output_number, report_number, count_after, scratch_after, answered_rows, answered_columns, Reported}
use Rattle.reporting.specs.declared.answer.Report.{Report}
use Rattle.reporting.proofs.Chunks.{times_suc, length-chunk}

-- ---- the check's answer and the input's number

pub refused-input : (set plan : List ℕ) (r : Refusal) → check_of set plan ≡ Err r → (input_refusal set plan ≡ refusal_number r) × (0 < refusal_number r)
refused-input set plan r e = (number-refused Second set plan r e, number-positive r)

pub or-next : (a b : ℕ) → or_next a b ≡ 0 → (a ≡ 0) × (b ≡ 0)
or-next zero b e = (refl, e)
or-next (suc a) b e = absurd (omega arith)

pub accepted-input : (set plan : List ℕ) (a : Accepted) → check_of set plan ≡ Ok a → (input_refusal set plan ≡ 0) × (a.need ≡ need (tables_of set) (plan_of plan))
accepted-input set plan a e = (number-accepted Second set plan a e, (accepted set plan a e).needs)

-- ---- the call's number
module _ (set plan : List ℕ) (room scratch_room : ℕ) where
  number-input : (z : ℕ) → 0 < z → input_refusal set plan ≡ z → report_number set plan room scratch_room ≡ z
  unfolding report_number
  number-input zero h e = absurd (omega arith)
  number-input (suc z) h e = rw e

  module _ (a : input_refusal set plan ≡ 0) where
    number_16 : scratch_room < need (tables_of set) (plan_of plan) → report_number set plan room scratch_room ≡ 16
    unfolding report_number
    number_16 h = rw (a, lt-ltb scratch_room (need (tables_of set) (plan_of plan)) h)

    module _ (h : need (tables_of set) (plan_of plan) ≤ scratch_room) where
      number_15 : room < row_count set plan * column_count set plan → report_number set plan room scratch_room ≡ 15
      unfolding report_number
      number_15 l = rw (a, le-ltb scratch_room (need (tables_of set) (plan_of plan)) h, lt-ltb room (row_count set plan * column_count set plan) l)

      number_0 : row_count set plan * column_count set plan ≤ room → report_number set plan room scratch_room ≡ 0
      unfolding report_number
      number_0 l = rw (a, le-ltb scratch_room (need (tables_of set) (plan_of plan)) h, le-ltb room (row_count set plan * column_count set plan) l)

scratch_kept : (z : ℕ) (scratch : List ℕ) → 0 < z → scratch ≡ scratch_after z scratch
scratch_kept zero scratch h = absurd (omega arith)
scratch_kept (suc z) scratch h = refl

-- ---- the ends of the call
module _ (set plan : List ℕ) (out : List ℤ) (scratch : List ℕ) where
  -- a refusal
  refused-by : (k : Refusal) (scratch' : List ℕ) → report_number set plan (length out) (length scratch) ≡ refusal_number k
      → scratch' ≡ scratch_after (input_refusal set plan) scratch → Reported set plan out out scratch scratch' (Err k)
  refused-by k scratch' e s = by (refusal_number k) (number-positive k) e refl
    where
      by : (z : ℕ) → 0 < z → report_number set plan (length out) (length scratch) ≡ z → refusal_number k ≡ z → Reported set plan out out scratch scratch' (Err k)
      by zero h e q = absurd (omega arith)
      by (suc z) h e q = record { number = q ∙ sym e; rows = rw e; columns = rw e; output = rw e; cleared = s }

  -- 1 to 14
  pub turned-back : (k : Refusal) → check_of set plan ≡ Err k → Reported set plan out out scratch scratch (Err k)
  turned-back k e =
      let (f, p) = refused-input set plan k e in
      refused-by k scratch (number-input set plan (length out) (length scratch) (refusal_number k) p f) (scratch_kept (input_refusal set plan) scratch (rw f p))

  -- after every other end scratch is cleared
  module _ (a : input_refusal set plan ≡ 0) where
    pub scratch_short : length scratch < need (tables_of set) (plan_of plan) → Reported set plan out out scratch (replicate (length scratch) 0) (Err ScratchShort)
    scratch_short h = refused-by ScratchShort (replicate (length scratch) 0) (number_16 set plan (length out) (length scratch) a h) (rw a)

    module _ (h : need (tables_of set) (plan_of plan) ≤ length scratch) where
      pub output-short : length out < row_count set plan * column_count set plan → Reported set plan out out scratch (replicate (length scratch) 0) (Err OutputShort)
      output-short l = refused-by OutputShort (replicate (length scratch) 0) (number_15 set plan (length out) (length scratch) a h l) (rw a)

      pub done : (out' : List ℤ) (r : Report) → row_count set plan * column_count set plan ≤ length out → r.rows ≡ row_count set plan → r.columns ≡ column_count set plan
          → out' ≡ report_codes set plan ++ drop (length (report_codes set plan)) out → Reported set plan out out' scratch (replicate (length scratch) 0) (Ok r)
      done out' r l m w o =
          let e = number_0 set plan (length out) (length scratch) a h l in
          record { number = sym e; rows = rw e m; columns = rw e w; output = rw e o; cleared = rw a }

-- what is promised of a scratch that is still to be cleared holds once it is
pub cleared-after : (set plan : List ℕ) (out out' : List ℤ) (scratch scratch' : List ℕ) (n : ℕ) (r : Result Report Refusal) → Reported set plan out out' scratch (replicate (length scratch) 0) r
    → scratch' ≡ replicate n 0 → n ≡ length scratch → Reported set plan out out' scratch scratch' r
cleared-after set plan out out' scratch scratch' n r e c h = record {
  number = e.number;
  rows = e.rows;
  columns = e.columns;
  output = e.output;
  cleared = c ∙ ap (λ (k : ℕ). replicate k 0) h ∙ e.cleared;
}

-- ---- what the evaluator is given
unrefused : (set plan : List ℕ) → input_refusal set plan ≡ 0 → Unrefused (tables_of set) (plan_of plan)
unfolding input_refusal_as
unrefused set plan a = refusal-none (tables_of set) (plan_of plan) (plan_passed set plan (or-next (set_number (read_set set)) (plan_refusal set plan) a).1).unrefused

pub whole-input : (set plan : List ℕ) → input_refusal set plan ≡ 0 → whole_tree plan ≡ true
unfolding input_refusal_as
whole-input set plan a = (plan_passed set plan (or-next (set_number (read_set set)) (plan_refusal set plan) a).1).whole

-- the need has 4,096 cells more than the plan's part
pub ready : (set plan : List ℕ) (cells : ℕ) → input_refusal set plan ≡ 0 → need (tables_of set) (plan_of plan) ≤ cells + 4096 → Ready (tables_of set) (plan_of plan) cells 256
unfolding need once
ready set plan cells a h =
    let u = unrefused set plan a in
    record {
      sound = record {
        narrow_all = u.narrow_all;
        low_all = u.low_all;
        small = ((and-eq-true_iff (unique (introduced (tables_of set) (plan_of plan))) (all byte (introduced (tables_of set) (plan_of plan)))).0 u.introduced_once).1;
        scope = [];
        in_view_all = u.in_view_all;
      };
      room = omega arith;
      bound = refl;
    }

-- ---- what it leaves
flat_chunk : {A : Type 0} (f : ℕ → A) (k w : ℕ) (cells : List ℕ) → flat_map (map f) (chunk k w cells) ≡ map f (take (k * w) cells)
unfolding chunk
flat_chunk f zero w cells = rw zero-mul
flat_chunk f (suc k) w cells =
    ap (λ (l : List _). map f (take w cells) ++ l) (flat_chunk f k w (drop w cells))
    ∙ sym (map-append f (take w cells) (take (k * w) (drop w cells)))
    ∙ ap (map f) (sym (take-add w (k * w) cells) ∙ ap (λ (n : ℕ). take n cells) (sym (times_suc k w)))

-- 256 words of zero are the environment outside of every row
zero-at : (n x : ℕ) → get_or {A = ℕ} (replicate n 0) x 0 ≡ 0
zero-at zero x = refl
zero-at (suc n) zero = refl
zero-at (suc n) (suc x) = zero-at n x

pub zeros_outside : env_of (replicate 256 0) ≡ outside
zeros_outside i x = zero-at 256 x i

pub record Evaluated (set plan cells : List ℕ) (room rows columns : ℕ) : Type 0 where
  pub rows_are : rows ≡ row_count set plan
  pub columns_are : columns ≡ column_count set plan
  pub cells_are : rows * columns ≡ row_count set plan * column_count set plan
  pub most : rows * columns ≤ 131072
  pub inside : rows * columns ≤ room
  pub codes : map code_of (take (rows * columns) cells) ≡ report_codes set plan

pub evaluated : (set plan cells : List ℕ) (room rows columns : ℕ) → input_refusal set plan ≡ 0 → need (tables_of set) (plan_of plan) ≤ room
    → Gives (eval (tables_of set) (plan_of plan) (env_of (replicate 256 0))) (width (tables_of set) (plan_of plan)) (bound (tables_of set) (plan_of plan)) rows cells
    → columns ≡ min (width (tables_of set) (plan_of plan)) 33 → Evaluated set plan cells room rows columns
unfolding need
evaluated set plan cells room rows columns a h g c =
    let T : Tables = tables_of set in
    let p : Plan = plan_of plan in
    let u = unrefused set plan a in
    let thin : width T p ≤ 32 = leb-true _ _ (all-root (narrow T) p u.narrow_all) in
    let few : bound T p ≤ 4096 = leb-true _ _ (all-root (low T) p u.low_all) in
    let w : columns ≡ width T p = omega arith in
    let is : chunk rows (width T p) cells ≡ report_rows set plan = g.is ∙ ap (λ (env : Env). eval T p env) zeros_outside in
    let low : rows * columns ≤ extent T p = mul-le-mul g.few (omega arith) in
    let n : rows ≡ row_count set plan = sym (length-chunk rows (width T p) cells) ∙ ap length is in
    record {
      rows_are = n;
      columns_are = w;
      cells_are = ap₂ ◌*◌ n w;
      most = le_trans low (mul-le-mul few thin);
      inside = omega (arith, rows-within T [] p u.in_view_all);
      codes = sym (flat_chunk code_of rows columns cells) ∙ ap (λ (n : ℕ). flat_map (map code_of) (chunk rows n cells)) w ∙ ap (flat_map (map code_of)) is;
    }

-- the codes of the cells that were written
pub written : (set plan cells : List ℕ) (room rows columns : ℕ) (out out' : List ℤ) → Evaluated set plan cells room rows columns
    → out' ≡ map code_of (take (rows * columns) cells) ++ drop (length (take (rows * columns) cells)) out → out' ≡ report_codes set plan ++ drop (length (report_codes set plan)) out
written set plan cells room rows columns out out' e o =
    let n : length (take (rows * columns) cells) ≡ length (report_codes set plan) = sym (length-map (take (rows * columns) cells) code_of) ∙ ap length e.codes in
    o ∙ ap₂ (λ (l : List ℤ) (k : ℕ). l ++ drop k out) e.codes n

-- ---- the counts of any answer

-- at most 4,096 rows of at most 32 columns
pub accepted-few : (set plan : List ℕ) → input_refusal set plan ≡ 0 → (row_count set plan ≤ 4096) × (column_count set plan ≤ 32)
accepted-few set plan a =
    let T : Tables = tables_of set in
    let p : Plan = plan_of plan in
    let u : Unrefused T p = unrefused set plan a in
    (low_rows T p (all-root (low T) p u.low_all) outside, leb-true _ _ (all-root (narrow T) p u.narrow_all))

-- a refused call counts nothing
pub few : (z n most : ℕ) → (z ≡ 0 → n ≤ most) → count_after z n ≤ most
few zero n most h = h refl
few (suc z) n most h = omega arith

accepted-number : (set plan : List ℕ) (room scratch_room : ℕ) → report_number set plan room scratch_room ≡ 0 → input_refusal set plan ≡ 0
unfolding report_number
accepted-number set plan room scratch_room e = (or-next (input_refusal set plan) _ e).0

pub reported-few : (set plan : List ℕ) (out out' : List ℤ) (scratch scratch' : List ℕ) (r : Result Report Refusal) → Reported set plan out out' scratch scratch' r → (answered_rows r ≤ 4096) × (answered_columns r ≤ 32)
reported-few set plan out out' scratch scratch' r e =
    let z : ℕ = report_number set plan (length out) (length scratch) in
    let k : z ≡ 0 → (row_count set plan ≤ 4096) × (column_count set plan ≤ 32) = λ h. accepted-few set plan (accepted-number set plan (length out) (length scratch) h) in
    let m : count_after z (row_count set plan) ≤ 4096 = few z (row_count set plan) 4096 (λ h. (k h).0) in
    let w : count_after z (column_count set plan) ≤ 32 = few z (column_count set plan) 32 (λ h. (k h).1) in
    (omega (arith, e.rows), omega (arith, e.columns))

-- the call's number is a refusal's, or 0
pub listed-report : (set plan : List ℕ) (room scratch_room : ℕ) → Listed (report_number set plan room scratch_room)
unfolding report_number
listed-report set plan room scratch_room =
    listed_next (input_refusal set plan) (or_next (scratch_number set plan scratch_room) (output_number set plan room)) (listed-input Second set plan)
    (listed_next (scratch_number set plan scratch_room) (output_number set plan room) (listed_if _ ScratchShort) (listed_if _ OutputShort))
