-- The numbers of an unnesting or stay note answer are small, so that they fit a word of 64 bits together. Assumes nothing.
use Rattle.std.specs.Prelude.{Option as Answer, None as Nothing, Some, Result, Ok, Err}
use Prim.Native.Nat.{ℕ, zero, suc, ◌-◌, ◌≤◌}
use mathlib.Core.Bool.{true, false, cond}
use mathlib.Core.Path.{◌≡◌, refl, sym, subst}
use mathlib.Core.List.{List}
use mathlib.Core.Option.{Option, none, some}
use native.Mathlib.Omega.{arith}
use lib.Dec.{ltb}
use lib.ListN.{length}
use Rattle.algebra.specs.Lists.{all}
use Rattle.algebra.specs.Plans.{Tables, cross, semi, quant, fold, each, pair, Plan, leaf, one, two}
use Rattle.algebra.specs.Places.{size, subtrees, modify, look}
use Rattle.algebra.specs.Refusals.{low}
use Rattle.algebra.specs.Rules.{outside, fresh}
use Rattle.algebra.specs.Steps.{accepted}
use Rattle.algebra.specs.StayNotes.{Sequences, nothing, sequences_of, stays, noted, note_at}
use Rattle.algebra.proofs.Refusals.{all-root, all_child, all_left, all_right, refusal-low, low_rows}
use Rattle.algebra.proofs.Steps.{run_3, run_length, weight-size}
use Rattle.algebra.proofs.StayNotes.{first-within}
use Rattle.reading.specs.TableSet.{tables_of}
use Rattle.reading.specs.Tree.{plan_of}
use Rattle.reading.specs.Check.{input_refusal}
use Rattle.reading.specs.declared.refusal.Refusal.{Refusal}
use Rattle.reading.proofs.PlanBytes.{plan_passed}
use Rattle.reading.proofs.Places.{whole-size}
use Rattle.reporting.specs.Report.{count_after}
use Rattle.reporting.proofs.Reports.{or-next, few}
use Rattle.unnesting.specs.Unnest.{unnest_steps, unnest_number, written_plan, Unnested}
use Rattle.unnesting.specs.StayNote.{stay_number, note_due, position_of, note_after, StayNoted}
use Rattle.unnesting.proofs.Demand3.{input-parts, demand_3}

-- ---- unnesting: at most 192 steps, and a plan of at most 1,542 bytes

module _ (set plan : List ℕ) (a : input_refusal set plan ≡ 0) where
  steps-few : length (unnest_steps set plan) ≤ 192
  steps-few =
      let T : Tables = tables_of set in
      let p : Plan = plan_of plan in
      let passed = plan_passed set plan (input-parts set plan a).1 in
      let small : size p ≤ 64 = omega (arith, whole-size plan passed.whole, passed.known.most) in
      omega (arith, run_length T (run_3 T p), weight-size p)

  bytes-few : length (written_plan set plan) ≤ 2054
  bytes-few =
      let last = (demand_3 set plan a (unnest_steps set plan)).accepted in
      let known = (plan_passed set (written_plan set plan) (input-parts set (written_plan set plan) last).1).known in
      omega (arith, known.long, known.most)

pub unnested-few : (set plan plan_out plan_out' steps_out steps_out' scratch scratch' : List ℕ) (refusal steps bytes : ℕ)
    → Unnested set plan plan_out plan_out' steps_out steps_out' scratch scratch' refusal steps bytes → (steps ≤ 192) × (bytes ≤ 2054)
unfolding unnest_number
unnested-few set plan plan_out plan_out' steps_out steps_out' scratch scratch' refusal steps bytes e =
    let z : ℕ = unnest_number set plan (length plan_out) (length steps_out) (length scratch) in
    let a : z ≡ 0 → input_refusal set plan ≡ 0 = λ h. (or-next (input_refusal set plan) _ h).0 in
    let n : count_after z (length (unnest_steps set plan)) ≤ 192 = few z _ 192 (λ h. steps-few set plan (a h)) in
    let b : count_after z (length (written_plan set plan)) ≤ 2054 = few z _ 2054 (λ h. bytes-few set plan (a h)) in
    (omega (arith, e.step_count), omega (arith, e.byte_count))

-- ---- stay notes: a sequence has at most 4,096 rows, and the first difference lies within the first one or at its end

abbrev Short : Sequences → Type 0
Short s = length s.first ≤ 4096

module _ (T : Tables) where
  sequences_short : (p : Plan) → all (low T) (subtrees p) ≡ true → Short (sequences_of T p)
  unfolding sequences_of
  sequences_short (leaf x) h = omega arith
  sequences_short (one u p) h = omega arith
  sequences_short (two cross e f) h = omega arith
  sequences_short (two (semi m l r t) e f) h = low_rows T e (all-root (low T) e (all_left (low T) (semi m l r t) e f h)) outside
  sequences_short (two (quant m t) e f) h = omega arith
  sequences_short (two (fold a n t) e f) h = omega arith
  sequences_short (two each e f) h = omega arith
  sequences_short (two (pair a n l r c t) e f) h = low_rows T e (all-root (low T) e (all_left (low T) (pair a n l r c t) e f h)) outside

  look-short : (p : Plan) (i : ℕ) → all (low T) (subtrees p) ≡ true → Short (look (sequences_of T) nothing p i)
  unfolding look
  look-short (leaf x) zero h = sequences_short (leaf x) h
  look-short (leaf x) (suc i) h = omega arith
  look-short (one u p) zero h = sequences_short (one u p) h
  look-short (one u p) (suc i) h = look-short p i (all_child (low T) u p h)
  look-short (two b e f) zero h = sequences_short (two b e f) h
  look-short (two b e f) (suc i) h =
      elim (ltb i (size e)) as (λ k. Short (cond k (look (sequences_of T) nothing e i) (look (sequences_of T) nothing f (i - size e)))) [
        | true ↦ look-short e i (all_left (low T) b e f h)
        | false ↦ look-short f (i - size e) (all_right (low T) b e f h)
      ]

-- the position of a note, 0 where there is none
abbrev pub noted_at : Result (Answer ℕ) Refusal → ℕ
noted_at (Err refusal) = 0
noted_at (Ok Nothing) = 0
noted_at (Ok (Some position)) = position

-- the note at a place gives the first difference of the sequences there, or none
noted_position : (s : Sequences) (o : Option Plan) → Short s → noted_at (Ok (position_of (noted s o))) ≤ 4096
noted_position s none h = omega arith
noted_position s (some q) h = omega (arith, first-within s.first s.second)

due_few : (set plan : List ℕ) (place : ℕ) → input_refusal set plan ≡ 0 → noted_at (Ok (position_of (note_due set plan place))) ≤ 4096
unfolding note_at
due_few set plan place a =
    let T : Tables = tables_of set in
    let p : Plan = plan_of plan in
    let lows = refusal-low T p (plan_passed set plan (input-parts set plan a).1).unrefused in
    noted_position (look (sequences_of T) nothing p place) (accepted T (modify (stays T (fresh T p)) p place)) (look-short T p place lows)

pub noted-few : (set plan : List ℕ) (place : ℕ) (scratch scratch' : List ℕ) (r : Result (Answer ℕ) Refusal) → StayNoted set plan place scratch scratch' r → noted_at r ≤ 4096
unfolding stay_number
noted-few set plan place scratch scratch' r n = subst (λ (x : Result (Answer ℕ) Refusal). noted_at x ≤ 4096) (sym n.answer) (by (stay_number set plan (length scratch)) refl)
  where
    by : (k : ℕ) → stay_number set plan (length scratch) ≡ k → noted_at (note_after k (note_due set plan place)) ≤ 4096
    by zero e = due_few set plan place (or-next (input_refusal set plan) _ e).0
    by (suc k) e = omega arith
