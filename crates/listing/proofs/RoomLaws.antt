-- What an answer says is written lies inside its buffer. Assumes nothing.
use Rattle.std.specs.Prelude.{if◌then◌else◌, Result, Ok}
use Prim.Native.Nat.{ℕ, zero, suc, ◌*◌, ◌≤◌}
use mathlib.Core.Path.{◌≡◌, refl, sym, ap, subst, ◌∙◌}
use mathlib.Core.Bool.{Bool, true, false, ◌||◌, true≢false}
use mathlib.Core.List.{List}
use native.Mathlib.Omega.{arith}
use borrow.Author.Tests.{ltb-false}
use lib.Dec.{ltb}
use lib.IntN.{ℤ}
use lib.ListN.{length}
use Rattle.reading.specs.Refusals.{number_of}
use Rattle.reading.specs.Check.{or_next, input_refusal}
use Rattle.reading.specs.declared.refusal.Refusal.{Refusal}
use Rattle.reporting.specs.declared.answer.Report.{Report}
use Rattle.reporting.specs.Report.{row_count, column_count, count_after, scratch_number, output_number, report_number, Reported}
use Rattle.unnesting.specs.Unnest.{unnest_steps, written_steps, written_plan, unnest_scratch, unnest_output, unnest_number, answered_steps, answered_bytes, Unnested}
use Rattle.unnesting.specs.declared.unnest.Unnested.{Unnested as Counts}
use Rattle.unnesting.proofs.Runs.{steps-long}

-- the second of two numbers turns nothing back where both together do not
or_second : (a b : ℕ) → or_next a b ≡ 0 → b ≡ 0
or_second zero b e = e
or_second (suc a) b e = absurd (omega (arith, e))

-- a test that would turn back fails
test_fails : (b : Bool) (n : ℕ) → (if b then suc n else 0) ≡ 0 → b ≡ false
test_fails true n e = absurd (omega (arith, e))
test_fails false n e = refl

enough : (set plan : List ℕ) (room scratch_room : ℕ) → report_number set plan room scratch_room ≡ 0 → row_count set plan * column_count set plan ≤ room
unfolding report_number
enough set plan room scratch_room e =
    let o : output_number set plan room ≡ 0 = or_second (scratch_number set plan scratch_room) (output_number set plan room) (or_second (input_refusal set plan) (or_next (scratch_number set plan scratch_room) (output_number set plan room)) e) in
    ltb-false room (row_count set plan * column_count set plan) (test_fails (ltb room (row_count set plan * column_count set plan)) 14 o)

-- the codes of a report
pub report-room : {set plan : List ℕ} {out out' : List ℤ} {scratch scratch' : List ℕ} {q : Result Report Refusal} {r : Report} → Reported set plan out out' scratch scratch' q → q ≡ Ok r → r.rows * r.columns ≤ length out
report-room {set} {plan} {out} {out'} {scratch} {scratch'} {q} {r} given e =
    let a = subst (Reported set plan out out' scratch scratch') e given in
    let n : report_number set plan (length out) (length scratch) ≡ 0 = sym a.number in
    let i : r.rows ≡ row_count set plan = a.rows ∙ ap (λ (k : ℕ). count_after k (row_count set plan)) n in
    let j : r.columns ≡ column_count set plan = a.columns ∙ ap (λ (k : ℕ). count_after k (column_count set plan)) n in
    rw (i, j) (enough set plan (length out) (length scratch) n)

neither : (a b : Bool) → (a || b) ≡ false → b ≡ false
neither true b e = absurd (true≢false e)
neither false b e = e

enough-steps : (set plan : List ℕ) (plan_room step_room scratch_room : ℕ) → unnest_number set plan plan_room step_room scratch_room ≡ 0 → 2 * length (unnest_steps set plan) ≤ step_room
unfolding unnest_number
enough-steps set plan plan_room step_room scratch_room e =
    let o : unnest_output set plan plan_room step_room ≡ 0 = or_second (unnest_scratch set plan scratch_room) (unnest_output set plan plan_room step_room) (or_second (input_refusal set plan) (or_next (unnest_scratch set plan scratch_room) (unnest_output set plan plan_room step_room)) e) in
    let t = test_fails (ltb plan_room (length (written_plan set plan)) || ltb step_room (length (written_steps set plan))) 14 o in
    let l = ltb-false step_room (length (written_steps set plan)) (neither (ltb plan_room (length (written_plan set plan))) (ltb step_room (length (written_steps set plan))) t) in
    omega (arith, l, steps-long (unnest_steps set plan))

-- the steps of an unnesting
pub steps-room : {set plan plan_out plan_out' steps_out steps_out' scratch scratch' : List ℕ} {q : Result Counts Refusal} {r : Counts} → Unnested set plan plan_out plan_out' steps_out steps_out' scratch scratch' (number_of q) (answered_steps q) (answered_bytes q) → q ≡ Ok r → 2 * r.steps ≤ length steps_out
steps-room {set} {plan} {plan_out} {plan_out'} {steps_out} {steps_out'} {scratch} {scratch'} {q} {r} given e =
    let a = subst (λ (x : Result Counts Refusal). Unnested set plan plan_out plan_out' steps_out steps_out' scratch scratch' (number_of x) (answered_steps x) (answered_bytes x)) e given in
    let n : unnest_number set plan (length plan_out) (length steps_out) (length scratch) ≡ 0 = sym a.number in
    let i : r.steps ≡ length (unnest_steps set plan) = a.step_count ∙ ap (λ (k : ℕ). count_after k (length (unnest_steps set plan))) n in
    rw i (enough-steps set plan (length plan_out) (length steps_out) (length scratch) n)
