-- No result of a call is left to the program. Assumes nothing.
use Rattle.std.specs.Prelude.{if◌then◌else◌, Result, Ok, Err}
use Prim.Native.Nat.{ℕ, zero, suc}
use native.Mathlib.Omega.{arith}
use mathlib.Core.Bool.{Bool, true, false}
use mathlib.Core.Path.{◌≡◌, refl, sym, ap, ◌∙◌}
use mathlib.Core.List.{List}
use lib.ListN.{length}
use Rattle.algebra.proofs.StayNotes.{note_smallest}
use Rattle.reading.specs.Refusals.{refusal_of, number_of}
use Rattle.reading.specs.TableSet.{tables_of}
use Rattle.reading.specs.Tree.{plan_of}
use Rattle.reading.specs.Check.{or_next, input_refusal}
use Rattle.reading.specs.declared.refusal.Refusal.{Refusal}
use Rattle.reading.specs.declared.refusal.Refusal.TheVariants.{OutputShort, ScratchShort}
use Rattle.reading.specs.declared.version.Version.TheVariants.{Second}
use Rattle.reading.proofs.Acceptance.{number-positive, number-back, Listed, listed_next, listed_if, listed-input}
use Rattle.reporting.specs.declared.answer.Report.{Report}
use Rattle.reporting.specs.Report.{row_count, column_count, report_codes, report_number, count_after, output_after, scratch_after, answered_rows, answered_columns}
use Rattle.reporting.proofs.Reports.{listed-report}
use Rattle.unnesting.specs.declared.unnest.Unnested.{Unnested as Counts}
use Rattle.unnesting.specs.Unnest.{unnest_steps, written_steps, written_plan, unnest_scratch, unnest_output, unnest_number, bytes_after, answered_steps, answered_bytes}
use Rattle.unnesting.specs.StayNote.{note_due, stay_number, stay_answer}
use Rattle.unnesting.specs.CheckSteps.{list_number, reached_scratch, end_number, check_steps_number}
use Rattle.unnesting.specs.Calls.{Determined, ReportPromise, report_sizes, UnnestPromise, unnest_sizes, StayNotePromise, CheckStepsPromise, NothingLeft}
use Rattle.unnesting.proofs.NoteLaws.{listed-stay, note-number}

-- ---- what a determined promise means for two calls

module _ {Given Buffers Sizes Answer : Type 0} {sizes : Buffers → Sizes} {Promise : Given → Buffers → Buffers → Answer → Type 0} (d : Determined sizes Promise)
    (given : Given) (first second : Buffers) (left left' : Buffers) (r r' : Answer) (p : Promise given first left r) (q : Promise given second left' r') where
  -- given the same, and lent buffers of the same sizes, they answer the same
  pub same_answer : sizes first ≡ sizes second → r ≡ r'
  same_answer e = (d.only given first left r p).1 ∙ (ap (d.answer given) e ∙ sym (d.only given second left' r' q).1)

  -- and where the buffers hold the same before, they hold the same afterwards
  pub same_buffers : first ≡ second → left ≡ left'
  same_buffers e = (d.only given first left r p).0 ∙ (ap (d.after given) e ∙ sym (d.only given second left' r' q).0)

-- ---- the four calls

-- a report by its number and its counts
abbrev answer_of : ℕ → ℕ → ℕ → Result Report Refusal
answer_of zero rows columns = Ok (record { rows = rows; columns = columns })
answer_of (suc number) rows columns = Err (refusal_of (suc number))

answer-number : (number rows columns : ℕ) → Listed number → number_of (answer_of number rows columns) ≡ number
answer-number zero rows columns e = refl
answer-number (suc number) rows columns e = e

answer-rows : (number rows columns : ℕ) → answered_rows (answer_of number rows columns) ≡ count_after number rows
answer-rows zero rows columns = refl
answer-rows (suc number) rows columns = refl

answer-columns : (number rows columns : ℕ) → answered_columns (answer_of number rows columns) ≡ count_after number columns
answer-columns zero rows columns = refl
answer-columns (suc number) rows columns = refl

-- no other answer has them
answer-only : (r : Result Report Refusal) (number rows columns : ℕ) → number_of r ≡ number → answered_rows r ≡ count_after number rows → answered_columns r ≡ count_after number columns
    → r ≡ answer_of number rows columns
answer-only (Ok report) zero rows columns e m w = λ i. Ok (record { rows = m i; columns = w i })
answer-only (Ok report) (suc number) rows columns e m w = absurd (omega arith)
answer-only (Err k) zero rows columns e m w = absurd (omega (arith, number-positive k))
answer-only (Err k) (suc number) rows columns e m w = ap Err (sym (number-back k) ∙ ap refusal_of e)

report_determined : Determined report_sizes ReportPromise
report_determined = record {
  answer = λ (set, plan) (room, scratch_room).
      answer_of (report_number set plan room scratch_room) (row_count set plan) (column_count set plan);
  after = λ (set, plan) (out, scratch).
      (output_after (report_number set plan (length out) (length scratch)) (report_codes set plan) out, scratch_after (input_refusal set plan) scratch);
  kept = λ (set, plan) (out, scratch).
      let n : ℕ = report_number set plan (length out) (length scratch) in
      record {
        number = answer-number n (row_count set plan) (column_count set plan) (listed-report set plan (length out) (length scratch));
        rows = answer-rows n (row_count set plan) (column_count set plan);
        columns = answer-columns n (row_count set plan) (column_count set plan);
        output = refl;
        cleared = refl;
      };
  only = λ given before left r p. (λ i. (p.output i, p.cleared i), answer-only r _ _ _ p.number p.rows p.columns);
}

-- an unnesting by its number and its counts
abbrev counts_of : ℕ → ℕ → ℕ → Result Counts Refusal
counts_of zero steps bytes = Ok (record { steps = steps; bytes = bytes })
counts_of (suc number) steps bytes = Err (refusal_of (suc number))

counts-number : (number steps bytes : ℕ) → Listed number → number_of (counts_of number steps bytes) ≡ number
counts-number zero steps bytes e = refl
counts-number (suc number) steps bytes e = e

counts-steps : (number steps bytes : ℕ) → answered_steps (counts_of number steps bytes) ≡ count_after number steps
counts-steps zero steps bytes = refl
counts-steps (suc number) steps bytes = refl

counts-bytes : (number steps bytes : ℕ) → answered_bytes (counts_of number steps bytes) ≡ count_after number bytes
counts-bytes zero steps bytes = refl
counts-bytes (suc number) steps bytes = refl

-- no other answer has them
counts-only : (r : Result Counts Refusal) (number steps bytes : ℕ) → number_of r ≡ number → answered_steps r ≡ count_after number steps → answered_bytes r ≡ count_after number bytes
    → r ≡ counts_of number steps bytes
counts-only (Ok counts) zero steps bytes e s b = λ i. Ok (record { steps = s i; bytes = b i })
counts-only (Ok counts) (suc number) steps bytes e s b = absurd (omega arith)
counts-only (Err k) zero steps bytes e s b = absurd (omega (arith, number-positive k))
counts-only (Err k) (suc number) steps bytes e s b = ap Err (sym (number-back k) ∙ ap refusal_of e)

listed-unnest : (set plan : List ℕ) (plan_room step_room scratch_room : ℕ) → Listed (unnest_number set plan plan_room step_room scratch_room)
unfolding unnest_number
listed-unnest set plan plan_room step_room scratch_room =
    listed_next (input_refusal set plan) (or_next (unnest_scratch set plan scratch_room) (unnest_output set plan plan_room step_room)) (listed-input Second set plan)
    (listed_next (unnest_scratch set plan scratch_room) (unnest_output set plan plan_room step_room) (listed_if _ ScratchShort) (listed_if _ OutputShort))

unnest_determined : Determined unnest_sizes UnnestPromise
unnest_determined = record {
  answer = λ (set, plan) (plan_room, step_room, scratch_room).
      counts_of (unnest_number set plan plan_room step_room scratch_room) (length (unnest_steps set plan)) (length (written_plan set plan));
  after = λ (set, plan) (plan_out, steps_out, scratch).
      let n : ℕ = unnest_number set plan (length plan_out) (length steps_out) (length scratch) in
      (bytes_after n (written_plan set plan) plan_out, bytes_after n (written_steps set plan) steps_out, scratch_after (input_refusal set plan) scratch);
  kept = λ (set, plan) (plan_out, steps_out, scratch).
      let n : ℕ = unnest_number set plan (length plan_out) (length steps_out) (length scratch) in
      record {
        number = counts-number n (length (unnest_steps set plan)) (length (written_plan set plan)) (listed-unnest set plan (length plan_out) (length steps_out) (length scratch));
        step_count = counts-steps n (length (unnest_steps set plan)) (length (written_plan set plan));
        byte_count = counts-bytes n (length (unnest_steps set plan)) (length (written_plan set plan));
        plan_written = refl;
        steps_written = refl;
        cleared = refl;
      };
  only = λ given before left r p. (λ i. (p.plan_written i, p.steps_written i, p.cleared i), counts-only r _ _ _ p.number p.step_count p.byte_count);
}

stay_note_determined : Determined length StayNotePromise
stay_note_determined = record {
  answer = λ (set, plan, place) room. stay_answer set plan place room;
  after = λ (set, plan, place) scratch. scratch_after (input_refusal set plan) scratch;
  kept = λ (set, plan, place) scratch.
      record { number = note-number (stay_number set plan (length scratch)) (note_due set plan place) (listed-stay set plan (length scratch)); answer = refl; cleared = refl };
  only = λ given before left r p. (p.cleared, p.answer);
}

-- a check by its number
abbrev checked_of : ℕ → Result (Unit {0}) Refusal
checked_of zero = Ok tt
checked_of (suc number) = Err (refusal_of (suc number))

check-number : (number : ℕ) → Listed number → number_of (checked_of number) ≡ number
check-number zero e = refl
check-number (suc number) e = e

-- no other answer has it
check-only : (r : Result (Unit {0}) Refusal) (number : ℕ) → number_of r ≡ number → r ≡ checked_of number
check-only (Ok u) zero e = refl
check-only (Ok u) (suc number) e = absurd (omega arith)
check-only (Err k) zero e = absurd (omega (arith, number-positive k))
check-only (Err k) (suc number) e = ap Err (sym (number-back k) ∙ ap refusal_of e)

listed-list : (b : Bool) → Listed (if b then 0 else 20)
unfolding refusal_of
listed-list true = tt
listed-list false = refl

listed-end : (b : Bool) → Listed (if b then 0 else 21)
unfolding refusal_of
listed-end true = tt
listed-end false = refl

listed-check : (set plan steps theirs : List ℕ) (scratch_room : ℕ) → Listed (check_steps_number set plan steps theirs scratch_room)
unfolding check_steps_number list_number end_number
listed-check set plan steps theirs scratch_room =
    listed_next (input_refusal set plan) _ (listed-input Second set plan)
    (listed_next (list_number steps) _ (listed-list _)
    (listed_next (reached_scratch set plan steps scratch_room) (end_number set plan steps theirs) (listed_if _ ScratchShort) (listed-end _)))

check_steps_determined : Determined length CheckStepsPromise
check_steps_determined = record {
  answer = λ (set, plan, steps, theirs) room. checked_of (check_steps_number set plan steps theirs room);
  after = λ (set, plan, steps, theirs) scratch. scratch_after (input_refusal set plan) scratch;
  kept = λ (set, plan, steps, theirs) scratch.
      record { number = check-number (check_steps_number set plan steps theirs (length scratch)) (listed-check set plan steps theirs (length scratch)); cleared = refl };
  only = λ given before left r p. (p.cleared, check-only r _ p.number);
}

pub nothing_left : NothingLeft
nothing_left = record {
  report = report_determined;
  unnest = unnest_determined;
  stay_note = stay_note_determined;
  check_steps = check_steps_determined;
  smallest = λ set plan place s e. note_smallest (tables_of set) (plan_of plan) place s e;
}
