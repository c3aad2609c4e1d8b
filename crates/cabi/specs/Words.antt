-- What a C program gets from each call: one 64-bit word, beside the buffers that it lends. A refused call gives its number alone.
-- Definitions only (docs/DEFINITION.md, "From C").
use Rattle.std.specs.Prelude.{ℕ, ◌+◌, ◌*◌, ◌≡◌, List, ℤ, Option, None, Some, Result, Ok, Err}
use Rattle.reading.specs.Refusals.{refusal_number, number_of}
use Rattle.reading.specs.declared.refusal.Refusal.{Refusal}
use Rattle.reporting.specs.declared.answer.Report.{Report}
use Rattle.reporting.specs.Report.{answered_rows, answered_columns, Reported}
use Rattle.unnesting.specs.Unnest.{Unnested}
use Rattle.unnesting.specs.StayNote.{StayNoted}
use Rattle.unnesting.specs.CheckSteps.{StepsChecked}
use Rattle.reading.specs.declared.version.Version.{Version}
use Rattle.conversion.specs.Convert.{answered_set, answered_plan, ConvertedFrom}
use Rattle.conversion.specs.declared.convert.Converted.{Converted}
use Rattle.prizes.specs.Prize.{answered_payments, answered_line, Prized}
use Rattle.prizes.specs.declared.answer.Prizes.{Prizes}

-- ---- the words

-- refusal + 2 ^ 8 · columns + 2 ^ 16 · rows
abbrev pub report_word : Result Report Refusal → ℕ
report_word r = number_of r + 256 * answered_columns r + 65536 * answered_rows r

-- refusal + 2 ^ 8 · steps + 2 ^ 24 · bytes of the plan
abbrev pub unnest_word : ℕ → ℕ → ℕ → ℕ
unnest_word refusal steps bytes = refusal + 256 * steps + 16777216 * bytes

-- the refusal, 0 where there is no note; a note is 2 ^ 8 + 2 ^ 16 · position
abbrev pub stay_word : Result (Option ℕ) Refusal → ℕ
stay_word (Err refusal) = refusal_number refusal
stay_word (Ok None) = 0
stay_word (Ok (Some position)) = 256 + 65536 * position

-- refusal + 2 ^ 8 · bytes of the plan + 2 ^ 24 · bytes of the set
abbrev pub convert_word : Result Converted Refusal → ℕ
convert_word r = number_of r + 256 * answered_plan r + 16777216 * answered_set r

-- refusal + 2 ^ 8 · rows + 2 ^ 24 · club line
abbrev pub prize_word : Result Prizes Refusal → ℕ
prize_word r = number_of r + 256 * answered_payments r + 16777216 * answered_line r

-- ---- the calls: the word holds an answer that is the lower layer's, with its buffers

pub record ReportCalled (set plan : List ℕ) (out out' : List ℤ) (scratch scratch' : List ℕ) (word : ℕ) : Type 0 where
  pub answer : Result Report Refusal
  pub reported : Reported set plan out out' scratch scratch' answer
  pub encoded : word ≡ report_word answer

pub record UnnestCalled (set plan plan_out plan_out' steps_out steps_out' scratch scratch' : List ℕ) (word : ℕ) : Type 0 where
  pub refusal : ℕ
  pub steps : ℕ
  pub bytes : ℕ
  pub unnested : Unnested set plan plan_out plan_out' steps_out steps_out' scratch scratch' refusal steps bytes
  pub encoded : word ≡ unnest_word refusal steps bytes

pub record StayNoteCalled (set plan : List ℕ) (place : ℕ) (scratch scratch' : List ℕ) (word : ℕ) : Type 0 where
  pub answer : Result (Option ℕ) Refusal
  pub noted : StayNoted set plan place scratch scratch' answer
  pub encoded : word ≡ stay_word answer

-- the word is the refusal
abbrev pub CheckStepsCalled : List ℕ → List ℕ → List ℕ → List ℕ → List ℕ → List ℕ → ℕ → Type 0
CheckStepsCalled set plan steps theirs scratch scratch' word = StepsChecked set plan steps theirs scratch scratch' word

pub record ConvertCalled (from to : Version) (set plan set_out set_out' plan_out plan_out' : List ℕ) (word : ℕ) : Type 0 where
  pub answer : Result Converted Refusal
  pub converted : ConvertedFrom from to set plan set_out set_out' plan_out plan_out' answer
  pub encoded : word ≡ convert_word answer

pub record PrizeCalled (set plan : List ℕ) (purse : ℕ) (shares : List ℕ) (out out' : List ℤ) (scratch scratch' : List ℕ) (word : ℕ) : Type 0 where
  pub answer : Result Prizes Refusal
  pub prized : Prized set plan purse shares out out' scratch scratch' answer
  pub encoded : word ≡ prize_word answer
