-- The answer of the converter's two calls (docs/DEFINITION.md, "The converter"). A set and a plan are lists of bytes. Definitions only.
use Rattle.std.specs.Prelude.{ℕ, zero, suc, ◌&&◌, ◌||◌, ◌≡◌, List, ◌++◌, ltb, length, drop, if◌then◌else◌, Result, Ok, Err}
use Rattle.reading.specs.TableSet.{read_set_as, amount_of}
use Rattle.reading.specs.Refusals.{number_of}
use Rattle.reading.specs.Check.{or_next, input_refusal_as}
use Rattle.reading.specs.declared.refusal.Refusal.{Refusal}
use Rattle.reading.specs.declared.version.Version.{Version}
use Rattle.conversion.specs.Bytes.{set_bytes, set_fits, plan_in, plan_fits}
use Rattle.conversion.specs.declared.convert.Converted.{Converted}

-- a set that is read as version `from`, written in version `to`
abbrev pub converted_set : Version → Version → List ℕ → List ℕ
converted_set from to set = set_bytes to (amount_of (read_set_as from set)) set

-- ---- the number, for a set and a plan of version `from`, written in version `to`

module _ (from to : Version) (set plan : List ℕ) where
  -- 25: a number of a cell or of a test does not fit
  abbrev pub fit_number : ℕ
  fit_number = if set_fits to (amount_of (read_set_as from set)) set && plan_fits to plan then 0 else 25

  -- 15: either buffer is short
  abbrev pub room_number : ℕ → ℕ → ℕ
  room_number set_room plan_room = if ltb set_room (length (converted_set from to set)) || ltb plan_room (length (plan_in to plan)) then 15 else 0

  -- 1 to 14 of the version that is taken, then 25, then 15; 0 where nothing is turned back
  unfoldable pub convert_number : ℕ → ℕ → ℕ
  convert_number set_room plan_room = or_next (input_refusal_as from set plan) (or_next fit_number (room_number set_room plan_room))

-- ---- what the call leaves, by its number

-- a refusal returns zero counts
abbrev pub count_after : ℕ → ℕ → ℕ
count_after zero count = count
count_after (suc number) count = 0

-- the bytes at the front and the rest as it was; a refusal leaves the output untouched
abbrev pub bytes_after : ℕ → List ℕ → List ℕ → List ℕ
bytes_after zero bytes out = bytes ++ drop (length bytes) out
bytes_after (suc number) bytes out = out

-- ---- what is returned: the bytes written to each output, or a refusal, which has zero counts

abbrev pub answered_set : Result Converted Refusal → ℕ
answered_set (Ok converted) = converted.set
answered_set (Err refusal) = 0

abbrev pub answered_plan : Result Converted Refusal → ℕ
answered_plan (Ok converted) = converted.plan
answered_plan (Err refusal) = 0

-- ---- the whole answer: r is returned, and the two outputs become set_out' and plan_out'
pub record ConvertedFrom (from to : Version) (set plan set_out set_out' plan_out plan_out' : List ℕ) (r : Result Converted Refusal) : Type 0 where
  pub number : number_of r ≡ convert_number from to set plan (length set_out) (length plan_out)
  pub set_count : answered_set r ≡ count_after (convert_number from to set plan (length set_out) (length plan_out)) (length (converted_set from to set))
  pub plan_count : answered_plan r ≡ count_after (convert_number from to set plan (length set_out) (length plan_out)) (length (plan_in to plan))
  pub set_output : set_out' ≡ bytes_after (convert_number from to set plan (length set_out) (length plan_out)) (converted_set from to set) set_out
  pub plan_output : plan_out' ≡ bytes_after (convert_number from to set plan (length set_out) (length plan_out)) (plan_in to plan) plan_out
