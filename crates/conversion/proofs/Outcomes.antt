-- The converter's number and what it leaves, by the tests in their order. Assumes nothing.
use Rattle.std.specs.Prelude.{Result, Ok, Err}
use Prim.Native.Nat.{ℕ, zero, suc, ◌+◌, ◌≤◌, ◌<◌}
use native.Mathlib.Omega.{arith}
use mathlib.Core.Path.{◌≡◌, refl, sym, ap, ◌∙◌}
use mathlib.Core.Bool.{true, false}
use mathlib.Core.List.{List, ◌++◌}
use lib.ListN.{length, drop}
use borrow.Author.Tests.{lt-ltb, le-ltb}
use Rattle.reading.specs.TableSet.{read_set_as, amount_of}
use Rattle.reading.specs.Refusals.{refusal_number}
use Rattle.reading.specs.Check.{input_refusal_as, check_as}
use Rattle.reading.specs.declared.version.Version.{Version}
use Rattle.reading.specs.declared.refusal.Refusal.{Refusal}
use Rattle.reading.specs.declared.refusal.Refusal.TheVariants.{NumberWide, OutputShort}
use Rattle.reading.proofs.Acceptance.{number-positive, number-refused}
use Rattle.conversion.specs.Bytes.{set_bytes, set_fits, plan_in, plan_fits}
use Rattle.conversion.specs.Convert.{converted_set, convert_number, count_after, bytes_after, ConvertedFrom}
use Rattle.conversion.specs.Helpers.{bytes_written}
use Rattle.conversion.specs.declared.convert.Converted.{Converted}

-- ---- what a call leaves

module _ (from to : Version) (set plan set_out plan_out : List ℕ) where
  abbrev number : ℕ
  number = convert_number from to set plan (length set_out) (length plan_out)

  -- a refusal: zero counts, and the outputs as they were
  pub turned : (k : Refusal) → number ≡ refusal_number k → ConvertedFrom from to set plan set_out set_out plan_out plan_out (Err k)
  turned k e = by (refusal_number k) (number-positive k) e refl
    where
      by : (z : ℕ) → 0 < z → number ≡ z → refusal_number k ≡ z → ConvertedFrom from to set plan set_out set_out plan_out plan_out (Err k)
      by zero h e q = absurd (omega arith)
      by (suc z) h e q =
          record {
            number = q ∙ sym e;
            set_count = sym (ap (λ (m : ℕ). count_after m (length (converted_set from to set))) e);
            plan_count = sym (ap (λ (m : ℕ). count_after m (length (plan_in to plan))) e);
            set_output = sym (ap (λ (m : ℕ). bytes_after m (converted_set from to set) set_out) e);
            plan_output = sym (ap (λ (m : ℕ). bytes_after m (plan_in to plan) plan_out) e);
          }

  pub turned-input : (k : Refusal) → check_as from set plan ≡ Err k → ConvertedFrom from to set plan set_out set_out plan_out plan_out (Err k)
  unfolding convert_number
  turned-input k e = turned k (is (refusal_number k) (number-positive k) (number-refused from set plan k e))
    where
      is : (k : ℕ) → 0 < k → input_refusal_as from set plan ≡ k → number ≡ k
      is zero h z = absurd (omega arith)
      is (suc k) h z = rw z

  -- an input that 1 to 14 do not turn back
  module _ (tables : ℕ) (a : input_refusal_as from set plan ≡ 0) (s : read_set_as from set ≡ Ok tables) where
    set_is : converted_set from to set ≡ set_bytes to tables set
    set_is = ap (λ (r : Result ℕ Refusal). set_bytes to (amount_of r) set) s

    pub number-set : set_fits to tables set ≡ false → number ≡ refusal_number NumberWide
    unfolding convert_number
    number-set f = rw (a, s, f)

    module _ (f : set_fits to tables set ≡ true) where
      pub number_plan : plan_fits to plan ≡ false → number ≡ refusal_number NumberWide
      unfolding convert_number
      number_plan g = rw (a, s, f, g)

      module _ (g : plan_fits to plan ≡ true) where
        pub number-set-room : length set_out < length (set_bytes to tables set) → number ≡ refusal_number OutputShort
        unfolding convert_number
        number-set-room h = rw (a, s, f, g, lt-ltb _ _ h)

        module _ (h : length (set_bytes to tables set) ≤ length set_out) where
          pub number_plan_room : length plan_out < length (plan_in to plan) → number ≡ refusal_number OutputShort
          unfolding convert_number
          number_plan_room l = rw (a, s, f, g, le-ltb _ _ h, lt-ltb _ _ l)

          number-none : length (plan_in to plan) ≤ length plan_out → number ≡ 0
          unfolding convert_number
          number-none l = rw (a, s, f, g, le-ltb _ _ h, le-ltb _ _ l)

          pub converted : (r : Converted) (set_out' plan_out' : List ℕ) → length (plan_in to plan) ≤ length plan_out
              → r.set ≡ length (set_bytes to tables set) → r.plan ≡ length (plan_in to plan)
              → set_out' ≡ bytes_written set_out 0 (set_bytes to tables set) → plan_out' ≡ bytes_written plan_out 0 (plan_in to plan)
              → ConvertedFrom from to set plan set_out set_out' plan_out plan_out' (Ok r)
          converted r set_out' plan_out' l q w x y =
              let e = number-none l in
              record {
                number = sym e;
                set_count = q ∙ (ap length (sym set_is) ∙ sym (ap (λ (m : ℕ). count_after m (length (converted_set from to set))) e));
                plan_count = w ∙ sym (ap (λ (m : ℕ). count_after m (length (plan_in to plan))) e);
                set_output = x ∙ (whole (set_bytes to tables set) set_out ∙ (ap (λ (b : List ℕ). b ++ drop (length b) set_out) (sym set_is) ∙ sym (ap (λ (m : ℕ). bytes_after m (converted_set from to set) set_out) e)));
                plan_output = y ∙ (whole (plan_in to plan) plan_out ∙ sym (ap (λ (m : ℕ). bytes_after m (plan_in to plan) plan_out) e));
              }
            where
              whole : (b out : List ℕ) → bytes_written out 0 b ≡ b ++ drop (length b) out
              whole b out = let z : 0 + length b ≡ length b = omega arith in ap (λ (k : ℕ). b ++ drop k out) z
