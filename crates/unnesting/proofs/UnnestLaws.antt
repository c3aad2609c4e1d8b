-- The unnesting call's number: 16 is met before 15, and by every plan passed through. Assumes nothing.
use Prim.Native.Nat.{ℕ, zero, suc, ◌+◌, ◌≤◌, ◌<◌}
use mathlib.Core.Path.{◌≡◌, sym, ◌∙◌, subst}
use mathlib.Core.List.{List, [], ◌∷◌, ◌++◌, map}
use native.Mathlib.Omega.{arith}
use lib.ListN.{length, drop, replicate}
use borrow.Author.Tests.{lt-ltb, le-ltb}
use Rattle.algebra.specs.Plans.{Tables, Plan}
use Rattle.algebra.specs.Refusals.{need}
use Rattle.algebra.specs.Steps.{Step, or_else, attempt, after}
use Rattle.reading.specs.TableSet.{tables_of}
use Rattle.reading.specs.Tree.{plan_of}
use Rattle.reading.specs.Check.{input_refusal}
use Rattle.reporting.specs.Report.{scratch_after}
use Rattle.unnesting.specs.Unnest.{unnest_steps, passed_through, largest, unnest_need, written_steps, written_plan, unnest_number, Unnested}
use Rattle.unnesting.specs.Images.{bytes_written}

-- ---- the plans passed through

-- the given plan is one of them
pub passed_first : (T : Tables) (ss : List Step) (p : Plan) → need T p ≤ largest (map (need T) (passed_through T ss p))
unfolding passed_through
passed_first T [] p = omega arith
passed_first T (s ∷ ss) p = omega arith

-- the plan after the first steps of a list is one of them
pub passed-need : (T : Tables) (us vs : List Step) (p : Plan) → need T (after T us p) ≤ largest (map (need T) (passed_through T (us ++ vs) p))
unfolding passed_through after
passed-need T [] vs p = passed_first T vs p
passed-need T (u ∷ us) vs p = let h = passed-need T us vs (or_else p (attempt T u p)) in omega (arith, h)

-- ---- the numbers

module _ (set plan : List ℕ) (plan_room step_room scratch_room : ℕ) where
  -- 1 to 14 are met first
  pub unnest-refused : (k : ℕ) → input_refusal set plan ≡ suc k → unnest_number set plan plan_room step_room scratch_room ≡ suc k
  unfolding unnest_number
  unnest-refused k e = rw e

  module _ (passed : input_refusal set plan ≡ 0) where
    -- then 16, whatever room the outputs have
    pub unnest_16 : scratch_room < unnest_need set plan → unnest_number set plan plan_room step_room scratch_room ≡ 16
    unfolding unnest_number
    unnest_16 h = rw (passed, lt-ltb scratch_room (unnest_need set plan) h)

    module _ (enough : unnest_need set plan ≤ scratch_room) where
      -- then 15, for either output
      pub unnest_15_plan : plan_room < length (written_plan set plan) → unnest_number set plan plan_room step_room scratch_room ≡ 15
      unfolding unnest_number
      unnest_15_plan h = rw (passed, le-ltb scratch_room (unnest_need set plan) enough, lt-ltb plan_room (length (written_plan set plan)) h)

      pub unnest_15_steps : length (written_plan set plan) ≤ plan_room → step_room < length (written_steps set plan) → unnest_number set plan plan_room step_room scratch_room ≡ 15
      unfolding unnest_number
      unnest_15_steps h k =
          rw (passed, le-ltb scratch_room (unnest_need set plan) enough, le-ltb plan_room (length (written_plan set plan)) h, lt-ltb step_room (length (written_steps set plan)) k)

      pub unnest_0 : length (written_plan set plan) ≤ plan_room → length (written_steps set plan) ≤ step_room → unnest_number set plan plan_room step_room scratch_room ≡ 0
      unfolding unnest_number
      unnest_0 h k =
          rw (passed, le-ltb scratch_room (unnest_need set plan) enough, le-ltb plan_room (length (written_plan set plan)) h, le-ltb step_room (length (written_steps set plan)) k)

    -- a plan that the run passes through, the given and the last included, whose need scratch does not meet: 16 (cited by nothing; it is for a reader)
    pub unnest-passed : (us vs : List Step) → unnest_steps set plan ≡ us ++ vs → scratch_room < need (tables_of set) (after (tables_of set) us (plan_of plan))
        → unnest_number set plan plan_room step_room scratch_room ≡ 16
    unfolding unnest_need
    unnest-passed us vs e h =
        let T = tables_of set in
        let n : need T (after T us (plan_of plan)) ≤ unnest_need set plan =
        subst (λ (ss : List Step). need T (after T us (plan_of plan)) ≤ largest (map (need T) (passed_through T ss (plan_of plan)))) (sym e) (passed-need T us vs (plan_of plan)) in
        unnest_16 (omega arith)

-- ---- the ends of the call

-- bytes written at the front, and the rest as it was
front-whole : (out bytes : List ℕ) → bytes_written out 0 bytes ≡ bytes ++ drop (length bytes) out
front-whole out bytes = let z : 0 + length bytes ≡ length bytes = omega arith in rw z

module _ (set plan plan_out steps_out scratch scratch' : List ℕ) (refusal steps bytes : ℕ) where
  abbrev RefusedBy : ℕ → Type 0
  RefusedBy number = (refusal ≡ number) × (steps ≡ 0) × (bytes ≡ 0)

  -- a refusal returns its number and zero counts, and leaves the outputs untouched
  refused-answer : (k : ℕ) → unnest_number set plan (length plan_out) (length steps_out) (length scratch) ≡ suc k → RefusedBy (suc k)
      → scratch' ≡ scratch_after (input_refusal set plan) scratch → Unnested set plan plan_out plan_out steps_out steps_out scratch scratch' refusal steps bytes
  refused-answer k e (r, s, b) c = record { number = r ∙ sym e; step_count = rw e s; byte_count = rw e b; plan_written = rw e; steps_written = rw e; cleared = c }

  pub turned-back : (number : ℕ) → input_refusal set plan ≡ number → 0 < number → RefusedBy number → scratch' ≡ scratch → Unnested set plan plan_out plan_out steps_out steps_out scratch scratch' refusal steps bytes
  turned-back zero f p h c = absurd (omega arith)
  turned-back (suc k) f p h c = refused-answer k (unnest-refused set plan (length plan_out) (length steps_out) (length scratch) k f) h (rw f c)

  module _ (passed : input_refusal set plan ≡ 0) (clean : scratch' ≡ replicate (length scratch) 0) where
    pub short_scratch : length scratch < unnest_need set plan → RefusedBy 16 → Unnested set plan plan_out plan_out steps_out steps_out scratch scratch' refusal steps bytes
    short_scratch h k = refused-answer 15 (unnest_16 set plan (length plan_out) (length steps_out) (length scratch) passed h) k (rw passed clean)

    module _ (enough : unnest_need set plan ≤ length scratch) where
      pub short_plan : length plan_out < length (written_plan set plan) → RefusedBy 15 → Unnested set plan plan_out plan_out steps_out steps_out scratch scratch' refusal steps bytes
      short_plan h k = refused-answer 14 (unnest_15_plan set plan (length plan_out) (length steps_out) (length scratch) passed enough h) k (rw passed clean)

      pub short-steps : length (written_plan set plan) ≤ length plan_out → length steps_out < length (written_steps set plan) → RefusedBy 15
          → Unnested set plan plan_out plan_out steps_out steps_out scratch scratch' refusal steps bytes
      short-steps h g k = refused-answer 14 (unnest_15_steps set plan (length plan_out) (length steps_out) (length scratch) passed enough h g) k (rw passed clean)

      pub unnested : (plan_out' steps_out' : List ℕ) → length (written_plan set plan) ≤ length plan_out → length (written_steps set plan) ≤ length steps_out → refusal ≡ 0
          → steps ≡ length (unnest_steps set plan) → bytes ≡ length (written_plan set plan) → plan_out' ≡ bytes_written plan_out 0 (written_plan set plan) → steps_out' ≡ bytes_written steps_out 0 (written_steps set plan)
          → Unnested set plan plan_out plan_out' steps_out steps_out' scratch scratch' refusal steps bytes
      unnested plan_out' steps_out' h g r s b p q =
          let e = unnest_0 set plan (length plan_out) (length steps_out) (length scratch) passed enough h g in
          record { number = r ∙ sym e; step_count = rw e s; byte_count = rw e b; plan_written = rw e (p ∙ front-whole plan_out (written_plan set plan)); steps_written = rw e (q ∙ front-whole steps_out (written_steps set plan)); cleared = rw passed clean }
