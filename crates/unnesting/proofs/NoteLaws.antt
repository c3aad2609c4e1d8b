-- The stay note at a place, over bytes, and the ends of its call. Assumes nothing.
use Prim.Native.Nat.{ℕ, zero, suc, ◌≤◌, ◌<◌}
use mathlib.Core.Bool.{Bool, true, false, cond}
use mathlib.Core.Path.{◌≡◌, refl, sym, ap, subst, ◌∙◌}
use mathlib.Core.List.{List}
use mathlib.Core.Option.{Option, none, some}
use Rattle.std.specs.Prelude.{Option as Answer, None as Nothing, Some, Result, Ok, Err}
use native.Mathlib.Omega.{arith}
use lib.Dec.{ltb}
use lib.ListN.{length, replicate}
use borrow.Author.Tests.{lt-ltb, le-ltb}
use Rattle.algebra.specs.Plans.{Plan}
use Rattle.algebra.specs.Refusals.{need}
use Rattle.algebra.specs.Rules.{rule_of}
use Rattle.algebra.specs.StayNotes.{Sequences, sequences_of, comparing, noted}
use Rattle.reading.specs.TableSet.{tables_of}
use Rattle.reading.specs.Plan.{nodes_of}
use Rattle.reading.specs.Tree.{plan_at, plan_of}
use Rattle.reading.specs.Refusals.{refusal_number, refusal_of, number_of}
use Rattle.reading.specs.Check.{input_refusal}
use Rattle.reading.specs.declared.refusal.Refusal.{Refusal}
use Rattle.reading.specs.declared.refusal.Refusal.TheVariants.{ScratchShort}
use Rattle.reading.specs.declared.version.Version.TheVariants.{Second}
use Rattle.reading.proofs.Acceptance.{number-positive, number-back, Listed, listed_next, listed_if, listed-input}
use Rattle.reporting.specs.Report.{scratch_after}
use Rattle.unnesting.specs.Shapes.{ready}
use Rattle.unnesting.specs.Sequences.{ComparedAs}
use Rattle.unnesting.specs.Attempts.{possible, Left}
use Rattle.unnesting.specs.StayNote.{stay_number, note_due, position_of, note_after, StayNoted}
use Rattle.unnesting.proofs.SequenceLaws.{ready-comparing}
use Rattle.unnesting.proofs.CandidateLaws.{note_possible, note_past}
use Rattle.unnesting.proofs.AttemptLaws.{nodes-size}

-- ---- the note at a place

-- the position that is given where these are due
given : (set plan : List ℕ) (place : ℕ) (due : Option Sequences) → note_due set plan place ≡ due → position_of due ≡ position_of (note_due set plan place)
given set plan place due e = ap position_of (sym e)

module _ (set plan : List ℕ) (input : input_refusal set plan ≡ 0) (i : ℕ) where
  -- past the last node there is none
  pub note_outside : nodes_of plan ≤ i → Nothing ≡ position_of (note_due set plan i)
  note_outside h = given set plan i none (note_past (tables_of set) (plan_of plan) i (omega (arith, nodes-size set plan input)))

  module _ (inside : i < nodes_of plan) where
    by : (a b : Bool) (o : Option Plan) → comparing (rule_of (plan_at plan i)) ≡ a → ready (tables_of set) (plan_at plan i) ≡ b → possible (tables_of set) (plan_of plan) i ≡ o
        → note_due set plan i ≡ cond a (cond b none (noted (sequences_of (tables_of set) (plan_at plan i)) o)) none
    by a b o e f g =
        note_possible set plan input i inside ∙ (λ k. cond (e k) (cond (f k) none (noted (sequences_of (tables_of set) (plan_at plan i)) (g k))) none)

    -- where the rule is none of U3, U4 and U6
    pub note_other : comparing (rule_of (plan_at plan i)) ≡ false → Nothing ≡ position_of (note_due set plan i)
    note_other e = given set plan i none (by false _ _ e refl refl)

    -- where something else stands against it
    pub note_impossible : possible (tables_of set) (plan_of plan) i ≡ none → Nothing ≡ position_of (note_due set plan i)
    note_impossible e = given set plan i none (go (comparing (rule_of (plan_at plan i))) (ready (tables_of set) (plan_at plan i)) refl refl)
      where
        go : (a b : Bool) → comparing (rule_of (plan_at plan i)) ≡ a → ready (tables_of set) (plan_at plan i) ≡ b → note_due set plan i ≡ none
        go true true f g = by true true none f g e
        go true false f g = by true false none f g e
        go false b f g = by false b none f g e

    -- where nothing else stands against it: none where the sequences are the same, or the position at which they differ
    pub note_compared : comparing (rule_of (plan_at plan i)) ≡ true → (buffer : List ℕ) (long cells : ℕ) → Left set buffer (possible (tables_of set) (plan_of plan) i) long cells → (r : Answer ℕ)
        → ComparedAs (sequences_of (tables_of set) (plan_at plan i)).first (sequences_of (tables_of set) (plan_at plan i)).second r → r ≡ position_of (note_due set plan i)
    note_compared e buffer long cells l Nothing h = given set plan i none (by true true _ e (ready-comparing (tables_of set) (plan_at plan i) e ∙ h) refl)
    note_compared e buffer long cells l (Some position) h =
        ap Some h.1 ∙ given set plan i (some (sequences_of (tables_of set) (plan_at plan i))) (by true false (some l.after) e (ready-comparing (tables_of set) (plan_at plan i) e ∙ h.0) l.is)

-- ---- the ends of the call

-- its number is a refusal's
pub listed-stay : (set plan : List ℕ) (scratch_room : ℕ) → Listed (stay_number set plan scratch_room)
unfolding stay_number
listed-stay set plan scratch_room = listed_next (input_refusal set plan) _ (listed-input Second set plan) (listed_if (ltb scratch_room (need (tables_of set) (plan_of plan))) ScratchShort)

-- so it is the answer's
pub note-number : (number : ℕ) (due : Option Sequences) → Listed number → number_of (note_after number due) ≡ number
note-number zero due l = refl
note-number (suc number) due l = l

module _ (set plan : List ℕ) (place : ℕ) (scratch scratch' : List ℕ) (r : Result (Answer ℕ) Refusal) where
  -- the answer by the call's number
  answered : (number : ℕ) → stay_number set plan (length scratch) ≡ number → r ≡ note_after number (note_due set plan place) → scratch' ≡ scratch_after (input_refusal set plan) scratch
      → StayNoted set plan place scratch scratch' r
  answered number e a c =
      record {
        number = ap number_of a ∙ (note-number number (note_due set plan place) (subst Listed e (listed-stay set plan (length scratch))) ∙ sym e);
        answer = a ∙ ap (λ (k : ℕ). note_after k (note_due set plan place)) (sym e);
        cleared = c;
      }

  pub note_turned-back : (refusal : Refusal) → input_refusal set plan ≡ refusal_number refusal → r ≡ Err refusal → scratch' ≡ scratch → StayNoted set plan place scratch scratch' r
  unfolding stay_number
  note_turned-back refusal f a c = go (refusal_number refusal) (number-positive refusal) f (number-back refusal)
    where
      go : (number : ℕ) → 0 < number → input_refusal set plan ≡ number → refusal_of number ≡ refusal → StayNoted set plan place scratch scratch' r
      go zero h f back = absurd (omega arith)
      go (suc k) h f back = answered (suc k) (rw f) (a ∙ ap Err (sym back)) (rw f c)

  module _ (passed : input_refusal set plan ≡ 0) (clean : scratch' ≡ replicate (length scratch) 0) where
    number_16 : length scratch < need (tables_of set) (plan_of plan) → stay_number set plan (length scratch) ≡ 16
    unfolding stay_number
    number_16 h = rw (passed, lt-ltb (length scratch) (need (tables_of set) (plan_of plan)) h)

    number_0 : need (tables_of set) (plan_of plan) ≤ length scratch → stay_number set plan (length scratch) ≡ 0
    unfolding stay_number
    number_0 h = rw (passed, le-ltb (length scratch) (need (tables_of set) (plan_of plan)) h)

    pub note_short : length scratch < need (tables_of set) (plan_of plan) → r ≡ Err ScratchShort → StayNoted set plan place scratch scratch' r
    note_short h a = answered 16 (number_16 h) (a ∙ ap Err (sym (number-back ScratchShort))) (rw passed clean)

    pub note_given : need (tables_of set) (plan_of plan) ≤ length scratch → r ≡ Ok (position_of (note_due set plan place)) → StayNoted set plan place scratch scratch' r
    note_given h a = answered 0 (number_0 h) a (rw passed clean)
