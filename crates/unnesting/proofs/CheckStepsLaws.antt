-- The call that checks a list of steps: its list's number, and its ends. Assumes nothing.
use Prim.Native.Nat.{ℕ, zero, suc, ◌+◌, ◌*◌, ◌-◌, ◌/◌, ◌%◌, ◌≤◌, ◌<◌}
use mathlib.Core.Bool.{Bool, true, false, cond, ◌&&◌}
use mathlib.Core.Path.{◌≡◌, refl, sym, ap, ap₂, ◌∙◌}
use mathlib.Core.List.{List}
use native.Mathlib.Omega.{arith}
use lib.ListN.{length, take, drop, get_or, length-drop, replicate}
use borrow.Author.Tests.{lt-ltb, le-ltb, lt-leb, le-leb, eq-eqb, ne_eqb}
use Rattle.algebra.specs.Lists.{all, same}
use Rattle.algebra.specs.Steps.{Step, fitted}
use Rattle.reading.specs.TableSet.{tables_of}
use Rattle.reading.specs.Tree.{plan_of}
use Rattle.reading.specs.Check.{input_refusal}
use Rattle.unnesting.specs.Demand3.{bytes_left}
use Rattle.unnesting.specs.CheckSteps.{listed, is_rule, list_number, reached_need, end_number, check_steps_number, StepsChecked}
use Rattle.unnesting.specs.Attempts.{Arrives, Fails, Follows, stopped_number}
use Rattle.unnesting.specs.declared.follow.Stopped.{Stopped}
use Rattle.unnesting.specs.declared.follow.Stopped.TheVariants.{Short, Unfit}
use Rattle.std.specs.Prelude.{Err}
use Rattle.unnesting.proofs.FollowLaws.{listed-none, listed_at}

-- ---- the list's number

-- the rules of a list from a byte on are 1 to 8
abbrev pub rules_from : List ℕ → ℕ → Bool
rules_from steps at = all (λ (s : Step). is_rule s.number) (listed (drop at steps))

pub list_odd : (steps : List ℕ) → (length steps % 2 ≡ 0 → ⊥) → 20 ≡ list_number steps
unfolding list_number
list_odd steps odd = rw (ne_eqb (length steps % 2) 0 odd)

module _ (steps : List ℕ) (even : length steps % 2 ≡ 0) where
  pub list-rules : (b : Bool) → rules_from steps 0 ≡ b → cond b 0 20 ≡ list_number steps
  unfolding list_number
  list-rules true e = rw (even, e)
  list-rules false e = rw (even, e)

  -- no byte is left
  pub rules-end : (at : ℕ) → length steps ≤ at → rules_from steps at ≡ true
  rules-end at h = ap (all (λ (s : Step). is_rule s.number)) (listed-none (drop at steps) (omega (arith, length-drop at steps)))

  -- the rule of the step at place k is one of the eight, or below, or above them
  module _ (k rule : ℕ) (inside : k < length steps / 2) (is : rule ≡ get_or steps (2 * k) 0) where
    rules-at : (b : Bool) → is_rule rule ≡ b → rules_from steps (2 * k) ≡ (b && rules_from steps (2 * (k + 1)))
    rules-at b e =
        let z : 2 * k + 2 ≡ 2 * (k + 1) = omega arith in
        ap (all (λ (s : Step). is_rule s.number)) (listed_at steps (2 * k) (omega arith)) ∙ ap₂ (λ (z : Bool) (n : ℕ). z && rules_from steps n) (ap is_rule (sym is) ∙ e) z

    pub rules-next : 1 ≤ rule → rule ≤ 8 → rules_from steps (2 * k) ≡ rules_from steps (2 * (k + 1))
    rules-next l h = rules-at true (rw (le-leb 1 rule l, le-leb rule 8 h))

    pub rules-low : rule < 1 → rules_from steps (2 * k) ≡ false
    rules-low l = rules-at false (rw (lt-leb 1 rule l))

    pub rules-high : 8 < rule → rules_from steps (2 * k) ≡ false
    rules-high h = rules-at false (rw (le-leb 1 rule (omega arith), lt-leb rule 8 h))

-- ---- the ends of the call

module _ (set plan steps theirs scratch scratch' : List ℕ) (refusal : ℕ) where
  abbrev Answer : Type 0
  Answer = StepsChecked set plan steps theirs scratch scratch' refusal

  -- 1 to 14 are met first
  pub check_turned-back : (number : ℕ) → input_refusal set plan ≡ number → 0 < number → refusal ≡ number → scratch' ≡ scratch → Answer
  unfolding check_steps_number
  check_turned-back zero f p a c = absurd (omega arith)
  check_turned-back (suc k) f p a c = record { number = rw f a; cleared = rw f c }

  module _ (passed : input_refusal set plan ≡ 0) (clean : scratch' ≡ replicate (length scratch) 0) where
    -- then 20, by the list alone
    pub check_20 : (list_number steps ≡ 0 → ⊥) → refusal ≡ list_number steps → Answer
    unfolding check_steps_number
    check_20 h a = go (list_number steps) refl
      where
        go : (k : ℕ) → list_number steps ≡ k → Answer
        go zero e = absurd (h e)
        go (suc k) e = record { number = a ∙ (e ∙ sym (rw (passed, e))); cleared = rw passed clean }

    module _ (allowed : list_number steps ≡ 0) where
      -- then 16, by the plans reached
      pub check_16 : length scratch < reached_need set plan steps → refusal ≡ 16 → Answer
      unfolding check_steps_number
      check_16 h a = record { number = a ∙ sym (rw (passed, allowed, lt-ltb (length scratch) (reached_need set plan steps) h)); cleared = rw passed clean }

      -- then 21, where a step does not fit
      pub check_unfit : Fails set plan steps (length scratch) → refusal ≡ 21 → Answer
      unfolding check_steps_number end_number
      check_unfit f a =
          record {
            number = a ∙ sym (rw (passed, allowed, le-ltb (length scratch) (reached_need set plan steps) f.enough, ne_eqb (fitted (tables_of set) (listed steps) (plan_of plan)) (length (listed steps)) (λ e. absurd (omega (arith, f.fewer)))));
            cleared = rw passed clean;
          }

      -- by the case
      pub check_stopped : (current : List ℕ) (stopped : Stopped) → Follows set plan steps (length scratch) current (Err stopped) → refusal ≡ stopped_number stopped → Answer
      check_stopped current Short h a = check_16 h a
      check_stopped current Unfit h a = check_unfit h a

      -- or where the plan left, which stands at the front of a buffer, is not theirs; else 0
      pub check_end : (current : List ℕ) (long : ℕ) → Arrives set plan steps (length scratch) current long → (b : Bool) → same (take (long - 0) current) theirs ≡ b → refusal ≡ cond b 0 21 → Answer
      unfolding check_steps_number end_number
      check_end current long d b e a = go b (ap (λ (bytes : List ℕ). same bytes theirs) (sym d.last ∙ ap (λ (n : ℕ). take n current) z) ∙ e) a
        where
          z : long ≡ long - 0
          z = omega arith

          go : (b : Bool) → same (bytes_left set plan (listed steps)) theirs ≡ b → refusal ≡ cond b 0 21 → Answer
          go true e a = record { number = a ∙ sym (rw (passed, allowed, le-ltb (length scratch) (reached_need set plan steps) d.enough, eq-eqb _ _ d.every, e)); cleared = rw passed clean }
          go false e a = record { number = a ∙ sym (rw (passed, allowed, le-ltb (length scratch) (reached_need set plan steps) d.enough, eq-eqb _ _ d.every, e)); cleared = rw passed clean }
