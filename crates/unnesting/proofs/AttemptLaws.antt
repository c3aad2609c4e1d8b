-- Steps tried one after another over bytes: what fits at a place, the smallest place, and the run. Assumes nothing.
use Prim.Native.Nat.{ℕ, ◌+◌, ◌≤◌, ◌<◌}
use mathlib.Core.Bool.{Bool, true, false, cond}
use mathlib.Core.Path.{◌≡◌, refl, sym, ap, ap₂, ◌∙◌, subst}
use mathlib.Core.Logic.{◌≢◌}
use mathlib.Core.List.{List}
use mathlib.Core.Option.{Option, none, some, none-ne-some}
use native.Mathlib.Omega.{arith}
use native.Mathlib.Decide.{dec_lt, ℕ_discrete}
use Rattle.algebra.specs.Plans.{Tables, is_plain, cross, semi, quant, fold, each, pair, Plan, leaf, one, two}
use Rattle.algebra.specs.Places.{size}
use Rattle.algebra.specs.Rules.{rule_of, number_at, fresh}
use Rattle.algebra.specs.Steps.{Step, attempt}
use Rattle.algebra.specs.Demand3.{Still}
use Rattle.algebra.proofs.Steps.{one-rule}
use Rattle.reading.specs.TableSet.{tables_of}
use Rattle.reading.specs.Plan.{nodes_of}
use Rattle.reading.specs.Tree.{operator_at, plan_at, plan_of}
use Rattle.reading.specs.Check.{input_refusal}
use Rattle.reading.proofs.Places.{whole-size}
use Rattle.reading.proofs.PlanBytes.{plan_passed}
use Rattle.unnesting.specs.Shapes.{shape, ready, operator_rule}
use Rattle.unnesting.specs.Attempts.{possible, Left, Smallest}
use Rattle.unnesting.proofs.Demand3.{input-parts}
use Rattle.unnesting.proofs.RuleLaws.{rule-at, rule-none}
use Rattle.unnesting.proofs.CandidateLaws.{number-at, attempt-possible, possible-none, possible-shape, attempt-past}

-- ---- the step at a place

module _ (set plan : List ℕ) (input : input_refusal set plan ≡ 0) (i : ℕ) (inside : i < nodes_of plan) where
  abbrev step_at : Option Plan
  step_at = attempt (tables_of set) (record { number = number_at (plan_of plan) i; place = i }) (plan_of plan)

  by_rows : (b : Bool) (o o' : Option Plan) → ready (tables_of set) (plan_at plan i) ≡ b → possible (tables_of set) (plan_of plan) i ≡ o → cond b o none ≡ o' → step_at ≡ o'
  by_rows b o o' r e f = attempt-possible set plan input i inside ∙ (ap₂ (λ (b : Bool) (o : Option Plan). cond b o none) r e ∙ f)

  pub step-none : possible (tables_of set) (plan_of plan) i ≡ none → step_at ≡ none
  step-none e = go (ready (tables_of set) (plan_at plan i)) refl
    where
      go : (b : Bool) → ready (tables_of set) (plan_at plan i) ≡ b → step_at ≡ none
      go true r = by_rows true none none r e refl
      go false r = by_rows false none none r e refl

  pub step_unready : ready (tables_of set) (plan_at plan i) ≡ false → step_at ≡ none
  step_unready r = by_rows false _ none r refl refl

  pub step_left : (buffer : List ℕ) (long cells : ℕ) → ready (tables_of set) (plan_at plan i) ≡ true → Left set buffer (possible (tables_of set) (plan_of plan) i) long cells → Left set buffer step_at long cells
  step_left buffer long cells r l = record { after = l.after; is = by_rows true _ (some l.after) r l.is refl; stored = l.stored }

  pub left-shape : (buffer : List ℕ) (long cells : ℕ) → Left set buffer (possible (tables_of set) (plan_of plan) i) long cells
      → shape (tables_of set) (fresh (tables_of set) (plan_of plan)) (plan_at plan i) ≢ none
  left-shape buffer long cells l = possible-shape set plan input i inside l.after l.is

-- ---- the smallest place

module _ (T : Tables) (p : Plan) where
  -- where the rule that a place names does not fit, no step does, whatever its number
  pub step-other : (i : ℕ) → attempt T (record { number = number_at p i; place = i }) p ≡ none → (u : ℕ) → attempt T (record { number = u; place = i }) p ≡ none
  step-other i e u = go (attempt T (record { number = u; place = i }) p) refl
    where
      go : (o : Option Plan) → attempt T (record { number = u; place = i }) p ≡ o → attempt T (record { number = u; place = i }) p ≡ none
      go none f = f
      go (some q) f =
          let n : u ≡ number_at p i = one-rule T (record { number = u; place = i }) p q f in
          ap (λ (k : ℕ). attempt T (record { number = k; place = i }) p) n ∙ e

  -- where it does not, none does
  pub still-at : (i : ℕ) → attempt T (record { number = number_at p i; place = i }) p ≡ none → Still T p i
  still-at i e u l g = step-other i e u

  -- a step by another rule than its place names does not fit
  pub other-rule : (s : Step) → s.number ≢ number_at p s.place → attempt T s p ≡ none
  other-rule s d = go (attempt T s p) refl
    where
      go : (o : Option Plan) → attempt T s p ≡ o → o ≡ none
      go none f = refl
      go (some q) f = absurd (d (one-rule T s p q f))

  pub still-past : (i : ℕ) → size p ≤ i → Still T p i
  still-past i h u l g = attempt-past T p (record { number = u; place = i }) h

  -- one place more
  pub still-more : (i : ℕ) → ((j : ℕ) → j < i → Still T p j) → Still T p i → (j : ℕ) → j < i + 1 → Still T p j
  still-more i h k j l = elim (ℕ_discrete j i) [
    | yes e ↦ subst (Still T p) (sym e) k
    | no n ↦ h j (omega arith)
  ]

  -- all of them
  pub still-all : (n : ℕ) → size p ≤ n → ((j : ℕ) → j < n → Still T p j) → (i : ℕ) → Still T p i
  still-all n g h i = elim (dec_lt i n) [
    | yes l ↦ h i l
    | no l ↦ still-past i (omega arith)
  ]

-- a rule that makes something has a number from 1 to 8
shape_ruled : (T : Tables) (c : Option ℕ) (p : Plan) → shape T c p ≢ none → (1 ≤ rule_of p) × (rule_of p ≤ 8)
unfolding shape rule_of
shape_ruled T c (leaf x) h = absurd (h refl)
shape_ruled T c (one u p) h = absurd (h refl)
shape_ruled T c (two cross e f) h = absurd (h refl)
shape_ruled T c (two (semi m l r t) e f) h =
    elim (is_plain t) as (λ z. (1 ≤ cond z (cond m 4 3) 7) × (cond z (cond m 4 3) 7 ≤ 8)) [
      | true ↦ elim m as (λ z. (1 ≤ cond z 4 3) × (cond z 4 3 ≤ 8)) [ true ↦ (omega arith, omega arith) | false ↦ (omega arith, omega arith) ]
      | false ↦ (omega arith, omega arith)
    ]
shape_ruled T c (two (quant m t) e f) h = elim m as (λ z. (1 ≤ cond z 2 1) × (cond z 2 1 ≤ 8)) [ true ↦ (omega arith, omega arith) | false ↦ (omega arith, omega arith) ]
shape_ruled T c (two (fold a n t) e f) h = (omega arith, omega arith)
shape_ruled T c (two each e f) h = (omega arith, omega arith)
shape_ruled T c (two (pair a n l r k t) e f) h = (omega arith, omega arith)

module _ (set plan : List ℕ) (input : input_refusal set plan ≡ 0) where
  pub nodes-size : size (plan_of plan) ≤ nodes_of plan
  nodes-size = omega (arith, whole-size plan (plan_passed set plan (input-parts set plan input).1).whole)

  pub nodes-few : nodes_of plan ≤ 64
  nodes-few = (plan_passed set plan (input-parts set plan input).1).known.most

  -- the rule that a node tells is the one that its place names
  pub rule-named : (i rule : ℕ) → i < nodes_of plan → rule ≡ operator_rule (operator_at plan i) → rule ≡ number_at (plan_of plan) i
  rule-named i rule h e = e ∙ (sym (rule-at plan i h) ∙ sym (number-at set plan input i h))

  -- where a node has no rule, no step fits
  pub step-unruled : (i : ℕ) → i < nodes_of plan → 0 ≡ operator_rule (operator_at plan i) → (u : ℕ) → attempt (tables_of set) (record { number = u; place = i }) (plan_of plan) ≡ none
  step-unruled i h e =
      step-other (tables_of set) (plan_of plan) i
      (step-none set plan input i h (possible-none set plan input i h (rule-none (tables_of set) (fresh (tables_of set) (plan_of plan)) (plan_at plan i) (e ∙ sym (rule-at plan i h)))))

  -- the step that was found at place i, by the number that its node tells
  pub smallest-found : (buffer : List ℕ) (i rule long cells : ℕ) → i < nodes_of plan → rule ≡ operator_rule (operator_at plan i)
      → ((j : ℕ) → j < i → Still (tables_of set) (plan_of plan) j)
      → Left set buffer (attempt (tables_of set) (record { number = number_at (plan_of plan) i; place = i }) (plan_of plan)) long cells
      → Smallest set buffer (plan_of plan) rule i long cells
  smallest-found buffer i rule long cells h e first l =
      let r : rule ≡ rule_of (plan_at plan i) = e ∙ sym (rule-at plan i h) in
      let ruled = shape_ruled (tables_of set) (fresh (tables_of set) (plan_of plan)) (plan_at plan i) (λ z. none-ne-some l.after (sym (step-none set plan input i h (possible-none set plan input i h z)) ∙ l.is)) in
      record {
        low = omega (arith, ruled.0);
        high = omega (arith, ruled.1);
        first = first;
        left = subst (λ (k : ℕ). Left set buffer (attempt (tables_of set) (record { number = k; place = i }) (plan_of plan)) long cells) (sym (rule-named i rule h e)) l;
      }
