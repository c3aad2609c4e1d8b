-- A run is the only one from its plan, so steps that are found one after another are the unnesting call's; and how long what it writes can be.
-- Assumes nothing.
use Prim.Native.Nat.{ℕ, ◌*◌, max, ◌≤◌, ◌<◌}
use mathlib.Core.Path.{◌≡◌, refl, sym, ap, ◌∙◌, subst}
use mathlib.Core.List.{List, [], ◌∷◌, ◌++◌, map, append_assoc, append-nil}
use mathlib.Core.Option.{some, some-injective, none-ne-some}
use native.Mathlib.Omega.{arith}
use native.Mathlib.Decide.{dec_lt}
use lib.ListN.{length}
use Rattle.algebra.specs.Plans.{Tables, Plan}
use Rattle.algebra.specs.Places.{size}
use Rattle.algebra.specs.Refusals.{need}
use Rattle.algebra.specs.Steps.{Step, or_else, attempt, after}
use Rattle.algebra.specs.Demand3.{Still, Run, done, next}
use Rattle.algebra.proofs.Steps.{run_3, run_length, one-rule, weight-size}
use Rattle.reading.specs.TableSet.{tables_of}
use Rattle.reading.specs.Tree.{plan_of}
use Rattle.reading.specs.Check.{input_refusal}
use Rattle.reading.proofs.Places.{whole-size}
use Rattle.reading.proofs.PlanBytes.{plan_passed}
use Rattle.unnesting.specs.Unnest.{unnest_steps, unnest_plan, passed_through, largest, unnest_need, step_bytes, written_plan}
use Rattle.unnesting.proofs.Demand3.{input-parts, demand_3}

-- ---- only one run

module _ (T : Tables) where
  -- what fits at a place, by the step's number and what it leaves, is one
  pub same_number : (p q q' : Plan) (u v i : ℕ) → attempt T (record { number = u; place = i }) p ≡ some q → attempt T (record { number = v; place = i }) p ≡ some q' → u ≡ v
  same_number p q q' u v i e f = one-rule T (record { number = u; place = i }) p q e ∙ sym (one-rule T (record { number = v; place = i }) p q' f)

  -- no step fits where nothing does
  never : {C : Type 0} (p q : Plan) (u i : ℕ) → 1 ≤ u → u ≤ 8 → attempt T (record { number = u; place = i }) p ≡ some q → Still T p i → C
  never p q u i l g e h = absurd (none-ne-some q (sym (h u l g) ∙ e))

  same_place : (p q q' : Plan) (u v i j : ℕ) → 1 ≤ u → u ≤ 8 → 1 ≤ v → v ≤ 8
      → attempt T (record { number = u; place = i }) p ≡ some q → attempt T (record { number = v; place = j }) p ≡ some q'
      → ((k : ℕ) → k < i → Still T p k) → ((k : ℕ) → k < j → Still T p k) → i ≡ j
  same_place p q q' u v i j l g l' g' e f h k = elim (dec_lt i j) [
    | yes a ↦ never p q u i l g e (k i a)
    | no a ↦ elim (dec_lt j i) [
      | yes b ↦ never p q' v j l' g' f (h j b)
      | no b ↦ omega arith
    ]
  ]

  pub run-unique : {p last last' : Plan} {ss ss' : List Step} → Run T p ss last → Run T p ss' last' → ss ≡ ss'
  run-unique (done h) (done k) = refl
  run-unique {p} (done h) (next {q = q} {u = u} {i = i} l g e k r) = never p q u i l g e (h i)
  run-unique {p} (next {q = q} {u = u} {i = i} l g e k r) (done h) = never p q u i l g e (h i)
  run-unique {p} (next {q = q} {u = u} {i = i} {ss = ss} l g e h r) (next {q = q'} {last = last'} {u = v} {i = j} {ss = ss'} l' g' f k r') =
      let a : i ≡ j = same_place p q q' u v i j l g l' g' e f h k in
      let f₁ : attempt T (record { number = v; place = i }) p ≡ some q' = ap (λ (n : ℕ). attempt T (record { number = v; place = n }) p) a ∙ f in
      let b : u ≡ v = same_number p q q' u v i e f₁ in
      let c : q' ≡ q = some-injective q' q (sym f ∙ (sym (λ n. attempt T (record { number = b n; place = a n }) p) ∙ e)) in
      let d : ss ≡ ss' = run-unique r (subst (λ (z : Plan). Run T z ss' last') c r') in
      λ n. record { number = b n; place = a n } ∷ d n

-- ---- steps found one after another

after_more : (T : Tables) (us vs : List Step) (p : Plan) → after T (us ++ vs) p ≡ after T vs (after T us p)
unfolding after
after_more T [] vs p = refl
after_more T (u ∷ us) vs p = after_more T us vs (or_else p (attempt T u p))

-- the largest need after one step more
need-more : (T : Tables) (us : List Step) (s : Step) (p : Plan)
    → largest (map (need T) (passed_through T (us ++ (s ∷ [])) p)) ≡ max (largest (map (need T) (passed_through T us p))) (need T (after T (us ++ (s ∷ [])) p))
unfolding passed_through after
need-more T [] s p = omega arith
need-more T (u ∷ us) s p = let h = need-more T us s (or_else p (attempt T u p)) in omega (arith, h)

module _ (T : Tables) (p : Plan) where
  -- the steps us lead to q, and m is the largest need so far: a run from q makes one of the whole
  pub record Leads (us : List Step) (q : Plan) (m : ℕ) : Type 0 where
    pub whole : (vs : List Step) (last : Plan) → Run T q vs last → Run T p (us ++ vs) last
    pub leaves : after T us p ≡ q
    pub largest_need : largest (map (need T) (passed_through T us p)) ≡ m

  pub leads_start : Leads [] p (need T p)
  unfolding after passed_through
  leads_start = record { whole = λ vs last r. r; leaves = refl; largest_need = omega arith }

  pub leads-step : (us : List Step) (q q' : Plan) (m u i : ℕ) → Leads us q m → 1 ≤ u → u ≤ 8
      → attempt T (record { number = u; place = i }) q ≡ some q' → ((j : ℕ) → j < i → Still T q j)
      → Leads (us ++ (record { number = u; place = i } ∷ [])) q' (max m (need T q'))
  unfolding after
  leads-step us q q' m u i l a b e h =
      let s : Step = record { number = u; place = i } in
      let f : after T (us ++ (s ∷ [])) p ≡ q' = after_more T us (s ∷ []) p ∙ (ap (after T (s ∷ [])) l.leaves ∙ ap (or_else q) e) in
      record {
        whole = λ vs last r. subst (λ (ss : List Step). Run T p ss last) (sym (append_assoc us (s ∷ []) vs)) (l.whole (s ∷ vs) last (next a b e h r));
        leaves = f;
        largest_need = need-more T us s p ∙ (λ k. max (l.largest_need k) (need T (f k)));
      }

-- where nothing fits any more, these are the call's steps, its plan and its need
pub record Ended (set plan : List ℕ) (us : List Step) (q : Plan) (m : ℕ) : Type 0 where
  pub steps : unnest_steps set plan ≡ us
  pub left : unnest_plan set plan ≡ q
  pub needed : unnest_need set plan ≡ m

pub leads-end : (set plan : List ℕ) (us : List Step) (q : Plan) (m : ℕ) → Leads (tables_of set) (plan_of plan) us q m → ((i : ℕ) → Still (tables_of set) q i) → Ended set plan us q m
unfolding unnest_need
leads-end set plan us q m l h =
    let T = tables_of set in
    let r : Run T (plan_of plan) us q = subst (λ (ss : List Step). Run T (plan_of plan) ss q) (append-nil us) (l.whole [] q (done h)) in
    let e : unnest_steps set plan ≡ us = run-unique T (run_3 T (plan_of plan)) r in
    record {
      steps = e;
      left = ap (λ (ss : List Step). after T ss (plan_of plan)) e ∙ l.leaves;
      needed = ap (λ (ss : List Step). largest (map (need T) (passed_through T ss (plan_of plan)))) e ∙ l.largest_need;
    }

-- ---- how long what is written can be

pub steps-long : (ss : List Step) → length (step_bytes ss) ≡ 2 * length ss
steps-long [] = refl
steps-long (s ∷ ss) = omega (arith, steps-long ss)

module _ (set plan : List ℕ) (passed : input_refusal set plan ≡ 0) where
  pub plan-small : size (plan_of plan) ≤ 64
  plan-small = let a = plan_passed set plan (input-parts set plan passed).1 in omega (arith, whole-size plan a.whole, a.known.most)

  -- a node weighs at most 3
  pub steps-few : length (unnest_steps set plan) ≤ 192
  steps-few = omega (arith, run_length (tables_of set) (run_3 (tables_of set) (plan_of plan)), weight-size (plan_of plan), plan-small)

  pub plan_short : length (written_plan set plan) ≤ 2054
  plan_short =
      let d = demand_3 set plan passed (unnest_steps set plan) in
      let a = plan_passed set (written_plan set plan) (input-parts set (written_plan set plan) d.accepted).1 in
      omega (arith, a.known.long, a.known.most)
