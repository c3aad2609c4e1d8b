-- A list of steps followed over bytes: each step in its turn, from the plan given to the one that is held. Assumes nothing.
use Prim.Native.Nat.{ℕ, zero, suc, ◌+◌, ◌*◌, ◌-◌, ◌/◌, max, ◌≤◌, ◌<◌}
use mathlib.Core.Bool.{true}
use mathlib.Core.Path.{◌≡◌, refl, sym, ap, ◌∙◌}
use mathlib.Core.List.{List, [], ◌∷◌}
use mathlib.Core.Option.{Option, none, some}
use native.Mathlib.Omega.{arith}
use lib.ListN.{length, take, drop, get_or, length-drop}
use lib.Seq.{get_or-drop, drop-drop}
use Rattle.std.specs.Simd.{first_chunks}
use Rattle.std.proofs.lemmas.List.{get_or-take}
use Rattle.algebra.specs.Plans.{Tables, Plan}
use Rattle.algebra.specs.Refusals.{need, passes}
use Rattle.algebra.specs.Steps.{Step, or_else, fits, attempt, after, fitted}
use Rattle.reading.specs.TableSet.{tables_of}
use Rattle.reading.specs.Tree.{plan_of}
use Rattle.reading.specs.Encoding.{plan_bytes}
use Rattle.reading.specs.Check.{input_refusal}
use Rattle.unnesting.specs.Unnest.{passed_through, steps_need}
use Rattle.unnesting.specs.Demand3.{steps_in}
use Rattle.unnesting.specs.CheckSteps.{listed, fitting, reached_need}
use Rattle.unnesting.specs.Attempts.{Stored, Left, Arrives, Fails}
use Rattle.unnesting.proofs.UnnestLaws.{passed_first}
use Rattle.unnesting.proofs.RunLaws.{stored-given, stored_moved, held}

-- ---- the steps of a list

-- fewer than two bytes are no step
pub listed-none : (bytes : List ℕ) → length bytes < 2 → listed bytes ≡ []
unfolding steps_in
listed-none bytes h = let z : length bytes / 2 ≡ 0 = omega arith in rw z

-- two bytes are a step, and the rest is a list
pub listed-step : (bytes : List ℕ) → 2 ≤ length bytes → listed bytes ≡ record { number = get_or bytes 0 0; place = get_or bytes 1 0 } ∷ listed (drop 2 bytes)
unfolding steps_in
listed-step bytes h =
    let z : length bytes / 2 ≡ suc (length (drop 2 bytes) / 2) = omega (arith, length-drop 2 bytes) in
    rw z

-- the step at a byte of a list
pub listed_at : (steps : List ℕ) (at : ℕ) → 2 ≤ length steps - at
    → listed (drop at steps) ≡ record { number = get_or steps at 0; place = get_or steps (at + 1) 0 } ∷ listed (drop (at + 2) steps)
listed_at steps at h =
    listed-step (drop at steps) (omega (arith, length-drop at steps))
    ∙ (λ i. record { number = first i; place = get_or-drop at steps 1 0 i } ∷ listed (drop-drop 2 at steps i))
  where
    first : get_or (drop at steps) 0 0 ≡ get_or steps at 0
    first = let z : at + 0 ≡ at = omega arith in get_or-drop at steps 0 0 ∙ ap (λ (k : ℕ). get_or steps k 0) z

-- the bytes of a list in pairs
pub paired : (bytes : List ℕ) (n k j m : ℕ) → 2 * n ≤ length bytes → k < n → j < 2 → m ≡ 2 * k + j → get_or (get_or (first_chunks 2 n bytes) k []) j 0 ≡ get_or bytes m 0
paired bytes zero k j m h i l e = absurd (omega arith)
paired bytes (suc n) zero j m h i l e =
    let z : j ≡ m = omega arith in get_or-take 2 bytes j 0 l ∙ ap (λ (p : ℕ). get_or bytes p 0) z
paired bytes (suc n) (suc k) j m h i l e =
    let z : 2 + (m - 2) ≡ m = omega arith in
    paired (drop 2 bytes) n k j (m - 2) (omega (arith, length-drop 2 bytes)) (omega arith) l (omega arith) ∙ (get_or-drop 2 bytes (m - 2) 0 ∙ ap (λ (p : ℕ). get_or bytes p 0) z)

-- ---- one step of a list, in its turn

module _ (T : Tables) where
  pub fitted-most : (ss : List Step) (p : Plan) → fitted T ss p ≤ length ss
  unfolding fitted
  fitted-most [] p = omega arith
  fitted-most (s ∷ ss) p = go (attempt T s p) (fitted-most ss (or_else p (attempt T s p)))
    where
      go : (o : Option Plan) → fitted T ss (or_else p o) ≤ length ss → fits o + fitted T ss (or_else p o) ≤ suc (length ss)
      go none h = omega arith
      go (some q) h = omega arith

  module _ (s : Step) (ss : List Step) (p : Plan) where
    -- where it fits
    module _ (q : Plan) (e : attempt T s p ≡ some q) where
      pub after-fit : after T (s ∷ ss) p ≡ after T ss q
      unfolding after
      after-fit = rw e

      pub fitted-fit : fitted T (s ∷ ss) p ≡ 1 + fitted T ss q
      unfolding fitted
      fitted-fit = rw e

      pub fitting-fit : fitting T (s ∷ ss) p ≡ s ∷ fitting T ss q
      unfolding fitting
      fitting-fit = rw e

      pub need-fit : steps_need T (fitting T (s ∷ ss) p) p ≡ max (need T p) (steps_need T (fitting T ss q) q)
      unfolding passed_through
      need-fit = rw (fitting-fit, e)

    -- where it does not fit
    module _ (e : attempt T s p ≡ none) where
      pub fitted_unfit : fitted T (s ∷ ss) p ≤ length ss
      unfolding fitted
      fitted_unfit = rw e (omega (arith, fitted-most ss p))

      pub need_unfit : steps_need T (fitting T (s ∷ ss) p) p ≡ need T p
      unfolding passed_through fitting
      need_unfit = rw e (omega arith)

-- ---- the list over bytes

-- The first k steps have all fitted, and led to the plan q, which is held with its need. What is still to be told of the whole list is told by
-- the steps from there on.
pub record Following (set plan steps : List ℕ) (room : ℕ) (current : List ℕ) (long needed k : ℕ) : Type 0 where
  pub q : Plan
  pub stored : Stored set current long needed q
  pub left : after (tables_of set) (listed steps) (plan_of plan) ≡ after (tables_of set) (listed (drop (2 * k) steps)) q
  pub fit : fitted (tables_of set) (listed steps) (plan_of plan) + length (listed (drop (2 * k) steps)) ≡ length (listed steps) + fitted (tables_of set) (listed (drop (2 * k) steps)) q
  pub most : max room (reached_need set plan steps) ≡ max room (steps_need (tables_of set) (fitting (tables_of set) (listed (drop (2 * k) steps)) q) q)

module _ (set plan steps : List ℕ) (room : ℕ) where
  abbrev T : Tables
  T = tables_of set

  pub following_start : (current : List ℕ) (cells : ℕ) → input_refusal set plan ≡ 0 → passes T (plan_of plan) ≡ true → cells ≡ need T (plan_of plan)
      → take (length plan) current ≡ plan → Following set plan steps room current (length plan) cells 0
  unfolding reached_need
  following_start current cells input passed e f =
      record { q = plan_of plan; stored = stored-given set plan input current cells passed e f; left = refl; fit = omega arith; most = refl }

  module _ (current : List ℕ) (long needed k : ℕ) (r : Following set plan steps room current long needed k) where
    -- scratch is short of the plan that is held
    pub following_short : room < needed → room < reached_need set plan steps
    following_short h = omega (arith, passed_first T (fitting T (listed (drop (2 * k) steps)) r.q) r.q, r.most, r.stored.needed)

    module _ (enough : needed ≤ room) where
      -- no step is left
      pub following_end : length steps / 2 ≤ k → Arrives set plan steps room current long
      unfolding passed_through fitting after fitted
      following_end h =
          let z : listed (drop (2 * k) steps) ≡ [] = listed-none (drop (2 * k) steps) (omega (arith, length-drop (2 * k) steps)) in
          let n = r.most ∙ ap (λ (ss : List Step). max room (steps_need T (fitting T ss r.q) r.q)) z in
          let f = ap (λ (ss : List Step). fitted T (listed steps) (plan_of plan) + length ss) (sym z) ∙ (r.fit ∙ ap (λ (ss : List Step). length (listed steps) + fitted T ss r.q) z) in
          let a : after T (listed steps) (plan_of plan) ≡ r.q = r.left ∙ ap (λ (ss : List Step). after T ss r.q) z in
          record { enough = omega (arith, n, r.stored.needed); every = omega (arith, f); last = r.stored.bytes ∙ ap plan_bytes (sym a); short = r.stored.short }

      -- a step is left, and is tried on the plan that is held
      module _ (slice : List ℕ) (is : slice ≡ take long current) (more : k < length steps / 2) (rule place : ℕ)
          (first : rule ≡ get_or steps (2 * k) 0) (second : place ≡ get_or steps (2 * k + 1) 0)
        where
          abbrev step : Step
          step = record { number = rule; place = place }

          abbrev rest : List Step
          rest = listed (drop (2 * (k + 1)) steps)

          here : listed (drop (2 * k) steps) ≡ step ∷ rest
          here =
              let z : 2 * k + 2 ≡ 2 * (k + 1) = omega arith in
              listed_at steps (2 * k) (omega arith) ∙ (λ i. record { number = sym first i; place = sym second i } ∷ listed (drop (z i) steps))

          need-here : max room (reached_need set plan steps) ≡ max room (steps_need T (fitting T (step ∷ rest) r.q) r.q)
          need-here = r.most ∙ ap (λ (ss : List Step). max room (steps_need T (fitting T ss r.q) r.q)) here

          fit-here : fitted T (listed steps) (plan_of plan) + length (step ∷ rest) ≡ length (listed steps) + fitted T (step ∷ rest) r.q
          fit-here = ap (λ (ss : List Step). fitted T (listed steps) (plan_of plan) + length ss) (sym here) ∙ (r.fit ∙ ap (λ (ss : List Step). length (listed steps) + fitted T ss r.q) here)

          tried_here : attempt T step r.q ≡ attempt T step (plan_of slice)
          tried_here = ap (attempt T step) (sym (held set current slice long needed r.q r.stored is).tree)

          -- it does not fit
          pub following_unfit : attempt T step (plan_of slice) ≡ none → Fails set plan steps room
          following_unfit e =
              record {
                enough = omega (arith, need-here, need_unfit T step rest r.q (tried_here ∙ e), r.stored.needed);
                fewer = omega (arith, fit-here, fitted_unfit T step rest r.q (tried_here ∙ e));
              }

          -- it fits, and the plan after it is held
          pub following_step : (next current' : List ℕ) (long' needed' : ℕ) → Left set next (attempt T step (plan_of slice)) long' needed'
              → take long' current' ≡ take long' next → Following set plan steps room current' long' needed' (k + 1)
          following_step next current' long' needed' l e =
              let fits : attempt T step r.q ≡ some l.after = tried_here ∙ l.is in
              record {
                q = l.after;
                stored = stored_moved set next current' long' needed' l.after l.stored e;
                left = r.left ∙ (ap (λ (ss : List Step). after T ss r.q) here ∙ after-fit T step rest r.q l.after fits);
                fit = omega (arith, fit-here, fitted-fit T step rest r.q l.after fits);
                most = omega (arith, need-here, need-fit T step rest r.q l.after fits, r.stored.needed);
              }
