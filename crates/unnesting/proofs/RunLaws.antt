-- The run over bytes: the steps found so far lead from the plan given to the one that is held. Assumes nothing.
use Prim.Native.Nat.{ℕ, ◌+◌, ◌*◌, ◌-◌, max, ◌≤◌, ◌<◌}
use mathlib.Core.Bool.{true}
use mathlib.Core.Path.{◌≡◌, refl, sym, ap, ◌∙◌, subst}
use mathlib.Core.List.{List, [], ◌∷◌, ◌++◌}
use native.Mathlib.Omega.{arith}
use lib.ListN.{length, take, drop, length-append}
use lib.Seq.{length-take-le, take_at}
use Rattle.algebra.specs.Plans.{Plan}
use Rattle.algebra.specs.Refusals.{need, passes}
use Rattle.algebra.specs.Steps.{weight, Step, attempt, after, run}
use Rattle.algebra.specs.Demand3.{Still}
use Rattle.algebra.proofs.Steps.{run_3, run_length, weight-size}
use Rattle.reading.specs.TableSet.{tables_of}
use Rattle.reading.specs.Tree.{plan_of}
use Rattle.reading.specs.Encoding.{plan_bytes}
use Rattle.reading.specs.Check.{input_refusal}
use Rattle.reading.proofs.Places.{flat_map-joined}
use Rattle.reading.proofs.PlanBytes.{plan_passed, accepted-bytes}
use Rattle.unnesting.specs.Unnest.{unnest_steps, unnest_need, step_bytes, written_steps, written_plan}
use Rattle.unnesting.specs.Images.{bytes_written}
use Rattle.unnesting.specs.Attempts.{Stored, Smallest, Ends}
use Rattle.unnesting.proofs.Demand3.{input-parts}
use Rattle.unnesting.proofs.UnnestLaws.{passed-need}
use Rattle.unnesting.proofs.Runs.{run-unique, Leads, leads_start, leads-step, leads-end, plan-small, steps-long, steps-few}

-- bytes written to the front stand there
pub front-written : (out bytes : List ℕ) → take (length bytes) (bytes_written out 0 bytes) ≡ bytes
front-written out bytes = take_at bytes (drop (0 + length bytes) out) (length bytes) refl

pub front-part : (out s : List ℕ) (n : ℕ) → n ≤ length s → take n (bytes_written out 0 (take (n - 0) s)) ≡ take n s
front-part out s n h =
    let z : n - 0 ≡ n = omega arith in
    let l : length (take n s) ≡ n = length-take-le n s h in
    rw z (ap (λ (k : ℕ). take k (bytes_written out 0 (take n s))) (sym l) ∙ front-written out (take n s))

-- ---- a plan that is held

-- the plan given, at the front of a buffer
pub stored-given : (set plan : List ℕ) → input_refusal set plan ≡ 0 → (current : List ℕ) (cells : ℕ) → passes (tables_of set) (plan_of plan) ≡ true → cells ≡ need (tables_of set) (plan_of plan)
    → take (length plan) current ≡ plan → Stored set current (length plan) cells (plan_of plan)
stored-given set plan input current cells passed e f =
    let b : plan ≡ plan_bytes (plan_of plan) = accepted-bytes set plan (input-parts set plan input).1 in
    let k = (plan_passed set plan (input-parts set plan input).1).known in
    record {
      bytes = f ∙ b;
      short = omega (arith, k.long, k.most);
      allowed = ap (input_refusal set) (sym b) ∙ input;
      passed = passed;
      read = ap plan_of (sym b);
      needed = e;
    }

-- the plan after a step, copied from one buffer to another
pub stored_moved : (set next current : List ℕ) (long cells : ℕ) (q : Plan) → Stored set next long cells q → take long current ≡ take long next → Stored set current long cells q
stored_moved set next current long cells q s e = record { bytes = e ∙ s.bytes; short = s.short; allowed = s.allowed; passed = s.passed; read = s.read; needed = s.needed }

-- it is accepted, with its need
pub record Held (set slice : List ℕ) (needed : ℕ) (q : Plan) : Type 0 where
  pub allowed : input_refusal set slice ≡ 0
  pub tree : plan_of slice ≡ q
  pub passed : passes (tables_of set) (plan_of slice) ≡ true
  pub needs : needed ≡ need (tables_of set) (plan_of slice)

pub held : (set current slice : List ℕ) (long needed : ℕ) (q : Plan) → Stored set current long needed q → slice ≡ take long current → Held set slice needed q
held set current slice long needed q s e =
    let b : slice ≡ plan_bytes q = e ∙ s.bytes in
    let t : plan_of slice ≡ q = ap plan_of b ∙ s.read in
    record {
      allowed = ap (input_refusal set) b ∙ s.allowed;
      tree = t;
      passed = ap (passes (tables_of set)) t ∙ s.passed;
      needs = s.needed ∙ sym (ap (need (tables_of set)) t);
    }

-- ---- the run

-- the steps us have led to the plan q, which is held with its need; m is the largest need so far
pub record Running (set plan : List ℕ) (room : ℕ) (current steps : List ℕ) (long needed count : ℕ) : Type 0 where
  pub us : List Step
  pub q : Plan
  pub m : ℕ
  pub leads : Leads (tables_of set) (plan_of plan) us q m
  pub stored : Stored set current long needed q
  pub written : take (2 * count) steps ≡ step_bytes us
  pub counted : length us ≡ count
  pub most : m ≤ max room needed

module _ (set plan : List ℕ) (input : input_refusal set plan ≡ 0) where
  pub running_start : (room : ℕ) (current steps : List ℕ) (cells : ℕ) → passes (tables_of set) (plan_of plan) ≡ true → cells ≡ need (tables_of set) (plan_of plan)
      → take (length plan) current ≡ plan → Running set plan room current steps (length plan) cells 0
  running_start room current steps cells passed e f =
      record {
        us = [];
        q = plan_of plan;
        m = need (tables_of set) (plan_of plan);
        leads = leads_start (tables_of set) (plan_of plan);
        stored = stored-given set plan input current cells passed e f;
        written = refl;
        counted = refl;
        most = omega arith;
      }

  -- no run has more steps than the plan given weighs
  leads-few : (us : List Step) (q : Plan) (m : ℕ) → Leads (tables_of set) (plan_of plan) us q m → length us ≤ 192
  leads-few us q m l =
      let T = tables_of set in
      let vs = run T (weight q) q in
      let r = l.whole vs (after T vs q) (run_3 T q) in
      omega (arith, run_length T r, length-append us vs, weight-size (plan_of plan), plan-small set plan input)

  module _ (room : ℕ) (current steps slice : List ℕ) (long needed count : ℕ) (r : Running set plan room current steps long needed count) where
    -- scratch is short of the plan that is held, so it is of one that the run passes through
    pub running_short : room < needed → room < unnest_need set plan
    unfolding unnest_need
    running_short h =
        let T = tables_of set in
        let vs = run T (weight r.q) r.q in
        let whole = r.leads.whole vs (after T vs r.q) (run_3 T r.q) in
        let e : unnest_steps set plan ≡ r.us ++ vs = run-unique T (run_3 T (plan_of plan)) whole in
        let n = passed-need T r.us vs (plan_of plan) in
        rw e (omega (arith, n, ap (need T) r.leads.leaves, r.stored.needed))

    module _ (is : slice ≡ take long current) (fits : needed ≤ room) where
      slice_tree : plan_of slice ≡ r.q
      slice_tree = (held set current slice long needed r.q r.stored is).tree

      -- where no rule fits, the run has ended
      pub running_end : length current ≡ 2086 → ((i : ℕ) → Still (tables_of set) (plan_of slice) i) → Ends set plan room current steps count long
      running_end e h =
          let d = leads-end set plan r.us r.q r.m r.leads (subst (λ (p : Plan). (i : ℕ) → Still (tables_of set) p i) slice_tree h) in
          let w : take long current ≡ written_plan set plan = r.stored.bytes ∙ ap plan_bytes (sym d.left) in
          record {
            enough = omega (arith, d.needed, r.most);
            counted = sym r.counted ∙ ap length (sym d.steps);
            written = r.written ∙ ap step_bytes (sym d.steps);
            bytes = sym (length-take-le long current (omega (arith, r.stored.short))) ∙ ap length w;
            last = w;
          }

      module _ (next : List ℕ) (rule place long' needed' : ℕ) (found : Smallest set next (plan_of slice) rule place long' needed') where
        found-leads : Leads (tables_of set) (plan_of plan) (r.us ++ (record { number = rule; place = place } ∷ [])) found.left.after (max r.m (need (tables_of set) found.left.after))
        found-leads =
            leads-step (tables_of set) (plan_of plan) r.us r.q found.left.after r.m rule place r.leads found.low found.high
            (ap (attempt (tables_of set) (record { number = rule; place = place })) (sym slice_tree) ∙ found.left.is)
            (λ j l. subst (λ (p : Plan). Still (tables_of set) p j) slice_tree (found.first j l))

        -- there is room for one step more
        pub running_room : count + 1 ≤ 192
        running_room = omega (arith, leads-few _ _ _ found-leads, length-append r.us (record { number = rule; place = place } ∷ []), r.counted)

        -- the next plan is held, and its step is written
        pub running_step : (current' steps' : List ℕ) → take long' current' ≡ take long' next → take (2 * (count + 1)) steps' ≡ take (2 * count) steps ++ (rule ∷ place ∷ [])
            → Running set plan room current' steps' long' needed' (count + 1)
        running_step current' steps' e f =
            let step : Step = record { number = rule; place = place } in
            let s = found.left.stored in
            record {
              us = r.us ++ (step ∷ []);
              q = found.left.after;
              m = max r.m (need (tables_of set) found.left.after);
              leads = found-leads;
              stored = stored_moved set next current' long' needed' found.left.after s e;
              written = f ∙ (ap (λ (bs : List ℕ). bs ++ (rule ∷ place ∷ [])) r.written ∙ sym (flat_map-joined (λ (s : Step). s.number ∷ s.place ∷ []) r.us (step ∷ [])));
              counted = length-append r.us (step ∷ []) ∙ omega (arith, r.counted);
              most = omega (arith, r.most, s.needed);
            }

-- ---- what is then written
module _ (set plan : List ℕ) (input : input_refusal set plan ≡ 0) (room : ℕ) (current steps : List ℕ) (count long : ℕ) (d : Ends set plan room current steps count long) where
  pub ended_plan : (out : List ℕ) → bytes_written out 0 (take (long - 0) current) ≡ bytes_written out 0 (written_plan set plan)
  ended_plan out = let z : long - 0 ≡ long = omega arith in ap (λ (n : ℕ). bytes_written out 0 (take n current)) z ∙ ap (bytes_written out 0) d.last

  pub ended-steps : (out : List ℕ) → bytes_written out 0 (take (2 * count - 0) steps) ≡ bytes_written out 0 (written_steps set plan)
  ended-steps out = let z : 2 * count - 0 ≡ 2 * count = omega arith in ap (λ (n : ℕ). bytes_written out 0 (take n steps)) z ∙ ap (bytes_written out 0) d.written

  pub ended-count : length (written_steps set plan) ≡ 2 * count
  ended-count = omega (arith, steps-long (unnest_steps set plan), d.counted)

  pub ended-few : count ≤ 192
  ended-few = omega (arith, d.counted, steps-few set plan input)
