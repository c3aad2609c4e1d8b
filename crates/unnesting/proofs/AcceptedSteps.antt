-- What is claimed of lists of steps made elsewhere: they are accepted exactly where they are right, our own are, and what is accepted gives the
-- same report. Assumes nothing.
use Rattle.std.specs.Prelude.{if◌then◌else◌}
use Prim.Native.Nat.{ℕ, suc, ◌*◌, ◌%◌, ◌≤◌}
use mathlib.Core.Bool.{Bool, true, false, true≢false, and-eq-true_iff}
use mathlib.Core.Path.{◌≡◌, refl, sym, ap, ◌∙◌, subst}
use mathlib.Core.List.{List, [], ◌∷◌}
use mathlib.Core.Option.{Option, none, some, none-ne-some}
use native.Mathlib.Omega.{arith}
use lib.Dec.{ltb}
use lib.ListN.{length, take}
use lib.Seq.{take_at}
use borrow.Author.Tests.{ltb-false, le-ltb, le-leb, eqb-true, eq-eqb}
use Rattle.algebra.specs.Lists.{all}
use Rattle.algebra.specs.Plans.{Tables, Plan}
use Rattle.algebra.specs.Steps.{Step, attempt, after, fitted}
use Rattle.algebra.specs.Demand3.{Still}
use Rattle.algebra.proofs.Lists.{same_true, same_self}
use Rattle.algebra.proofs.Steps.{run_3, run_fits}
use Rattle.reading.specs.TableSet.{tables_of}
use Rattle.reading.specs.Tree.{plan_of}
use Rattle.reading.specs.Encoding.{plan_bytes}
use Rattle.reading.specs.Check.{input_refusal}
use Rattle.reporting.proofs.Reports.{or-next}
use Rattle.unnesting.specs.Unnest.{unnest_steps, unnest_plan, unnest_need, unnest_scratch, unnest_number, step_bytes, written_steps, written_plan, Unnested}
use Rattle.unnesting.specs.Demand3.{plan_left, bytes_left}
use Rattle.unnesting.specs.CheckSteps.{listed, is_rule, list_number, fitting, reached_need, reached_scratch, end_number, check_steps_number, StepsChecked}
use Rattle.unnesting.specs.AcceptedSteps.{Fit, done, next, Right, SameReport, AcceptedSteps}
use Rattle.unnesting.proofs.Demand3.{none-fits, wrote, demand_3}
use Rattle.unnesting.proofs.Runs.{same_number, steps-long}
use Rattle.unnesting.proofs.FollowLaws.{listed-none, listed-step, after-fit, fitted-fit, fitted_unfit}

-- ---- the bytes of a list

-- the steps of their bytes are the steps
listed-bytes : (ss : List Step) → listed (step_bytes ss) ≡ ss
listed-bytes [] = listed-none [] (omega arith)
listed-bytes (s ∷ ss) = listed-step (step_bytes (s ∷ ss)) (omega arith) ∙ ap (λ (l : List Step). s ∷ l) (listed-bytes ss)

-- a list of even length is the bytes of its steps
bytes-listed : (bytes : List ℕ) → length bytes % 2 ≡ 0 → step_bytes (listed bytes) ≡ bytes
bytes-listed [] h = ap step_bytes (listed-none [] (omega arith))
bytes-listed (x ∷ []) h = absurd (omega arith)
bytes-listed (x ∷ y ∷ bytes) h = ap step_bytes (listed-step (x ∷ y ∷ bytes) (omega arith)) ∙ ap (λ (l : List ℕ). x ∷ y ∷ l) (bytes-listed bytes (omega arith))

-- ---- steps that each fit in their turn

module _ (T : Tables) where
  -- The number of a step that fits is from 1 to 8. Only one number fits at a place, so were it outside, none of 1 to 8 would fit there; and where
  -- none of these does, nothing does.
  fit-rule : (s : Step) (p q : Plan) → attempt T s p ≡ some q → is_rule s.number ≡ true
  fit-rule s p q e = go (is_rule s.number) refl
    where
      still : is_rule s.number ≡ false → Still T p s.place
      still f u l g = by (attempt T (record { number = u; place = s.place }) p) refl
        where
          by : (o : Option Plan) → attempt T (record { number = u; place = s.place }) p ≡ o → o ≡ none
          by none h = refl
          by (some r) h = absurd (true≢false (sym (rw (le-leb 1 u l, le-leb u 8 g)) ∙ (ap is_rule (same_number T p r q u s.number s.place h e) ∙ f)))

      go : (b : Bool) → is_rule s.number ≡ b → b ≡ true
      go true f = refl
      go false f = absurd (none-ne-some q (sym (none-fits T p s (still f)) ∙ e))

  fit-rules : {p last : Plan} {ss : List Step} → Fit T p ss last → all (λ s. is_rule s.number) ss ≡ true
  fit-rules done = refl
  fit-rules {p} (next {q = q} {s = s} e f) = rw (fit-rule s p q e) (fit-rules f)

  -- all of them fit, they leave the last plan, and all stand before the first that does not fit
  fit-every : {p last : Plan} {ss : List Step} → Fit T p ss last → fitted T ss p ≡ length ss
  unfolding fitted
  fit-every done = refl
  fit-every (next e f) = rw e (omega (arith, fit-every f))

  fit-last : {p last : Plan} {ss : List Step} → Fit T p ss last → after T ss p ≡ last
  unfolding after
  fit-last done = refl
  fit-last (next e f) = rw e (fit-last f)

  fit-fitting : {p last : Plan} {ss : List Step} → Fit T p ss last → fitting T ss p ≡ ss
  unfolding fitting
  fit-fitting done = refl
  fit-fitting (next {s = s} e f) = rw e (ap (λ (l : List Step). s ∷ l) (fit-fitting f))

  -- the other way: where as many fit as there are, each fits in its turn
  every-fit : (ss : List Step) (p : Plan) → fitted T ss p ≡ length ss → Fit T p ss (after T ss p)
  unfolding after
  every-fit [] p h = done
  every-fit (s ∷ ss) p h = go (attempt T s p) refl (every-fit ss)
    where
      go : (o : Option Plan) → attempt T s p ≡ o → ((q : Plan) → fitted T ss q ≡ length ss → Fit T q ss (after T ss q)) → Fit T p (s ∷ ss) (after T (s ∷ ss) p)
      go none e k = absurd (omega (arith, fitted_unfit T s ss p e))
      go (some q) e k = rw (after-fit T s ss p q e) (next e (k q (omega (arith, fitted-fit T s ss p q e))))

-- ---- the number is 0 exactly where nothing turns back

-- which way a test went that gave 0
test-holds : (b : Bool) (n : ℕ) → (if b then 0 else suc n) ≡ 0 → b ≡ true
test-holds true n e = refl
test-holds false n e = absurd (omega arith)

test_fails : (b : Bool) (n : ℕ) → (if b then suc n else 0) ≡ 0 → b ≡ false
test_fails true n e = absurd (omega arith)
test_fails false n e = refl

-- 16 is not met
scratch_enough : (room needed : ℕ) → ◌≡◌ {A = ℕ} (if ltb room needed then 16 else 0) 0 → needed ≤ room
scratch_enough room needed e = ltb-false room needed (test_fails (ltb room needed) 15 e)

-- what the call looks at, part by part
record Passed (set plan steps theirs : List ℕ) (scratch_room : ℕ) : Type 0 where
  input : input_refusal set plan ≡ 0
  even : length steps % 2 ≡ 0
  rules : all (λ s. is_rule s.number) (listed steps) ≡ true
  enough : reached_need set plan steps ≤ scratch_room
  every : fitted (tables_of set) (listed steps) (plan_of plan) ≡ length (listed steps)
  end : bytes_left set plan (listed steps) ≡ theirs

module _ (set plan steps theirs : List ℕ) (scratch_room : ℕ) where
  passed-number : Passed set plan steps theirs scratch_room → check_steps_number set plan steps theirs scratch_room ≡ 0
  unfolding check_steps_number list_number end_number
  passed-number h =
      rw (
        h.input,
        eq-eqb (length steps % 2) 0 h.even,
        h.rules,
        le-ltb scratch_room (reached_need set plan steps) h.enough,
        eq-eqb (fitted (tables_of set) (listed steps) (plan_of plan)) (length (listed steps)) h.every,
        h.end,
        same_self theirs,
      )

  number_passed : check_steps_number set plan steps theirs scratch_room ≡ 0 → Passed set plan steps theirs scratch_room
  unfolding check_steps_number list_number end_number
  number_passed e =
      let (input, a) = or-next (input_refusal set plan) _ e in
      let (list, b) = or-next (list_number steps) _ a in
      let (scratch, end) = or-next (reached_scratch set plan steps scratch_room) _ b in
      let (even, rules) = (and-eq-true_iff _ _).0 (test-holds _ 19 list) in
      let (every, left) = (and-eq-true_iff _ _).0 (test-holds _ 20 end) in
      record {
        input = input;
        even = eqb-true _ 0 even;
        rules = rules;
        enough = scratch_enough scratch_room (reached_need set plan steps) scratch;
        every = eqb-true _ _ every;
        end = same_true _ _ left;
      }

-- ---- the claims

right : (set plan steps theirs : List ℕ) (scratch_room : ℕ) → Right set plan steps theirs scratch_room → check_steps_number set plan steps theirs scratch_room ≡ 0
unfolding reached_need
right set plan steps theirs scratch_room r =
    let T = tables_of set in
    let l : listed steps ≡ r.list = ap listed r.bytes ∙ listed-bytes r.list in
    passed-number set plan steps theirs scratch_room (record {
      input = r.input;
      even = omega (arith, ap length r.bytes, steps-long r.list);
      rules = rw l (fit-rules T r.fit);
      enough = rw (l, fit-fitting T r.fit) r.enough;
      every = rw l (fit-every T r.fit);
      end = rw l (ap plan_bytes (fit-last T r.fit) ∙ sym r.end);
    })

nothing-else : (set plan steps theirs : List ℕ) (scratch_room : ℕ) → check_steps_number set plan steps theirs scratch_room ≡ 0 → Right set plan steps theirs scratch_room
unfolding reached_need
nothing-else set plan steps theirs scratch_room e =
    let T = tables_of set in
    let h = number_passed set plan steps theirs scratch_room e in
    let f = every-fit T (listed steps) (plan_of plan) h.every in
    record {
      input = h.input;
      list = listed steps;
      last = plan_left set plan (listed steps);
      bytes = sym (bytes-listed steps h.even);
      fit = f;
      end = sym h.end;
      enough = rw (fit-fitting T f) at h.enough;
    }

own : (set plan : List ℕ) (scratch_room : ℕ) → input_refusal set plan ≡ 0 → unnest_need set plan ≤ scratch_room
    → check_steps_number set plan (written_steps set plan) (written_plan set plan) scratch_room ≡ 0
unfolding unnest_need
own set plan scratch_room input enough =
    let T = tables_of set in
    right set plan (written_steps set plan) (written_plan set plan) scratch_room (record {
      input = input;
      list = unnest_steps set plan;
      last = unnest_plan set plan;
      bytes = refl;
      fit = every-fit T (unnest_steps set plan) (plan_of plan) (run_fits T (run_3 T (plan_of plan)));
      end = refl;
      enough = enough;
    })

own-written : (set plan plan_out plan_out' steps_out steps_out' scratch scratch' : List ℕ) (steps bytes : ℕ)
    → Unnested set plan plan_out plan_out' steps_out steps_out' scratch scratch' 0 steps bytes
    → check_steps_number set plan (take (2 * steps) steps_out') (take bytes plan_out') (length scratch) ≡ 0
unfolding unnest_number
own-written set plan plan_out plan_out' steps_out steps_out' scratch scratch' steps bytes u =
    let w = wrote set plan plan_out plan_out' steps_out steps_out' scratch scratch' steps bytes u in
    let (input, a) = or-next (input_refusal set plan) _ (sym u.number) in
    let enough = scratch_enough (length scratch) (unnest_need set plan) (or-next (unnest_scratch set plan (length scratch)) _ a).0 in
    let s : take (2 * steps) steps_out' ≡ written_steps set plan =
    ap (take (2 * steps)) w.steps_front ∙ take_at (written_steps set plan) _ (2 * steps) (omega (arith, steps-long (unnest_steps set plan), w.counted)) in
    rw (s, w.plan_front) (own set plan (length scratch) input enough)

same-report : (set plan steps theirs scratch scratch' : List ℕ) → StepsChecked set plan steps theirs scratch scratch' 0 → SameReport set plan theirs
same-report set plan steps theirs scratch scratch' c =
    let h = number_passed set plan steps theirs (length scratch) (sym c.number) in
    let d = demand_3 set plan h.input (listed steps) in
    subst (SameReport set plan) h.end (record { accepted = d.accepted; same_columns = d.same_columns; same_rows = d.same_rows; reporting = d.reporting })

pub accepted-steps : AcceptedSteps
accepted-steps = record { right = right; nothing_else = nothing-else; own = own; own_written = own-written; same_report = same-report }
