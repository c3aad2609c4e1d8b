-- Demand 3 over bytes. Assumes nothing.
use Rattle.std.specs.Prelude.{Ok}
use Prim.Native.Nat.{ℕ, zero, suc, ◌+◌, ◌*◌, ◌≤◌, ◌<◌}
use mathlib.Core.Bool.{true}
use mathlib.Core.Path.{◌≡◌, refl, sym, ap, ◌∙◌}
use mathlib.Core.List.{List, [], ◌∷◌, ◌++◌, map}
use mathlib.Core.Option
use mathlib.Core.Option.{Option, none, some, some-ne-none, none-ne-some}
use native.Mathlib.Omega.{arith}
use lib.IntN.{ℤ}
use lib.ListN.{length, take, drop}
use lib.Seq.{take_at}
use Rattle.algebra.specs.Lists.{flat_map}
use Rattle.algebra.specs.Plans.{Tables, Plan, columns, eval}
use Rattle.algebra.specs.Refusals.{passes}
use Rattle.algebra.specs.Rules.{outside, number_at}
use Rattle.algebra.specs.Steps.{Step, or_else, first, attempt, after, tried}
use Rattle.algebra.specs.Demand3.{Still, Run, done, next}
use Rattle.algebra.proofs.Steps.{attempt-passes, demand_3 as tree-demand-3, run_3, run_fits, one-rule, at-place-number}
use Rattle.reading.specs.TableSet.{read_set, tables_of}
use Rattle.reading.specs.Tree.{plan_of}
use Rattle.reading.specs.Encoding.{plan_bytes}
use Rattle.reading.specs.Check.{set_number, plan_refusal, input_refusal, input_refusal_as}
use Rattle.reading.proofs.PlanBytes.{plan_passed, accepted_plans}
use Rattle.reporting.specs.Report.{report_rows, report_columns, row_count, column_count, code_of, report_codes, count_after, output_after, Reported}
use Rattle.reporting.proofs.Reports.{or-next}
use Rattle.unnesting.specs.Unnest.{bytes_after, unnest_steps, unnest_plan, step_bytes, written_steps, written_plan, Unnested}
use Rattle.unnesting.specs.Demand3.{bytes_left, steps_in, OwnSteps, Claim}
use Rattle.reporting.proofs.Widths.{report-cells}

-- ---- the set and the plan are accepted apart

pub input-parts : (set plan : List ℕ) → input_refusal set plan ≡ 0 → (set_number (read_set set) ≡ 0) × (plan_refusal set plan ≡ 0)
unfolding input_refusal_as
input-parts set plan e = or-next (set_number (read_set set)) (plan_refusal set plan) e

pub input-from : (set plan : List ℕ) → set_number (read_set set) ≡ 0 → plan_refusal set plan ≡ 0 → input_refusal set plan ≡ 0
unfolding input_refusal_as
input-from set plan e f = rw (e, f)

-- ---- the plan left is accepted, and read back from its bytes

-- a plan whose bytes are accepted and are read as that plan
record Kept (set : List ℕ) (p : Plan) : Type 0 where
  accepts : plan_refusal set (plan_bytes p) ≡ 0
  reads : plan_of (plan_bytes p) ≡ p

kept-given : (set plan : List ℕ) → plan_refusal set plan ≡ 0 → Kept set (plan_of plan)
kept-given set plan e =
    let b = (accepted_plans set).encoding plan e in
    record { accepts = ap (plan_refusal set) b ∙ e; reads = ap plan_of b }

kept-passes : (set : List ℕ) (p : Plan) → passes (tables_of set) p ≡ true → Kept set p
kept-passes set p h = record { accepts = (accepted_plans set).accepted p h; reads = (accepted_plans set).back p h }

kept_step : (set : List ℕ) (s : Step) (p : Plan) → Kept set p → Kept set (or_else p (attempt (tables_of set) s p))
kept_step set s p k = go (attempt (tables_of set) s p) refl
  where
    go : (o : Option Plan) → attempt (tables_of set) s p ≡ o → Kept set (or_else p o)
    go none e = k
    go (some q) e = kept-passes set q (attempt-passes (tables_of set) s p q e)

kept-after : (set : List ℕ) (ss : List Step) (p : Plan) → Kept set p → Kept set (after (tables_of set) ss p)
unfolding after
kept-after set [] p k = k
kept-after set (s ∷ ss) p k = kept-after set ss (or_else p (attempt (tables_of set) s p)) (kept_step set s p k)

-- ---- the steps stand in their bytes

steps-in : (ss : List Step) (rest : List ℕ) → steps_in (length ss) (step_bytes ss ++ rest) ≡ ss
unfolding steps_in
steps-in [] rest = refl
steps-in (s ∷ ss) rest = ap (λ (l : List Step). s ∷ l) (steps-in ss rest)

-- ---- where no rule of 1 to 8 fits at a place, no step fits there

first-none : {A : Type 0} (n k : ℕ) (f : ℕ → Option A) → ((j : ℕ) → k ≤ j → j < k + n → f j ≡ none) → first n k f ≡ none
first-none zero k f h = refl
first-none (suc n) k f h = rw (h k (omega arith) (omega arith)) (first-none n (suc k) f (λ j l m. h j (omega arith) (omega arith)))

map-none : {A B : Type 0} (k : A → B) (o : Option A) → Option.map k o ≡ none → o ≡ none
map-none k none h = refl
map-none k (some a) h = absurd (some-ne-none _ h)

pub none-fits : (T : Tables) (p : Plan) (s : Step) → Still T p s.place → attempt T s p ≡ none
none-fits T p s still = go (attempt T s p) refl
  where
    named : tried T p s.place (number_at p s.place) ≡ none
    named =
        sym (at-place-number T p s.place)
        ∙ first-none 8 1 (tried T p s.place) (λ u l m. ap (Option.map (λ q. (record { number = u; place = s.place }, q))) (still u l (omega arith)))

    go : (o : Option Plan) → attempt T s p ≡ o → o ≡ none
    go none e = refl
    go (some q) e =
        let n : attempt T (record { number = number_at p s.place; place = s.place }) p ≡ none = map-none _ _ named in
        absurd (none-ne-some q (sym n ∙ (ap (λ (u : ℕ). attempt T (record { number = u; place = s.place }) p) (sym (one-rule T s p q e)) ∙ e)))

run-still : (T : Tables) {p last : Plan} {ss : List Step} → Run T p ss last → (i : ℕ) → Still T last i
run-still T (done h) = h
run-still T (next l g e h r) = run-still T r

-- ---- the parts

module _ (set plan : List ℕ) where
  own-steps : OwnSteps set plan (unnest_steps set plan) (length (unnest_steps set plan)) (written_plan set plan)
  own-steps =
      let r = run_3 (tables_of set) (plan_of plan) in
      record { counted = refl; runs = r; every_fits = run_fits (tables_of set) r; leaves = refl; none_left = λ s. none-fits (tables_of set) (unnest_plan set plan) s (run-still (tables_of set) r s.place) }

  -- what a call that is not refused wrote
  pub record Wrote (plan_out' steps_out steps_out' : List ℕ) (steps bytes : ℕ) : Type 0 where
    pub counted : steps ≡ length (unnest_steps set plan)
    pub plan_front : take bytes plan_out' ≡ written_plan set plan
    pub steps_front : steps_out' ≡ written_steps set plan ++ drop (length (written_steps set plan)) steps_out

  pub wrote : (plan_out plan_out' steps_out steps_out' scratch scratch' : List ℕ) (steps bytes : ℕ)
      → Unnested set plan plan_out plan_out' steps_out steps_out' scratch scratch' 0 steps bytes
      → Wrote plan_out' steps_out steps_out' steps bytes
  wrote plan_out plan_out' steps_out steps_out' scratch scratch' steps bytes u =
      let n = sym u.number in
      let w = written_plan set plan in
      let b : bytes ≡ length w = u.byte_count ∙ ap (λ (k : ℕ). count_after k (length w)) n in
      let p : plan_out' ≡ w ++ drop (length w) plan_out = u.plan_written ∙ ap (λ (k : ℕ). bytes_after k w plan_out) n in
      record {
        counted = u.step_count ∙ ap (λ (k : ℕ). count_after k (length (unnest_steps set plan))) n;
        plan_front = ap (take bytes) p ∙ take_at w (drop (length w) plan_out) bytes (sym b);
        steps_front = u.steps_written ∙ ap (λ (k : ℕ). bytes_after k (written_steps set plan) steps_out) n;
      }

  -- these are its own steps and the plan that they leave
  own-written : (plan_out plan_out' steps_out steps_out' scratch scratch' : List ℕ) (steps bytes : ℕ)
      → Unnested set plan plan_out plan_out' steps_out steps_out' scratch scratch' 0 steps bytes
      → OwnSteps set plan (steps_in steps steps_out') steps (take bytes plan_out')
  own-written plan_out plan_out' steps_out steps_out' scratch scratch' steps bytes u =
      let w = wrote plan_out plan_out' steps_out steps_out' scratch scratch' steps bytes u in
      let o : steps_in steps steps_out' ≡ unnest_steps set plan =
      (λ i. steps_in (w.counted i) (w.steps_front i)) ∙ steps-in (unnest_steps set plan) (drop (length (written_steps set plan)) steps_out) in
      rw (o, w.counted, w.plan_front) own-steps

-- an answer of the reporting call that is not refused is the report's counts and cells
record Answered (set plan : List ℕ) (cells : List ℤ) (rows columns : ℕ) : Type 0 where
  rows_are : rows ≡ row_count set plan
  columns_are : columns ≡ column_count set plan
  cells_are : cells ≡ report_codes set plan

answered : (set plan : List ℕ) (out out' : List ℤ) (scratch scratch' : List ℕ) (rows columns : ℕ) → Reported set plan out out' scratch scratch' (Ok (record { rows = rows; columns = columns }))
    → Answered set plan (take (rows * columns) out') rows columns
answered set plan out out' scratch scratch' rows columns r =
    let n = sym r.number in
    let codes = report_codes set plan in
    let a : rows ≡ row_count set plan = r.rows ∙ ap (λ (k : ℕ). count_after k (row_count set plan)) n in
    let b : columns ≡ column_count set plan = r.columns ∙ ap (λ (k : ℕ). count_after k (column_count set plan)) n in
    let c : out' ≡ codes ++ drop (length codes) out = r.output ∙ ap (λ (k : ℕ). output_after k codes out) n in
    let l : length codes ≡ rows * columns = report-cells code_of set (plan_of plan) outside ∙ sym (λ i. a i * b i) in
    record { rows_are = a; columns_are = b; cells_are = ap (take (rows * columns)) c ∙ take_at codes (drop (length codes) out) (rows * columns) l }

pub demand_3 : Claim
demand_3 set plan e ss =
    let T = tables_of set in
    let (a, b) = input-parts set plan e in
    let k = kept-after set ss (plan_of plan) (kept-given set plan b) in
    let d = tree-demand-3 T ss (plan_of plan) (plan_passed set plan b).unrefused in
    let left = bytes_left set plan ss in
    let cs : report_columns set left ≡ report_columns set plan = ap (columns T) k.reads ∙ d.unchanged.same_columns in
    let rs : report_rows set left ≡ report_rows set plan = ap (λ (p : Plan). eval T p outside) k.reads ∙ d.unchanged.same_rows_of outside in
    record {
      accepted = input-from set left a k.accepts;
      read_back = k.reads;
      same_columns = cs;
      same_rows = rs;
      paid = rw k.reads d.paid;
      unnesting = own-written set plan;
      reporting = λ out out' scratch scratch' rows columns r next next' more more' rows' columns' q.
          let f = answered set plan out out' scratch scratch' rows columns r in
          let g = answered set left next next' more more' rows' columns' q in
          record {
            rows_same = g.rows_are ∙ (ap length rs ∙ sym f.rows_are);
            columns_same = g.columns_are ∙ (ap length cs ∙ sym f.columns_are);
            cells_same = g.cells_are ∙ (ap (flat_map (map code_of)) rs ∙ sym f.cells_are);
            rows_defined = f.rows_are;
            columns_defined = f.columns_are;
            cells_defined = f.cells_are;
          };
    }
