-- Lists of steps: columns and rows stay, and the steps that fit are paid for by weight. The run ends where nothing fits.
-- Assumes nothing.
use Prim.Native.Nat.{ℕ, zero, suc, ◌+◌, ◌*◌, ◌-◌, ◌≤◌, ◌<◌}
use mathlib.Core.Bool.{true, false, cond}
use mathlib.Core.Path.{◌≡◌, refl, ap, ap₂, sym, ◌∙◌, subst}
use mathlib.Core.List.{List, [], ◌∷◌}
use mathlib.Core.Logic.{◌≢◌}
use mathlib.Core.Option.{Option, none, some, map, some-ne-none, none-ne-some, map-eq-some_iff}
use native.Mathlib.Omega.{arith}
use lib.Dec.{eqb, ltb}
use lib.ListN.{length}
use borrow.Author.Tests.{ltb-true, ltb-false, le-ltb, eqb-true, eqb-false}
use Rattle.algebra.specs.Plans.{Tables, is_plain, Unary, Binary, cross, semi, quant, fold, each, pair, Plan, leaf, one, two, unary_columns, binary_columns, columns, act, joined, eval_within}
use Rattle.algebra.specs.Places.{size, here, modify, look}
use Rattle.algebra.specs.Refusals.{refusal, passes}
use Rattle.algebra.specs.Rules.{top, only_of, when, sequenced, u3, u7, rule_of, unnest, rule, number_at, fresh}
use Rattle.algebra.specs.Steps.{binary_weight, weight, Step, or_else, fits, first_or, first, follow, accepted, attempt, after, fitted, tried, at_place, smallest, run}
use Rattle.algebra.specs.Demand3.{Same, Demand3, Still, Run, done, next}
use Rattle.algebra.proofs.Refusals.{passes-refusal}
use Rattle.algebra.proofs.Fine.{refusal-fine}
use Rattle.algebra.proofs.Change.{OnSome, look-root, changed}
use Rattle.algebra.proofs.Sound.{Better, Good, unnest-good}

module _ (T : Tables) where
  pub same_refl : (p : Plan) → Same T p p
  same_refl p = record { same_columns = refl; same_rows_of = λ env. refl }

  pub same-trans : {p q r : Plan} → Same T p q → Same T q r → Same T p r
  same-trans s t = record { same_columns = s.same_columns ∙ t.same_columns; same_rows_of = λ env. s.same_rows_of env ∙ t.same_rows_of env }

  -- ---- congruence
  same-one : (u : Unary) {p q : Plan} → Same T p q → Same T (one u p) (one u q)
  unfolding eval_within columns
  same-one u s = record {
    same_columns = ap (unary_columns u) s.same_columns;
    same_rows_of = λ env i. act u (s.same_columns i) env (s.same_rows_of env i);
  }

  same-two : (b : Binary) {p q p' q' : Plan} → Same T p q → Same T p' q' → Same T (two b p p') (two b q q')
  unfolding eval_within columns
  same-two b s t = record {
    same_columns = ap₂ (binary_columns b) s.same_columns t.same_columns;
    same_rows_of = λ env i. joined b (s.same_columns i) (t.same_columns i) (s.same_rows_of env i) (λ f. t.same_rows_of f i) env;
  }

  -- a change that keeps columns and rows where it is made keeps those of the whole plan
  pub congruence : (k : Plan → Option Plan) → ((q : Plan) → OnSome (λ q'. Same T q' q) (k q)) → (p : Plan) (i : ℕ) → OnSome (λ p'. Same T p' p) (modify k p i)
  congruence k h = changed k (λ p i p'. Same T p' p) h (λ u p j q s. same-one u s) (λ b e f j q z s. same-two b s (same_refl f)) (λ b e f j q z s. same-two b (same_refl e) s)

  better_one : (u : Unary) {p q : Plan} → Better T p q → Better T (one u p) (one u q)
  unfolding weight
  better_one u b = record { agrees = λ v w. same-one u (b.agrees v.1 w.1); lighter = b.lighter }

  better_left : (b : Binary) {p q : Plan} (f : Plan) → Better T p q → Better T (two b p f) (two b q f)
  unfolding weight
  better_left b f k = record { agrees = λ v w. same-two b (k.agrees v.1 w.1) (same_refl f); lighter = omega arith }

  better_right : (b : Binary) (e : Plan) {p q : Plan} → Better T p q → Better T (two b e p) (two b e q)
  unfolding weight
  better_right b e k = record { agrees = λ v w. same-two b (same_refl e) (k.agrees v.2 w.2); lighter = omega arith }

  rule-good : (c : Option ℕ) (u : ℕ) (p : Plan) → Good T p (rule T (sequenced T) c u p)
  unfolding rule
  rule-good c u p = elim (eqb u (rule_of p)) as (λ z. Good T p (cond z (unnest T (sequenced T) c p) none)) [ true ↦ unnest-good T c p | false ↦ tt ]

  modify-good : (c : Option ℕ) (u : ℕ) (p : Plan) (i : ℕ) → Good T p (modify (rule T (sequenced T) c u) p i)
  modify-good c u =
      changed (rule T (sequenced T) c u) (λ p i q. Better T p q) (rule-good c u) (λ u p j q h. better_one u h) (λ b e f j q z h. better_left b f h) (λ b e f j q z h. better_right b e h)

module _ (T : Tables) where
  -- ---- one step
  record Stepped (p q : Plan) : Type 0 where
    stays : refusal T p ≡ 0 → Same T q p
    falls : weight q < weight p
    accepts : passes T q ≡ true

  abbrev Fits : Plan → Option Plan → Type 0
  Fits p o = OnSome (Stepped p) o

  fits-accepted : (p : Plan) (o : Option Plan) → Good T p o → Fits p (accepted T o)
  fits-accepted p none g = tt
  fits-accepted p (some q) g =
      (elim (passes T q) as (λ z. passes T q ≡ z → Fits p (when z q)) [ true ↦ λ e. record { stays = λ h. g.agrees (refusal-fine T p h) (refusal-fine T q (passes-refusal T q e)); falls = g.lighter; accepts = e } | false ↦ λ e. tt ]) refl

  attempt-fits : (s : Step) (p : Plan) → Fits p (attempt T s p)
  unfolding attempt
  attempt-fits s p = fits-accepted p (modify (rule T (sequenced T) (fresh T p) s.number) p s.place) (modify-good T (fresh T p) s.number p s.place)

  stepped : (s : Step) (p q : Plan) → attempt T s p ≡ some q → Stepped p q
  stepped s p q e = subst (Fits p) e (attempt-fits s p)

  pub attempt-same : (s : Step) (p q : Plan) → refusal T p ≡ 0 → attempt T s p ≡ some q → Same T q p
  attempt-same s p q h e = (stepped s p q e).stays h

  pub attempt-lighter : (s : Step) (p q : Plan) → attempt T s p ≡ some q → weight q < weight p
  attempt-lighter s p q e = (stepped s p q e).falls

  pub attempt-passes : (s : Step) (p q : Plan) → attempt T s p ≡ some q → passes T q ≡ true
  attempt-passes s p q e = (stepped s p q e).accepts

  -- ---- demand 3: for every plan that 11 to 14 do not turn back and every list of steps
  unrefused-after : (p : Plan) (o : Option Plan) → Fits p o → refusal T p ≡ 0 → refusal T (or_else p o) ≡ 0
  unrefused-after p none f h = h
  unrefused-after p (some q) f h = passes-refusal T q f.accepts

  unchanged-by : (ss : List Step) (p : Plan) → refusal T p ≡ 0 → Same T (after T ss p) p
  unfolding after
  unchanged-by [] p h = same_refl T p
  unchanged-by (s ∷ ss) p h = go (attempt T s p) (attempt-fits s p) (unchanged-by ss (or_else p (attempt T s p)) (unrefused-after p (attempt T s p) (attempt-fits s p) h))
    where
      go : (o : Option Plan) → Fits p o → Same T (after T ss (or_else p o)) (or_else p o) → Same T (after T ss (or_else p o)) p
      go none f d = d
      go (some q) f d = same-trans T d (f.stays h)

  -- the steps that fit are paid for, from any plan
  pub paid-by : (ss : List Step) (p : Plan) → fitted T ss p + weight (after T ss p) ≤ weight p
  unfolding after fitted
  paid-by [] p = omega arith
  paid-by (s ∷ ss) p = go (attempt T s p) (attempt-fits s p) (paid-by ss (or_else p (attempt T s p)))
    where
      go : (o : Option Plan) → Fits p o → fitted T ss (or_else p o) + weight (after T ss (or_else p o)) ≤ weight (or_else p o)
          → fits o + fitted T ss (or_else p o) + weight (after T ss (or_else p o)) ≤ weight p
      go none f d = omega arith
      go (some q) f d = omega arith

  pub demand_3 : (ss : List Step) (p : Plan) → refusal T p ≡ 0 → Demand3 T ss p
  demand_3 ss p h = record { unchanged = unchanged-by ss p h; paid = paid-by ss p }

-- ---- the run
abbrev First : {A : Type 0} → ℕ → ℕ → (ℕ → Option A) → Option A → Type 0
First n k f none = (j : ℕ) → k ≤ j → j < k + n → f j ≡ none
First n k f (some a) = (j : ℕ) × (k ≤ j) × (j < k + n) × (f j ≡ some a) × ((i : ℕ) → k ≤ i → i < j → f i ≡ none)

-- at k, or past it
from_next : (P : ℕ → Type 0) (k j : ℕ) → P k → (suc k ≤ j → P j) → k ≤ j → P j
from_next P k j h g le =
    (elim (eqb j k) as (λ b. eqb j k ≡ b → P j) [
      | true ↦ λ e. subst P (sym (eqb-true j k e)) h
      | false ↦ λ e. let d : j ≢ k = eqb-false j k e in g (omega arith)
    ]) refl

first-is : {A : Type 0} (n k : ℕ) (f : ℕ → Option A) → First n k f (first n k f)
first-is zero k f = λ j h g. absurd (omega arith)
first-is (suc n) k f = go (f k) refl (first n (suc k) f) (first-is n (suc k) f)
  where
    go : (x : Option _) → f k ≡ x → (y : Option _) → First n (suc k) f y → First (suc n) k f (first_or x y)
    go (some a) e y h = (k, omega arith, omega arith, e, λ i p q. absurd (omega arith))
    go none e none h = λ j p q. from_next (λ j. f j ≡ none) k j e (λ r. h j r (omega arith)) p
    go none e (some a) (j, p, q, r, h) = (j, omega arith, omega arith, r, λ i u v. from_next (λ i. f i ≡ none) k i e (λ w. h i w v) u)

here-past : (n i : ℕ) (o : Option Plan) (below : ℕ → Option Plan) → suc n ≤ i → ((j : ℕ) → n ≤ j → below j ≡ none) → here i o below ≡ none
here-past n zero o below h g = absurd (omega arith)
here-past n (suc i) o below h g = g i (omega arith)

-- no rule fits past the last node
pub modify-past : (k : Plan → Option Plan) (p : Plan) (i : ℕ) → size p ≤ i → modify k p i ≡ none
unfolding modify size
modify-past k (leaf x) i h = here-past 0 i _ _ h (λ j g. refl)
modify-past k (one u p) i h = here-past (size p) i _ _ h (λ j g. rw (modify-past k p j g))
modify-past k (two b e f) i h = here-past (size e + size f) i _ _ h (λ j g. rw (le-ltb j (size e) (omega arith), modify-past k f (j - size e) (omega arith)))

map-none : {A B : Type 0} (k : A → B) (o : Option A) → map k o ≡ none → o ≡ none
map-none k none h = refl
map-none k (some a) h = absurd (some-ne-none _ h)

module _ (T : Tables) where
  still-at : (p : Plan) (i : ℕ) → at_place T p i ≡ none → Still T p i
  still-at p i h u l g = map-none _ _ (subst (First 8 1 (tried T p i)) h (first-is 8 1 (tried T p i)) u l (omega arith))

  still-past : (p : Plan) (i : ℕ) → size p ≤ i → Still T p i
  unfolding attempt
  still-past p i h u l g = rw (modify-past (rule T (sequenced T) (fresh T p) u) p i h)

  still-light : (p : Plan) → weight p ≤ 0 → (i : ℕ) → Still T p i
  still-light p h i u l g = go (attempt T (record { number = u; place = i }) p) (attempt-fits T (record { number = u; place = i }) p)
    where
      go : (o : Option Plan) → Fits T p o → o ≡ none
      go none f = refl
      go (some q) f = absurd (omega arith)

  record Chosen (p : Plan) (i : ℕ) (x : Step × Plan) : Type 0 where
    u : ℕ
    low : 1 ≤ u
    high : u ≤ 8
    step : x.0 ≡ record { number = u; place = i }
    gives : attempt T (record { number = u; place = i }) p ≡ some x.1

  chosen : (p : Plan) (i : ℕ) (x : Step × Plan) → at_place T p i ≡ some x → Chosen p i x
  chosen p i x h =
      let (u, l, g, e, _) = subst (First 8 1 (tried T p i)) h (first-is 8 1 (tried T p i)) in
      let (q, d, c) = (map-eq-some_iff {B = Step × Plan} (λ q. (record { number = u; place = i }, q)) (attempt T (record { number = u; place = i }) p)).0 e in
      record { u = u; low = l; high = omega arith; step = ap (λ (y : Step × Plan). y.0) (sym c); gives = d ∙ ap (λ (y : Step × Plan). some y.1) c }

  still-all : (p : Plan) → ((j : ℕ) → 0 ≤ j → j < 0 + size p → at_place T p j ≡ none) → (i : ℕ) → Still T p i
  still-all p h i =
      (elim (ltb i (size p)) as (λ b. ltb i (size p) ≡ b → Still T p i) [
        | true ↦ λ e. still-at p i (h i (omega arith) (omega (arith, ltb-true)))
        | false ↦ λ e. still-past p i (omega (arith, ltb-false))
      ]) refl

  after-step : (s : Step) (ss : List Step) (p q : Plan) → attempt T s p ≡ some q → after T (s ∷ ss) p ≡ after T ss q
  unfolding after
  after-step s ss p q e = ap (λ (o : Option Plan). after T ss (or_else p o)) e

  pub run-runs : (n : ℕ) (p : Plan) → weight p ≤ n → Run T p (run T n p) (after T (run T n p) p)
  unfolding run after smallest
  run-runs zero p h = done (still-light p h)
  run-runs (suc n) p h = go (smallest T p) (first-is (size p) 0 (at_place T p)) (run-runs n)
    where
      go : (x : Option (Step × Plan)) → First (size p) 0 (at_place T p) x
          → ((q : Plan) → weight q ≤ n → Run T q (run T n q) (after T (run T n q) q))
          → Run T p (follow (run T n) x) (after T (follow (run T n) x) p)
      go none f k = done (still-all p f)
      go (some x) (i, _, _, e, f) k =
          let c = chosen p i x e in
          let w : weight x.1 < weight p = attempt-lighter T (record { number = c.u; place = i }) p x.1 c.gives in
          rw (c.step, after-step (record { number = c.u; place = i }) (run T n x.1) p x.1 c.gives) (next c.low c.high c.gives (λ j g. still-at p j (f j (omega arith) g)) (k x.1 (omega arith)))

  -- the run from a plan ends, each step at the smallest place where a rule fits, and leaves nothing that fits
  pub run_3 : (p : Plan) → Run T p (run T (weight p) p) (after T (run T (weight p) p) p)
  run_3 p = run-runs (weight p) p (omega arith)

  -- every step of a run fits
  pub run_fits : {p last : Plan} {ss : List Step} → Run T p ss last → fitted T ss p ≡ length ss
  unfolding fitted
  run_fits (done h) = refl
  run_fits (next {ss = ss} l g e h r) = rw e (omega (arith, run_fits r))

  -- its last plan is the one that its steps leave
  pub run-last : {p last : Plan} {ss : List Step} → Run T p ss last → after T ss p ≡ last
  unfolding after
  run-last (done h) = refl
  run-last (next {ss = ss} l g e h r) = rw e (run-last r)

  -- and it has at most as many steps as the plan has weight
  pub run_length : {p last : Plan} {ss : List Step} → Run T p ss last → length ss + weight last ≤ weight p
  run_length {p} {last} {ss} r = omega (arith, paid-by T ss p, run_fits r, ap weight (run-last r))

-- ---- at one node at most one rule fits: the number of a step that fits is read off the plan
rule-numbered : (T : Tables) (c : Option ℕ) (u : ℕ) (p : Plan) → OnSome (λ q. u ≡ number_at p 0) (rule T (sequenced T) c u p)
unfolding rule
rule-numbered T c u p =
    (elim (eqb u (rule_of p)) as (λ z. eqb u (rule_of p) ≡ z → OnSome (λ q. u ≡ number_at p 0) (cond z (unnest T (sequenced T) c p) none)) [
      | true ↦ λ e. go (unnest T (sequenced T) c p) (eqb-true u (rule_of p) e ∙ sym (look-root rule_of 0 p))
      | false ↦ λ e. tt
    ]) refl
  where
    go : (o : Option Plan) → u ≡ number_at p 0 → OnSome (λ q. u ≡ number_at p 0) o
    go none e = tt
    go (some q) e = e

pub one-rule : (T : Tables) (s : Step) (p q : Plan) → attempt T s p ≡ some q → s.number ≡ number_at p s.place
unfolding attempt look
one-rule T s p q e =
    go (modify (rule T (sequenced T) (fresh T p) s.number) p s.place) e
    (changed (rule T (sequenced T) (fresh T p) s.number) (λ p i q. s.number ≡ number_at p i) (rule-numbered T (fresh T p) s.number) (λ u p j q h. h) (λ b e f j q z h. rw z h)
    (λ b e f j q z h. rw z h) p s.place)
  where
    go : (o : Option Plan) → accepted T o ≡ some q → OnSome (λ q. s.number ≡ number_at p s.place) o → s.number ≡ number_at p s.place
    go none e h = absurd (none-ne-some _ e)
    go (some r) e h = h

-- ---- so at a place only the rule that the plan names there has to be tried
number_small : (p : Plan) (i : ℕ) → number_at p i ≤ 8
unfolding look rule_of
number_small (leaf x) zero = omega arith
number_small (leaf x) (suc i) = omega arith
number_small (one u p) zero = omega arith
number_small (one u p) (suc i) = number_small p i
number_small (two b e f) zero = go b
  where
    go : (b : Binary) → rule_of (two b e f) ≤ 8
    go cross = omega arith
    go (semi m l r t) = elim (is_plain t) as (λ z. cond z (cond m 4 3) 7 ≤ 8) [ true ↦ elim m as (λ z. cond z 4 3 ≤ 8) [ true ↦ omega arith | false ↦ omega arith ] | false ↦ omega arith ]
    go (quant m t) = elim m as (λ z. cond z 2 1 ≤ 8) [ true ↦ omega arith | false ↦ omega arith ]
    go (fold a n t) = omega arith
    go each = omega arith
    go (pair a n l r c t) = omega arith
number_small (two b e f) (suc i) = elim (ltb i (size e)) as (λ z. cond z (number_at e i) (number_at f (i - size e)) ≤ 8) [ true ↦ number_small e i | false ↦ number_small f (i - size e) ]

module _ (T : Tables) where
  -- no rule has the number 0
  rule-zero : (c : Option ℕ) (p : Plan) → OnSome (λ q. ⊥) (rule T (sequenced T) c 0 p)
  unfolding rule rule_of unnest
  rule-zero c (leaf x) = tt
  rule-zero c (one u p) = tt
  rule-zero c (two cross e f) = tt
  rule-zero c (two (semi m l r t) e f) =
      elim (is_plain t) as (λ z. OnSome (λ q. ⊥) (cond (eqb 0 (cond z (cond m 4 3) 7)) (cond z (u3 T (sequenced T) c m l r (only_of e) (top f)) (u7 T m l r t e f)) none)) [
        | true ↦ elim m as (λ z. OnSome (λ q. ⊥) (cond (eqb 0 (cond z 4 3)) (u3 T (sequenced T) c m l r (only_of e) (top f)) none)) [ true ↦ tt | false ↦ tt ]
        | false ↦ tt
      ]
  rule-zero c (two (quant true t) e f) = tt
  rule-zero c (two (quant false t) e f) = tt
  rule-zero c (two (fold a n t) e f) = tt
  rule-zero c (two each e f) = tt
  rule-zero c (two (pair a n l r k t) e f) = tt

  attempt-zero : (p : Plan) (i : ℕ) → attempt T (record { number = 0; place = i }) p ≡ none
  unfolding attempt
  attempt-zero p i =
      go (modify (rule T (sequenced T) (fresh T p) 0) p i) (changed (rule T (sequenced T) (fresh T p) 0) (λ p i q. ⊥) (rule-zero (fresh T p)) (λ u p j q h. h) (λ b e f j q z h. h) (λ b e f j q z h. h) p i)
    where
      go : (o : Option Plan) → OnSome (λ q. ⊥) o → accepted T o ≡ none
      go none h = refl
      go (some q) h = absurd h

  pub at-place-number : (p : Plan) (i : ℕ) → at_place T p i ≡ tried T p i (number_at p i)
  at-place-number p i = go (first 8 1 (tried T p i)) (first-is 8 1 (tried T p i))
    where
      go : (x : Option (Step × Plan)) → First 8 1 (tried T p i) x → x ≡ tried T p i (number_at p i)
      go none f =
          (elim (eqb (number_at p i) 0) as (λ z. eqb (number_at p i) 0 ≡ z → none ≡ tried T p i (number_at p i)) [
            | true ↦ λ e. rw (eqb-true (number_at p i) 0 e, attempt-zero p i)
            | false ↦ λ e. let d : number_at p i ≢ 0 = eqb-false (number_at p i) 0 e in sym (f (number_at p i) (omega arith) (omega (arith, number_small p i)))
          ]) refl
      go (some x) (u, _, _, e, _) =
          let (q, d, c) = (map-eq-some_iff {B = Step × Plan} (λ q. (record { number = u; place = i }, q)) (attempt T (record { number = u; place = i }) p)).0 e in
          sym e ∙ ap (tried T p i) (one-rule T (record { number = u; place = i }) p q d)

-- ---- a node weighs at most 3
pub weight-size : (p : Plan) → weight p ≤ 3 * size p
unfolding weight size
weight-size (leaf x) = omega arith
weight-size (one u p) = omega (arith, weight-size p)
weight-size (two b e f) = omega (arith, binary_light b, weight-size e, weight-size f)
  where
    binary_light : (b : Binary) → binary_weight b ≤ 3
    binary_light cross = omega arith
    binary_light (semi m l r t) = elim (is_plain t) as (λ z. cond z 1 2 ≤ 3) [ true ↦ omega arith | false ↦ omega arith ]
    binary_light (quant m t) = omega arith
    binary_light (fold g n t) = omega arith
    binary_light each = omega arith
    binary_light (pair g n l r c t) = omega arith
