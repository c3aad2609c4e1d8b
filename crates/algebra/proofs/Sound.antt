-- Each unnesting keeps the columns and, under every environment, the rows; and its weight is less.
-- Assumes nothing.
use Prim.Native.Nat.{ℕ, ◌+◌, ◌≤◌, ◌<◌}
use mathlib.Core.Bool.{Bool, true, false, not, cond, ◌&&◌, true≢false, false≢true, and-eq-true_iff}
use mathlib.Core.Path.{◌≡◌, refl, ap, ap₂, sym, ◌∙◌, fun_ext}
use mathlib.Core.List.{List, [], ◌∷◌, ◌++◌, map, append-nil, cons≢nil}
use mathlib.Core.Option.{Option, none, some}
use native.Mathlib.Omega.{arith}
use lib.Dec.{eqb, ltb}
use lib.ListN.{length, length-map}
use borrow.Author.Tests.{eqb-true, not-true, eq-eqb}
use Rattle.algebra.specs.Lists.{flip, filter, any, all, flat_map, is_empty, every, member, minus, same, firsts}
use Rattle.algebra.specs.Cells.{Comparison, eq, ne, lt, le, gt, ge, Aggregate, count, origin, compares, aggregate, aggregate_within}
use Rattle.algebra.specs.Plans.{Row, Env, Tables, always, columns_of, number_of, Test, test, plain, is_plain, names, truth, holds, turned, Unary, select, project, distinct, group, sort, Binary, cross, semi, quant, fold, each, pair, Plan, leaf, one, two, columns, bind, measure, gather_within, matched, quantify, emit, emit_within, cut, act_within, joined_within, eval, eval_within}
use Rattle.algebra.specs.Names.{measured, unary_free, free, closed}
use Rattle.algebra.specs.Rules.{Top, selected, other, top, unprojected, Only, only, another, only_of, Link, unlinked, link, link_by, link_of, is_equal, when, avoids, local, outside, sequenced, to_semi, u1, to_pair, u5, counted, bare, removed, u3_conditions, u3, u6_conditions, u6, u7, u8, unnest}
use Rattle.algebra.specs.Steps.{weight}
use Rattle.algebra.specs.Demand3.{Same}
use Rattle.algebra.proofs.Lists.{filter-filter, any-filter, all_any, any-count, filter-length, filter-true, every_true, same_rows-true}
use Rattle.algebra.proofs.Cells.{compares-turn, count-some, count_none}
use Rattle.algebra.proofs.Change.{OnSome, on-when}
use Rattle.algebra.proofs.Free.{Agree, more, bind-same, bind-outside, bind-agree, holds_agree, eval-free}
use Rattle.algebra.proofs.Between.{Under, under, under-weight, Shown, drop-quant, drop-fold}

-- ---- environments
-- names apart from the row's columns are not touched by it
pub apart-agree : (xs cs : List ℕ) (r : Row) (f : Env) → all (λ x. not (member x cs)) xs ≡ true → Agree (bind cs r f) f xs
apart-agree [] cs r f h = Agree.none
apart-agree (x ∷ xs) cs r f h =
    let k = (and-eq-true_iff (not (member x cs)) (all (λ y. not (member y cs)) xs)).0 h in
    more (bind-outside cs r f x (not-true (member x cs) k.0)) (apart-agree xs cs r f k.1)

-- names of the row's columns do not reach past it
pub local-agree : (xs cs : List ℕ) (r : Row) (f g : Env) → all (λ x. member x cs) xs ≡ true → Agree (bind cs r f) (bind cs r g) xs
local-agree [] cs r f g h = Agree.none
local-agree (x ∷ xs) cs r f g h =
    let k = (and-eq-true_iff (member x cs) (all (λ y. member y cs) xs)).0 h in
    more (bind-same cs r f g x (λ n. absurd (true≢false (sym k.0 ∙ n)))) (local-agree xs cs r f g k.1)

-- ---- tests
flip-flip : (b m v : Bool) → flip (flip b m) v ≡ flip b (flip m v)
flip-flip true true true = refl
flip-flip true true false = refl
flip-flip true false v = refl
flip-flip false m v = refl

pub holds-turned : (b : Bool) (t : Test) (f : Env) → holds (turned b t) f ≡ flip b (holds t f)
holds-turned b (test m t) f = flip-flip b m (truth t f)

quantify-filter : (m : Bool) (p q : Row → Bool) (rs : List Row) → quantify m p (filter q rs) ≡ flip m (any (λ r. q r && flip m (p r)) rs)
quantify-filter false p q rs = any-filter p q rs
quantify-filter true p q rs = all_any p (filter q rs) ∙ ap not (any-filter (λ r. not (p r)) q rs)

-- the link says what the test says
abbrev Means : Test → Link → Type 0
Means s unlinked = Unit {0}
Means s (link a b c) = (f : Env) → holds s f ≡ compares c (f a) (f b)

link_means : (cs ds : List ℕ) (s : Test) → Means s (link_of cs ds s)
unfolding truth
link_means cs ds (test true t) = tt
link_means cs ds (test false always) = tt
link_means cs ds (test false (columns_of c a b)) =
    elim (member a cs && member b ds) as (λ x. Means (test false (columns_of c a b)) (link_by x (member b cs && member a ds) c a b)) [
      | true ↦ λ f. refl
      | false ↦
          elim (member b cs && member a ds) as (λ y. Means (test false (columns_of c a b)) (link_by false y c a b)) [
            | true ↦ λ f. sym (compares-turn c (f b) (f a))
            | false ↦ tt
          ]
    ]
link_means cs ds (test false (number_of c l w)) = tt

equal_is : (c : Comparison) → is_equal c ≡ true → c ≡ eq
equal_is eq h = refl
equal_is ne h = absurd (false≢true h)
equal_is lt h = absurd (false≢true h)
equal_is le h = absurd (false≢true h)
equal_is gt h = absurd (false≢true h)
equal_is ge h = absurd (false≢true h)

plain-is : (t : Test) → is_plain t ≡ true → t ≡ plain
plain-is (test true always) h = absurd (false≢true h)
plain-is (test false always) h = refl
plain-is (test m (columns_of c l r)) h = absurd (false≢true h)
plain-is (test m (number_of c l w)) h = absurd (false≢true h)

-- ---- the test moves into a Select, and back
and-move : (a b c : Bool) → a ≡ c → a && (b && true) ≡ b && c
and-move true true c h = h
and-move true false c h = refl
and-move false true c h = h
and-move false false c h = refl

move : (l r : ℕ) (t : Test) (f g : Row → Env) (rs : List Row) → ((q : Row) → holds t (f q) ≡ holds t (g q))
    → any (λ q. matched l r eq plain (g q)) (filter (λ q. holds t (f q)) rs) ≡ any (λ q. matched l r eq t (g q)) rs
unfolding truth
move l r t f g rs h =
    any-filter (λ q. matched l r eq plain (g q)) (λ q. holds t (f q)) rs
    ∙ ap (λ (p : Row → Bool). any p rs) (fun_ext (λ q. and-move (holds t (f q)) (compares eq (g q l) (g q r)) (holds t (g q)) (h q)))

append_nothing : (xs ys : List ℕ) → xs ++ ys ≡ [] → (xs ≡ []) × (ys ≡ [])
append_nothing [] ys h = (refl, h)
append_nothing (x ∷ xs) ys h = absurd (cons≢nil h)

-- ---- rows of one cell each
pub data Singles : List Row → Type 0 where
  empty : Singles []
  single : {x : ℕ} {rs : List Row} → Singles rs → Singles ((x ∷ []) ∷ rs)

pub singles_cut : (r : ℕ) (cs : List ℕ) (env : Env) (rs : List Row) → Singles (map (cut (r ∷ []) cs env) rs)
singles_cut r cs env [] = empty
singles_cut r cs env (q ∷ rs) = single (singles_cut r cs env rs)

pub singles_filter : (p : Row → Bool) {rs : List Row} → Singles rs → Singles (filter p rs)
singles_filter p empty = empty
singles_filter p (single {x = x} {rs = rs} s) =
    elim (p (x ∷ [])) as (λ b. Singles (cond b ((x ∷ []) ∷ filter p rs) (filter p rs))) [ true ↦ single (singles_filter p s) | false ↦ singles_filter p s ]

pub singles_firsts : {rs : List Row} → Singles rs → Singles (firsts rs)
singles_firsts empty = empty
singles_firsts (single {x = x} s) = single (singles_filter (λ q. not (same (x ∷ []) q)) (singles_firsts s))

-- the count's comparison
counts : (m : Bool) (n : ℕ) → n ≤ 4096 → compares (cond m eq gt) (origin + n) origin ≡ flip m (ltb 0 n)
counts false n h = count-some n h
counts true n h = count_none n h

-- Project over Select over the rows v, count
kept : (m : Bool) (c l : ℕ) (env : Env) (n : Row → ℕ) → eqb c l ≡ false → ((v : Row) → n v ≤ 4096) → {rs : List Row} → Singles rs
    → map (cut (l ∷ []) (l ∷ c ∷ []) env) (filter (λ q. compares (cond m eq gt) (bind (l ∷ c ∷ []) q env c) origin) (flat_map (λ v. (v ++ ((origin + n v) ∷ [])) ∷ []) rs))
    ≡ flat_map (λ v. cond (flip m (ltb 0 (n v))) (v ∷ []) []) rs
kept m c l env n d b empty = refl
kept m c l env n d b (single {x = x} {rs = rs} s) =
    let rest : List Row = filter (λ q. compares (cond m eq gt) (bind (l ∷ c ∷ []) q env c) origin) (flat_map (λ v. (v ++ ((origin + n v) ∷ [])) ∷ []) rs) in
    let h : compares (cond m eq gt) (bind (l ∷ c ∷ []) (x ∷ (origin + n (x ∷ [])) ∷ []) env c) origin ≡ flip m (ltb 0 (n (x ∷ []))) = rw (d, eq-eqb c c refl) (counts m (n (x ∷ [])) (b (x ∷ []))) in
    rw h (elim (flip m (ltb 0 (n (x ∷ [])))) as
    (λ z. map (cut (l ∷ []) (l ∷ c ∷ []) env) (cond z ((x ∷ (origin + n (x ∷ [])) ∷ []) ∷ rest) rest) ≡ cond z ((x ∷ []) ∷ []) [] ++ flat_map (λ v. cond (flip m (ltb 0 (n v))) (v ∷ []) []) rs) [
      | true ↦ rw (eq-eqb l l refl) (ap (λ (q : List Row). (x ∷ []) ∷ q) (kept m c l env n d b s))
      | false ↦ kept m c l env n d b s
    ])

module _ (T : Tables) where
  -- What the plans before and after a rule have to fulfil: this follows from refusals 12 and 14. After it, of Group nodes; before it, of
  -- Some, Every and Fold over a Project.
  abbrev pub UnaryFine : Unary → Plan → Type 0
  UnaryFine (select t) p = Unit {0}
  UnaryFine (project ids) p = Unit {0}
  UnaryFine (distinct ids) p = Unit {0}
  UnaryFine (group a n l r c t) p = (eqb n l ≡ false) × (member r (columns T p) ≡ true) × ((env : Env) → length (eval T p env) ≤ 4096)
  UnaryFine (sort d ids) p = Unit {0}

  abbrev pub BinaryFine : Binary → Plan → Type 0
  BinaryFine cross f = Unit {0}
  BinaryFine (semi m l r t) f = Unit {0}
  BinaryFine (quant m t) f = Shown T (names t) (under f)
  BinaryFine (fold a n t) f = Shown T (measured a ++ names t) (under f)
  BinaryFine each f = Unit {0}
  BinaryFine (pair a n l r c t) f = Unit {0}

  abbrev pub Fine : Plan → Type 0
  Fine (leaf x) = Unit {0}
  Fine (one u p) = UnaryFine u p × Fine p
  Fine (two b e f) = BinaryFine b f × Fine e × Fine f

  -- q may be put in the place of p
  pub record Better (p q : Plan) : Type 0 where
    pub agrees : Fine p → Fine q → Same T q p
    pub lighter : weight q < weight p

  abbrev pub Good : Plan → Option Plan → Type 0
  Good p o = OnSome (Better p) o

  good-when : (b : Bool) (p q : Plan) → (b ≡ true → Better p q) → Good p (when b q)
  good-when b p q h = on-when (Better p) b q h

  closed-free : (p : Plan) → closed T p ≡ true → free T p ≡ []
  unfolding closed
  closed-free p h = go (free T p) h
    where
      go : (xs : List ℕ) → is_empty xs ≡ true → xs ≡ []
      go [] h = refl
      go (x ∷ xs) h = absurd (false≢true h)

  closed-eval : (p : Plan) (f g : Env) → closed T p ≡ true → eval T p f ≡ eval T p g
  closed-eval p f g h = eval-free T p (rw (closed-free p h) Agree.none)

  -- ---- U1, U2
  u1-good : (m : Bool) (t : Test) (e : Plan) {f g : Plan} (u : Under f g) → (Fine (two (quant m t) e f) → Shown T (names t) u) → (v : Top g) → Good (two (quant m t) e f) (u1 T m t e v)
  unfolding eval_within columns joined_within emit_within act_within weight
  u1-good m t e u shows (other g) = tt
  u1-good m t e {f} u shows (selected s g) = go (link_of (columns T e) (columns T g) s) (link_means (columns T e) (columns T g) s)
    where
      rows : (a b : ℕ) → ((f : Env) → holds s f ≡ compares eq (f a) (f b)) → avoids T g e ≡ true → (env : Env)
          → eval T (two (semi m a b (turned m t)) e g) env ≡ eval T (two (quant m t) e (one (select s) g)) env
      rows a b k h env = ap (λ (k : Row → List Row). flat_map k (eval T e env)) (fun_ext (λ l.
          let inside : Row → Env = λ r. bind (columns T g) r (bind (columns T e) l env) in
          ap (λ (v : Bool). cond v (l ∷ []) [])
          (ap₂ (λ (p : Row → Bool) (rs : List Row). flip m (any p rs))
          (fun_ext (λ r. ap₂ ◌&&◌ (sym (k (inside r))) (holds-turned m t (inside r))))
          (sym (eval-free T g (apart-agree (free T g) (columns T e) l env h)))
          ∙ sym (quantify-filter m (λ r. holds t (inside r)) (λ r. holds s (inside r)) (eval T g (bind (columns T e) l env))))))

      light : (t : Test) → cond (is_plain t) 1 2 + (weight e + weight g) < 3 + (weight e + weight f)
      light t = rw (under-weight u) (elim (is_plain t) as (λ b. cond b 1 2 + (weight e + weight g) < 3 + (weight e + weight g)) [ true ↦ omega arith | false ↦ omega arith ])

      go : (x : Link) → Means s x → Good (two (quant m t) e f) (to_semi T m t e g x)
      go unlinked k = tt
      go (link a b c) k = good-when (is_equal c && avoids T g e) _ _ (λ h. let (h₁, h₂) = (and-eq-true_iff (is_equal c) (avoids T g e)).0 h in record {
        agrees = λ w _. record {
          same_columns = refl;
          same_rows_of = λ env. rows a b (λ f. k f ∙ ap (λ (z : Comparison). compares z (f a) (f b)) (equal_is c h₁)) h₂ env ∙ drop-quant T m t e u (shows w) env;
        };
        lighter = light (turned m t);
      })

  -- ---- U5
  u5-good : (a : Aggregate) (n : ℕ) (t : Test) (e : Plan) {f g : Plan} (u : Under f g) → (Fine (two (fold a n t) e f) → Shown T (measured a ++ names t) u) → (v : Top g)
      → Good (two (fold a n t) e f) (u5 T a n t e v)
  unfolding eval_within columns joined_within emit_within act_within weight gather_within
  u5-good a n t e u shows (other g) = tt
  u5-good a n t e {f} u shows (selected s g) = go (link_of (columns T e) (columns T g) s) (link_means (columns T e) (columns T g) s)
    where
      rows : (x y : ℕ) (c : Comparison) → ((f : Env) → holds s f ≡ compares c (f x) (f y)) → avoids T g e ≡ true → (env : Env)
          → eval T (two (pair a n x y c t) e g) env ≡ eval T (two (fold a n t) e (one (select s) g)) env
      rows x y c k h env = ap (λ (k : Row → List Row). flat_map k (eval T e env)) (fun_ext (λ l.
          let inside : Row → Env = λ r. bind (columns T g) r (bind (columns T e) l env) in
          ap (λ (rs : List Row). (l ++ (aggregate a (map (λ r. measure a (inside r)) rs) ∷ [])) ∷ [])
          (ap₂ (λ (p : Row → Bool) (rs : List Row). filter p rs)
          (fun_ext (λ r. ap (λ (v : Bool). v && holds t (inside r)) (sym (k (inside r)))))
          (sym (eval-free T g (apart-agree (free T g) (columns T e) l env h)))
          ∙ sym (filter-filter (λ r. holds t (inside r)) (λ r. holds s (inside r)) (eval T g (bind (columns T e) l env))))))

      go : (x : Link) → Means s x → Good (two (fold a n t) e f) (to_pair T a n t e g x)
      go unlinked k = tt
      go (link l r c) k = good-when (avoids T g e) _ _ (λ h. record {
        agrees = λ w _. record { same_columns = refl; same_rows_of = λ env. rows l r c k h env ∙ drop-fold T a n t e u (shows w) env };
        lighter = rw (under-weight u) (omega arith);
      })

  -- ---- U8
  u8-good : (e f : Plan) → Good (two each e f) (u8 T e f)
  unfolding eval_within columns joined_within emit_within weight
  u8-good e f = good-when (closed T f && not (is_empty (eval T f outside))) _ _ (λ h. let (h₁, h₂) = (and-eq-true_iff (closed T f) (not (is_empty (eval T f outside)))).0 h in record {
    agrees = λ _ _. record {
      same_columns = refl;
      same_rows_of = λ env. ap (λ (k : Row → List Row). flat_map k (eval T e env)) (fun_ext (λ l.
          ap (emit cross (columns T f) l (bind (columns T e) l env)) (closed-eval f env (bind (columns T e) l env) h₁)
          ∙ go (columns T f) l (bind (columns T e) l env) (eval T f (bind (columns T e) l env)) (rw (closed-eval f (bind (columns T e) l env) outside h₁) h₂)));
    };
    lighter = omega arith;
  })
    where
      go : (ds : List ℕ) (l : Row) (env : Env) (rs : List Row) → not (is_empty rs) ≡ true → emit cross ds l env rs ≡ emit each ds l env rs
      go ds l env [] h = absurd (false≢true h)
      go ds l env (r ∷ rs) h = refl

  -- ---- U7
  u7-good : (m : Bool) (l r : ℕ) (t : Test) (e f : Plan) → is_plain t ≡ false → Good (two (semi m l r t) e f) (u7 T m l r t e f)
  unfolding eval_within columns joined_within emit_within act_within weight
  u7-good m l r t e f n = good-when (local T t f) _ _ (λ h. record {
    agrees = λ _ _. record {
      same_columns = refl;
      same_rows_of = λ env. ap (λ (k : Row → List Row). flat_map k (eval T e env)) (fun_ext (λ v.
          ap (λ (z : Bool). cond (flip m z) (v ∷ []) [])
          (move l r t (λ q. bind (columns T f) q env) (λ q. bind (columns T f) q (bind (columns T e) v env)) (eval T f env)
          (λ q. holds_agree t (local-agree (names t) (columns T f) q env (bind (columns T e) v env) h)))));
    };
    lighter = rw n (omega arith);
  })

  -- ---- sequences
  key-free : (r : ℕ) (h : Plan) → free T h ≡ [] → member r (columns T h) ≡ true → free T (one (distinct (r ∷ [])) h) ≡ []
  unfolding free unary_free
  key-free r h k₁ k₂ = rw (k₁, k₂)

  -- the condition, computed outside, holds in every environment
  sequence : (e : Plan) (r : ℕ) (h : Plan) → closed T e ≡ true → free T h ≡ [] → member r (columns T h) ≡ true → sequenced T e r h ≡ true
      → (env : Env) → eval T e env ≡ eval T (one (distinct (r ∷ [])) h) env
  sequence e r h k₁ k₂ k₃ s env =
      closed-eval e env outside k₁
      ∙ (same_rows-true (eval T e outside) (eval T (one (distinct (r ∷ [])) h) outside) s
      ∙ eval-free T (one (distinct (r ∷ [])) h) (rw (key-free r h k₂ k₃) Agree.none))

  -- ---- U6
  u6-good : (a : Aggregate) (n l r : ℕ) (c : Comparison) (t : Test) {e : Plan} (o : Only e) (f : Plan) → Good (two (pair a n l r c t) e f) (u6 T (sequenced T) a n l r c t o f)
  unfolding eval_within columns joined_within act_within weight
  u6-good a n l r c t (another e) f = tt
  u6-good a n l r c t (only k p) f =
      let e : Plan = one (distinct (k ∷ [])) p in
      good-when (every (u6_conditions T (sequenced T) k l r t e f)) _ _ (λ h.
      let (is_key, (closed_e, (closed_f, (_, (sequent, _))))) = every_true (u6_conditions T (sequenced T) k l r t e f) h in
      let i : k ≡ l = eqb-true k l is_key in
      record {
        agrees = λ _ w. record {
          same_columns = ap (λ (x : ℕ). x ∷ n ∷ []) (sym i);
          same_rows_of = λ env. ap₂ (λ (x : ℕ) (rs : List Row). flat_map (λ v. emit (pair a n l r c t) (columns T f) v (bind (x ∷ []) v env) (eval T f env)) rs)
              (sym i) (sym (sequence e r f closed_e (closed-free f closed_f) w.0.1 sequent env));
        };
        lighter = omega arith;
      })

  -- ---- U3, U4
  -- the plan with its top Select split off, or a plain one put on
  record Split (f h : Plan) (t : Test) : Type 0 where
    split_columns : columns T f ≡ columns T h
    split_rows : (env : Env) → eval T f env ≡ filter (λ q. holds t (bind (columns T h) q env)) (eval T h env)
    split_free : free T f ≡ free T h ++ minus (names t) (columns T h)
    split_weight : weight f ≡ weight h

  split : {f : Plan} (v : Top f) → Split f (bare v) (removed v)
  unfolding eval_within columns act_within free unary_free weight truth
  split (selected s g) = record { split_columns = refl; split_rows = λ env. refl; split_free = refl; split_weight = refl }
  split (other f) = record { split_columns = refl; split_rows = λ env. sym (filter-true (eval T f env)); split_free = sym (append-nil (free T f)); split_weight = refl }

  u3-rows : (m : Bool) (c l r : ℕ) (e f h : Plan) (t : Test) → Split f h t → minus (names t) (columns T h) ≡ [] → UnaryFine (group count c l r eq t) h → columns T e ≡ l ∷ []
      → (env : Env) → eval T e env ≡ eval T (one (distinct (r ∷ [])) h) env → eval T (counted m c l r t h) env ≡ eval T (two (semi m l r plain) e f) env
  unfolding eval_within columns joined_within emit_within act_within gather_within aggregate_within truth
  u3-rows m c l r e f h t s z w k env q =
      let inside : Row → Row → Env = λ v q. bind (columns T h) q (bind (l ∷ []) v env) in
      let n : Row → ℕ = λ v. length (map (λ q. measure count (inside v q)) (filter (λ q. matched l r eq t (inside v q)) (eval T h env))) in
      kept m c l env n w.0 (λ v. simp length-map (omega (arith, filter-length (λ q. matched l r eq t (inside v q)) (eval T h env), w.2 env))) (singles_firsts (singles_cut r (columns T h) env (eval T h env)))
      ∙ ap₂ (λ (k : Row → List Row) (rs : List Row). flat_map k rs) (fun_ext (λ v. ap (λ (z : Bool). cond (flip m z) (v ∷ []) []) (rw (length-map, ← any-count (λ q. matched l r eq t (inside v q)) (eval T h env), s.split_columns, k, s.split_rows env)
      (sym (move l r t (λ q. bind (columns T h) q env) (inside v) (eval T h env) (λ q. holds_agree t (bind-agree (names t) (columns T h) q (rw z Agree.none)))))))) (sym q)

  u3-good : (c : Option ℕ) (m : Bool) (l r : ℕ) {e : Plan} (o : Only e) {f : Plan} (v : Top f) → Good (two (semi m l r plain) e f) (u3 T (sequenced T) c m l r o v)
  unfolding columns weight
  u3-good none m l r o v = tt
  u3-good (some c) m l r (another e) v = tt
  u3-good (some c) m l r (only k p) {f} v = go (one (distinct (k ∷ [])) p) refl (bare v) (removed v) (split v)
    where
      go : (e : Plan) → columns T e ≡ k ∷ [] → (h : Plan) (t : Test) → Split f h t → Good (two (semi m l r plain) e f) (when (every (u3_conditions T (sequenced T) k l r e f h)) (counted m c l r t h))
      go e ce h t s = good-when (every (u3_conditions T (sequenced T) k l r e f h)) _ _ (λ h₀.
          let (is_key, (closed_e, (closed_f, (sequent, _)))) = every_true (u3_conditions T (sequenced T) k l r e f h) h₀ in
          let (free_h, names_t) = append_nothing (free T h) (minus (names t) (columns T h)) (sym s.split_free ∙ closed-free f closed_f) in
          let ck : columns T e ≡ l ∷ [] = ce ∙ ap (λ (x : ℕ). x ∷ []) (eqb-true k l is_key) in
          record {
            agrees = λ _ w. record {
              same_columns = sym ck;
              same_rows_of = λ env. u3-rows m c l r e f h t s names_t w.1.1.0 ck env (sequence e r h closed_e free_h w.1.1.0.1 sequent env);
            };
            lighter = rw s.split_weight (omega arith);
          })

  -- ---- every rule
  pub unnest-good : (c : Option ℕ) (p : Plan) → Good p (unnest T (sequenced T) c p)
  unfolding unnest
  unnest-good c (leaf x) = tt
  unnest-good c (one u p) = tt
  unnest-good c (two cross e f) = tt
  unnest-good c (two (semi m l r t) e f) =
      (elim (is_plain t) as (λ b. is_plain t ≡ b → Good (two (semi m l r t) e f) (cond b (u3 T (sequenced T) c m l r (only_of e) (top f)) (u7 T m l r t e f))) [
        | true ↦ λ h. rw (plain-is t h) (u3-good c m l r (only_of e) (top f))
        | false ↦ λ h. u7-good m l r t e f h
      ]) refl
  unnest-good c (two (quant m t) e f) = u1-good m t e (under f) (λ w. w.0) (top (unprojected f))
  unnest-good c (two (fold a n t) e f) = u5-good a n t e (under f) (λ w. w.0) (top (unprojected f))
  unnest-good c (two each e f) = u8-good e f
  unnest-good c (two (pair a n l r k t) e f) = u6-good a n l r k t (only_of e) f
