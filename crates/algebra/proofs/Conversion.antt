-- Where no sum leaves the smaller of two ranges, a plan gives the same rows in both. Assumes nothing.
use Prim.Native.Nat.{ℕ, ◌+◌, ◌*◌, ◌≤◌}
use mathlib.Core.Path.{◌≡◌, refl, ap, ap₂, ◌∙◌}
use mathlib.Core.Bool.{Bool, true, false, not, cond, ◌&&◌, ◌||◌, and-eq-true_iff}
use mathlib.Core.List.{List, [], ◌∷◌, ◌++◌, map}
use native.Mathlib.Omega.{arith}
use lib.Dec.{eqb, leb}
use lib.ListN.{length}
use borrow.Author.Tests.{leb-true, le-leb}
use Rattle.algebra.specs.Lists.{filter, any, all, flat_map, total, firsts}
use Rattle.algebra.specs.Cells.{sum, least, greatest, Aggregate, count, over, blank, off_scale, origin, is_blank, sum_within, summary_within, aggregate_within}
use Rattle.algebra.specs.Plans.{Row, Env, Tables, Unary, select, project, distinct, group, sort, Binary, cross, semi, quant, fold, each, pair, Plan, leaf, one, two, nested, columns, holds, bind, measure, matched, cut, around, gather_within, emit_within, act_within, joined_within, eval_within}
use Rattle.algebra.proofs.Aggregates.{filter-all}
use Rattle.algebra.specs.Conversion.{sum_in_range, aggregate_stays, gather_stays, emit_stays, act_stays, sums_stay}

-- what all elements give
module _ {A B : Type 0} (p : A → Bool) (f g : A → List B) (same : (x : A) → p x ≡ true → f x ≡ g x) where
  flat_map-all : (xs : List A) → all p xs ≡ true → flat_map f xs ≡ flat_map g xs
  flat_map-all [] h = refl
  flat_map-all (x ∷ xs) h = let (u, v) = (and-eq-true_iff (p x) (all p xs)).0 h in ap₂ ◌++◌ (same x u) (flat_map-all xs v)

module _ (m n : ℕ) (less : m ≤ n) where
  sum_same : (k s : ℕ) → sum_in_range m k s ≡ true → sum_within n k s ≡ sum_within m k s
  sum_same k s h =
      let (u, v) = (and-eq-true_iff (leb (k * origin) (s + m)) (leb s (k * origin + m))).0 h in
      let low : k * origin ≤ s + n = omega (arith, leb-true (k * origin) (s + m) u, less) in
      let high : s ≤ k * origin + n = omega (arith, leb-true s (k * origin + m) v, less) in
      rw (u, v, le-leb _ _ low, le-leb _ _ high)

  aggregate-same : (g : Aggregate) (xs : List ℕ) → aggregate_stays m g xs ≡ true → aggregate_within n g xs ≡ aggregate_within m g xs
  unfolding aggregate_within
  aggregate-same count xs h = refl
  aggregate-same (over sum c) xs h = go (any (eqb off_scale) xs) (any is_blank xs) refl h
    where
      ys : List ℕ
      ys = filter (λ x. not (is_blank x)) xs

      go : (a b : Bool) → any is_blank xs ≡ b → (a || (b || sum_in_range m (length xs) (total xs))) ≡ true
          → cond a off_scale (cond b blank (sum_within n (length ys) (total ys))) ≡ cond a off_scale (cond b blank (sum_within m (length ys) (total ys)))
      go true b e k = refl
      go false true e k = refl
      go false false e k = rw (filter-all is_blank xs e) (sum_same (length xs) (total xs) k)
  aggregate-same (over least c) xs h = ap (λ (v : ℕ). cond (any (eqb off_scale) xs) off_scale v) (least-same (filter (λ x. not (is_blank x)) xs))
    where
      least-same : (ys : List ℕ) → summary_within n least ys ≡ summary_within m least ys
      least-same [] = refl
      least-same (y ∷ ys) = refl
  aggregate-same (over greatest c) xs h = refl

  gather-same : (g : Aggregate) (p : Env → Bool) (ds : List ℕ) (env : Env) (rs : List Row) → gather_stays m g p ds env rs ≡ true
      → gather_within n g p ds env rs ≡ gather_within m g p ds env rs
  unfolding gather_within
  gather-same g p ds env rs h = aggregate-same g (map (λ r. measure g (bind ds r env)) (filter (λ r. p (bind ds r env)) rs)) h

  emit-same : (b : Binary) (ds : List ℕ) (l : Row) (env : Env) (rs : List Row) → emit_stays m b ds env rs ≡ true
      → emit_within n b ds l env rs ≡ emit_within m b ds l env rs
  unfolding emit_within
  emit-same cross ds l env rs h = refl
  emit-same (semi x a b t) ds l env rs h = refl
  emit-same (quant x t) ds l env rs h = refl
  emit-same (fold g k t) ds l env rs h = ap (λ (v : ℕ). (l ++ (v ∷ [])) ∷ []) (gather-same g (holds t) ds env rs h)
  emit-same each ds l env [] h = refl
  emit-same each ds l env (r ∷ rs) h = refl
  emit-same (pair g k a b c t) ds l env rs h = ap (λ (v : ℕ). (l ++ (v ∷ [])) ∷ []) (gather-same g (matched a b c t) ds env rs h)

  act-same : (u : Unary) (cs : List ℕ) (env : Env) (rs : List Row) → act_stays m u cs env rs ≡ true → act_within n u cs env rs ≡ act_within m u cs env rs
  unfolding act_within
  act-same (select t) cs env rs h = refl
  act-same (project ids) cs env rs h = refl
  act-same (distinct ids) cs env rs h = refl
  act-same (group g k l r c t) cs env rs h =
      let b = pair g k l r c t in
      flat_map-all (λ v. emit_stays m b cs (bind (l ∷ []) v env) rs) _ _ (λ v e. emit-same b cs v (bind (l ∷ []) v env) rs e)
      (firsts (map (cut (r ∷ []) cs env) rs)) h
  act-same (sort d ids) cs env rs h = refl

  module _ (T : Tables) where
    -- Where no sum of a plan leaves the smaller range, at any node, it gives the same rows in the larger one.
    pub same_rows : (p : Plan) (env : Env) → sums_stay m T p env ≡ true → eval_within n T p env ≡ eval_within m T p env
    unfolding eval_within joined_within sums_stay
    same_rows (leaf x) env h = refl
    same_rows (one u p) env h =
        let (k, j) = (and-eq-true_iff (sums_stay m T p env) (act_stays m u (columns T p) env (eval_within m T p env))).0 h in
        ap (act_within n u (columns T p) env) (same_rows p env k) ∙ act-same u (columns T p) env (eval_within m T p env) j
    same_rows (two b e f) env h =
        let (k, j) = (and-eq-true_iff (sums_stay m T e env) (all stays (eval_within m T e env))).0 h in
        ap (λ (ls : List Row). flat_map (gives n) ls) (same_rows e env k) ∙ flat_map-all stays (gives n) (gives m) (one (λ l k. same_rows f (inside l) k)) (eval_within m T e env) j
      where
        inside : Row → Env
        inside l = around (nested b) env (bind (columns T e) l env)

        stays : Row → Bool
        stays l = sums_stay m T f (inside l) && emit_stays m b (columns T f) (bind (columns T e) l env) (eval_within m T f (inside l))

        gives : ℕ → Row → List Row
        gives most l = emit_within most b (columns T f) l (bind (columns T e) l env) (eval_within most T f (inside l))

        one : ((l : Row) → sums_stay m T f (inside l) ≡ true → eval_within n T f (inside l) ≡ eval_within m T f (inside l))
            → (l : Row) → stays l ≡ true → gives n l ≡ gives m l
        one below l d =
            let (k, j) = (and-eq-true_iff (sums_stay m T f (inside l)) (emit_stays m b (columns T f) (bind (columns T e) l env) (eval_within m T f (inside l)))).0 d in
            ap (emit_within n b (columns T f) l (bind (columns T e) l env)) (below l k)
            ∙ emit-same b (columns T f) l (bind (columns T e) l env) (eval_within m T f (inside l)) j
