-- A plan gives at most as many rows as its bound. Assumes nothing.
use Prim.Native.Nat.{ℕ, suc, ◌*◌, ◌≤◌}
use mathlib.Core.Bool.{Bool, true, false, not, cond}
use mathlib.Core.Path.{◌≡◌, refl, ap, ◌∙◌}
use mathlib.Core.List.{List, [], ◌∷◌, map}
use native.Mathlib.Omega.{arith}
use native.Mathlib.Nat.{le_trans, mul-le-mul_right}
use lib.ListN.{length, length-map, length-append, length-reverse}
use Rattle.algebra.specs.Lists.{flip, any, flat_map, insert, sorted, backwards, same, firsts}
use Rattle.algebra.specs.Cells.{eq}
use Rattle.algebra.specs.Plans.{Row, Env, Tables, holds, unit, scan, Unary, select, project, distinct, group, sort, Binary, cross, semi, quant, fold, each, pair, Plan, leaf, one, two, nested, columns, bind, matched, quantify, emit, emit_within, cut, act, act_within, around, joined_within, eval, eval_within}
use Rattle.algebra.specs.Refusals.{per_row, bound}
use Rattle.algebra.proofs.Lists.{filter-length}

flat_map-length : (k : Row → List Row) (n : ℕ) → ((r : Row) → length (k r) ≤ n) → (rs : List Row) → length (flat_map k rs) ≤ length rs * n
flat_map-length k n h [] = omega arith
flat_map-length k n h (r ∷ rs) = simp length-append (omega (arith, h r, flat_map-length k n h rs))

insert-length : (before : Row → Row → Bool) (x : Row) (rs : List Row) → length (insert before x rs) ≡ suc (length rs)
insert-length before x [] = refl
insert-length before x (y ∷ rs) =
    elim (before y x) as (λ b. length (cond b (y ∷ insert before x rs) (x ∷ y ∷ rs)) ≡ suc (suc (length rs))) [ true ↦ ap suc (insert-length before x rs) | false ↦ refl ]

sorted-length : (before : Row → Row → Bool) (rs : List Row) → length (sorted before rs) ≡ length rs
sorted-length before [] = refl
sorted-length before (x ∷ rs) = insert-length before x (sorted before rs) ∙ ap suc (sorted-length before rs)

backwards-length : (d : Bool) (rs : List Row) → length (backwards d rs) ≡ length rs
backwards-length true rs = length-reverse rs
backwards-length false rs = refl

firsts-length : (rs : List Row) → length (firsts rs) ≤ length rs
firsts-length [] = omega arith
firsts-length (r ∷ rs) = omega (arith, firsts-length rs, filter-length (λ q. not (same r q)) (firsts rs))

keep_length : (b : Bool) (l : Row) → length (cond b (l ∷ []) []) ≤ 1
keep_length true l = omega arith
keep_length false l = omega arith

emit-length : (b : Binary) (ds : List ℕ) (l : Row) (env : Env) (rs : List Row) (y : ℕ) → length rs ≤ y → length (emit b ds l env rs) ≤ per_row b y
unfolding emit_within
emit-length cross ds l env rs y h = simp length-map h
emit-length (semi m a c t) ds l env rs y h = keep_length (flip m (any (λ r. matched a c eq t (bind ds r env)) rs)) l
emit-length (quant m t) ds l env rs y h = keep_length (quantify m (λ r. holds t (bind ds r env)) rs) l
emit-length (fold g n t) ds l env rs y h = omega arith
emit-length each ds l env [] y h = omega arith
emit-length each ds l env (r ∷ rs) y h = simp length-map (omega arith)
emit-length (pair g n a c k t) ds l env rs y h = omega arith

act-length : (u : Unary) (cs : List ℕ) (env : Env) (rs : List Row) → length (act u cs env rs) ≤ length rs
unfolding act_within
act-length (select t) cs env rs = filter-length (λ r. holds t (bind cs r env)) rs
act-length (project ids) cs env rs = simp length-map (omega arith)
act-length (distinct ids) cs env rs = omega (arith, firsts-length (map (cut ids cs env) rs), length-map rs (cut ids cs env))
act-length (group g n l r c t) cs env rs =
    omega (
      arith,
      firsts-length (map (cut (r ∷ []) cs env) rs),
      length-map rs (cut (r ∷ []) cs env),
      flat_map-length (λ v. emit (pair g n l r c t) cs v (bind (l ∷ []) v env) rs) 1 (λ v. emit-length (pair g n l r c t) cs v (bind (l ∷ []) v env) rs (length rs) (omega arith))
          (firsts (map (cut (r ∷ []) cs env) rs)),
    )
act-length (sort d ids) cs env rs = simp (backwards-length, sorted-length) (omega arith)

module _ (T : Tables) where
  pub row-bound : (p : Plan) (env : Env) → length (eval T p env) ≤ bound T p
  unfolding eval_within bound joined_within
  row-bound (leaf unit) env = omega arith
  row-bound (leaf (scan t n)) env = omega arith
  row-bound (one u p) env = le_trans (act-length u (columns T p) env (eval T p env)) (row-bound p env)
  row-bound (two b e f) env =
      le_trans
      (flat_map-length _ (per_row b (bound T f)) (λ l. emit-length b (columns T f) l (bind (columns T e) l env) _ (bound T f) (row-bound f (around (nested b) env (bind (columns T e) l env)))) (eval T e env))
      (mul-le-mul_right (per_row b (bound T f)) (row-bound e env))
