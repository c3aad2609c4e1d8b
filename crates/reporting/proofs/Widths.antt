-- Every row that a plan gives has a cell for each of its columns. Assumes nothing.
use Prim.Native.Nat.{ℕ, ◌+◌, ◌*◌}
use mathlib.Core.Bool.{Bool, true, false, not, cond}
use mathlib.Core.Path.{◌≡◌, refl, sym, ◌∙◌}
use mathlib.Core.List.{List, [], ◌∷◌, ◌++◌, map}
use native.Mathlib.Omega.{arith}
use native.Mathlib.Nat.{zero-mul, suc-mul}
use lib.ListN.{length, replicate, length-append, length-map, length-replicate}
use Rattle.algebra.specs.Lists.{flip, filter, any, flat_map, same, firsts, upward}
use Rattle.algebra.specs.Cells.{eq, blank}
use Rattle.algebra.specs.Plans.{Row, Env, Tables, holds, bind, matched, quantify, cut, arranged, Leaf, unit, scan, Unary, select, project, distinct, group, sort, Binary, cross, semi, quant, fold, each, pair, Plan, leaf, one, two, nested, around, leaf_columns, unary_columns, binary_columns, columns, emit, emit_within, act, act_within, joined_within, leaf_rows, eval, eval_within}
use Rattle.algebra.proofs.Sorting.{All, all-arranged}
use Rattle.reading.specs.TableSet.{columns_of, rows_of, table_from, table_cell, table_rows, tables_of}
use Rattle.reading.proofs.Places.{upward-length}

-- rows of w cells
pub data Wide (w : ℕ) : List Row → Type 0 where
  nothing : Wide w []
  more : {r : Row} {rs : List Row} → length r ≡ w → Wide w rs → Wide w (r ∷ rs)

wide_append : {w : ℕ} {xs ys : List Row} → Wide w xs → Wide w ys → Wide w (xs ++ ys)
wide_append nothing k = k
wide_append (more e h) k = more e (wide_append h k)

wide-map : {A : Type 0} {w : ℕ} (f : A → Row) (xs : List A) → ((x : A) → length (f x) ≡ w) → Wide w (map f xs)
wide-map f [] h = nothing
wide-map f (x ∷ xs) h = more (h x) (wide-map f xs h)

wide_join : {v w : ℕ} (l : Row) {rs : List Row} → length l ≡ v → Wide w rs → Wide (v + w) (map (λ r. l ++ r) rs)
wide_join l e nothing = nothing
wide_join l e (more {r = r} k h) = more (length-append l r ∙ omega (arith, e, k)) (wide_join l e h)

wide-filter : {w : ℕ} (p : Row → Bool) {rs : List Row} → Wide w rs → Wide w (filter p rs)
wide-filter p nothing = nothing
wide-filter {w} p (more {r = r} {rs = rs} e h) =
    elim (p r) as (λ b. Wide w (cond b (r ∷ filter p rs) (filter p rs))) [ true ↦ more e (wide-filter p h) | false ↦ wide-filter p h ]

wide-firsts : {w : ℕ} {rs : List Row} → Wide w rs → Wide w (firsts rs)
wide-firsts nothing = nothing
wide-firsts (more {r = r} e h) = more e (wide-filter (λ q. not (same r q)) (wide-firsts h))

-- the same as a property of every row, for which the algebra has a law of Sort
wide-all : {w : ℕ} {rs : List Row} → Wide w rs → All (λ r. length r ≡ w) rs
wide-all nothing = tt
wide-all (more e h) = (e, wide-all h)

all-wide : (w : ℕ) (rs : List Row) → All (λ r. length r ≡ w) rs → Wide w rs
all-wide w [] h = nothing
all-wide w (r ∷ rs) h = more h.0 (all-wide w rs h.1)

-- what each row of a list gives is wide, so all of it is
wide-flat_map : {v w : ℕ} (f : Row → List Row) {rs : List Row} → Wide v rs → ((r : Row) → length r ≡ v → Wide w (f r)) → Wide w (flat_map f rs)
wide-flat_map f nothing k = nothing
wide-flat_map f (more {r = r} e h) k = wide_append (k r e) (wide-flat_map f h k)

wide_if : {w : ℕ} (b : Bool) (r : Row) → length r ≡ w → Wide w (cond b (r ∷ []) [])
wide_if true r e = more e nothing
wide_if false r e = nothing

-- a row with more cells, under the columns with more columns
wide-longer : (l xs : Row) (cs ds : List ℕ) → length l ≡ length cs → length xs ≡ length ds → Wide (length (cs ++ ds)) ((l ++ xs) ∷ [])
wide-longer l xs cs ds e f = more (length-append l xs ∙ ((λ i. e i + f i) ∙ sym (length-append cs ds))) nothing

-- ---- what a left row gives
emit-wide : (b : Binary) (cs ds : List ℕ) (l : Row) (env : Env) (rs : List Row) → length l ≡ length cs → Wide (length ds) rs → Wide (length (binary_columns b cs ds)) (emit b ds l env rs)
unfolding emit_within
emit-wide cross cs ds l env rs e h = rw (length-append cs ds) (wide_join l e h)
emit-wide (semi m a b t) cs ds l env rs e h = wide_if (flip m (any (λ r. matched a b eq t (bind ds r env)) rs)) l e
emit-wide (quant m t) cs ds l env rs e h = wide_if (quantify m (λ r. holds t (bind ds r env)) rs) l e
emit-wide (fold g n t) cs ds l env rs e h = wide-longer l _ cs (n ∷ []) e refl
emit-wide each cs ds l env [] e h = wide-longer l (replicate (length ds) blank) cs ds e (length-replicate (length ds) blank)
emit-wide each cs ds l env (r ∷ rs) e h = rw (length-append cs ds) (wide_join l e h)
emit-wide (pair g n a b c t) cs ds l env rs e h = wide-longer l _ cs (n ∷ []) e refl

cut-length : (ids cs : List ℕ) (env : Env) (r : Row) → length (cut ids cs env r) ≡ length ids
cut-length ids cs env r = length-map ids (bind cs r env)

act-wide : (u : Unary) (cs : List ℕ) (env : Env) (rs : List Row) → Wide (length cs) rs → Wide (length (unary_columns u cs)) (act u cs env rs)
unfolding act_within
act-wide (select t) cs env rs h = wide-filter (λ r. holds t (bind cs r env)) h
act-wide (project ids) cs env rs h = wide-map (cut ids cs env) rs (cut-length ids cs env)
act-wide (distinct ids) cs env rs h = wide-firsts (wide-map (cut ids cs env) rs (cut-length ids cs env))
act-wide (group g n l r c t) cs env rs h =
    wide-flat_map (λ v. emit (pair g n l r c t) cs v (bind (l ∷ []) v env) rs)
    (wide-firsts (wide-map (cut (r ∷ []) cs env) rs (cut-length (r ∷ []) cs env)))
    (λ v e. emit-wide (pair g n l r c t) (l ∷ []) cs v (bind (l ∷ []) v env) rs e h)
act-wide (sort d ids) cs env rs h = all-wide (length cs) (arranged d (cut ids cs env) rs) (all-arranged (λ r. length r ≡ length cs) d (cut ids cs env) rs (wide-all h))

module _ (T : Tables) (tables : (t : ℕ) → Wide (T.width t) (T.rows t)) where
  leaf-wide : (x : Leaf) → Wide (length (leaf_columns T x)) (leaf_rows T x)
  leaf-wide unit = more refl nothing
  leaf-wide (scan t n) = rw (upward-length (T.width t) n) (tables t)

  pub eval-wide : (p : Plan) (env : Env) → Wide (length (columns T p)) (eval T p env)
  unfolding eval_within columns joined_within
  eval-wide (leaf x) env = leaf-wide x
  eval-wide (one u p) env = act-wide u (columns T p) env (eval T p env) (eval-wide p env)
  eval-wide (two b e f) env =
      wide-flat_map (λ l. emit b (columns T f) l (bind (columns T e) l env) (eval T f (around (nested b) env (bind (columns T e) l env)))) (eval-wide e env)
      (λ l k. emit-wide b (columns T e) (columns T f) l (bind (columns T e) l env) _ k (eval-wide f (around (nested b) env (bind (columns T e) l env))))

-- the rows of a set's tables
pub table-wide : (set : List ℕ) (t : ℕ) → Wide ((tables_of set).width t) ((tables_of set).rows t)
unfolding table_rows
table-wide set t =
    let table = table_from t set in
    wide-map (λ r. map (table_cell table r) (upward (columns_of table) 0)) (upward (rows_of table) 0)
    (λ r. length-map (upward (columns_of table) 0) (table_cell table r) ∙ upward-length (columns_of table) 0)

-- so a report's cells, row by row, are its rows times its columns
pub cells_count : {B : Type 0} (f : Row → List B) → ((r : Row) → length (f r) ≡ length r) → (w : ℕ) {rs : List Row} → Wide w rs → length (flat_map f rs) ≡ length rs * w
cells_count f k w nothing = sym (zero-mul w)
cells_count f k w (more {r = r} {rs = rs} e h) = length-append (f r) (flat_map f rs) ∙ (omega (arith, k r, e, cells_count f k w h) ∙ sym (suc-mul (length rs) w))

pub report-cells : {B : Type 0} (f : ℕ → B) (set : List ℕ) (p : Plan) (env : Env)
    → length (flat_map (map f) (eval (tables_of set) p env)) ≡ length (eval (tables_of set) p env) * length (columns (tables_of set) p)
report-cells f set p env = cells_count (map f) (λ r. length-map r f) (length (columns (tables_of set) p)) (eval-wide (tables_of set) (table-wide set) p env)
