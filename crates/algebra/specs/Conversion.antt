-- Where a plan gives the same rows whatever numbers can reach (docs/DEFINITION.md, "The converter"). Definitions only.
use Rattle.std.specs.Prelude.{ℕ, ◌+◌, ◌*◌, Bool, true, ◌&&◌, ◌||◌, List, [], ◌∷◌, map, eqb, leb, length}
use Rattle.algebra.specs.Lists.{filter, any, all, total, firsts}
use Rattle.algebra.specs.Cells.{Summary, sum, least, greatest, Aggregate, count, over, off_scale, origin, is_blank}
use Rattle.algebra.specs.Plans.{Row, Env, Tables, Unary, select, project, distinct, group, sort, Binary, cross, semi, quant, fold, each, pair, Plan, leaf, one, two, nested, columns, holds, bind, measure, matched, cut, around, eval_within}

-- numbers reach from -most to most
module _ (most : ℕ) where
  -- n numbers whose cells add up to s: their sum is in the range
  abbrev pub sum_in_range : ℕ → ℕ → Bool
  sum_in_range n s = leb (n * origin) (s + most) && leb s (n * origin + most)

  -- a sum of these cells is in the range, or it is none that a total decides: a cell is off scale, or one is blank
  abbrev pub summary_stays : Summary → List ℕ → Bool
  summary_stays sum xs = any (eqb off_scale) xs || (any is_blank xs || sum_in_range (length xs) (total xs))
  summary_stays least xs = true
  summary_stays greatest xs = true

  abbrev pub aggregate_stays : Aggregate → List ℕ → Bool
  aggregate_stays count xs = true
  aggregate_stays (over k c) xs = summary_stays k xs

  -- the aggregate over the rows of these columns that pass
  abbrev pub gather_stays : Aggregate → (Env → Bool) → List ℕ → Env → List Row → Bool
  gather_stays g p ds env rs = aggregate_stays g (map (λ r. measure g (bind ds r env)) (filter (λ r. p (bind ds r env)) rs))

  -- what a left row gives: ds the right columns, env the environment inside it, rs the right rows
  abbrev pub emit_stays : Binary → List ℕ → Env → List Row → Bool
  emit_stays cross ds env rs = true
  emit_stays (semi m a b t) ds env rs = true
  emit_stays (quant m t) ds env rs = true
  emit_stays (fold g n t) ds env rs = gather_stays g (holds t) ds env rs
  emit_stays each ds env rs = true
  emit_stays (pair g n a b c t) ds env rs = gather_stays g (matched a b c t) ds env rs

  abbrev pub act_stays : Unary → List ℕ → Env → List Row → Bool
  act_stays (select t) cs env rs = true
  act_stays (project ids) cs env rs = true
  act_stays (distinct ids) cs env rs = true
  act_stays (group g n l r c t) cs env rs = all (λ v. emit_stays (pair g n l r c t) cs (bind (l ∷ []) v env) rs) (firsts (map (cut (r ∷ []) cs env) rs))
  act_stays (sort d ids) cs env rs = true

  -- No sum leaves the range, at any node and in every row that the node is run in.
  unfoldable pub sums_stay : Tables → Plan → Env → Bool
  sums_stay T (leaf x) env = true
  sums_stay T (one u p) env = sums_stay T p env && act_stays u (columns T p) env (eval_within most T p env)
  sums_stay T (two b e f) env =
      sums_stay T e env
      && all (λ l. let inside = around (nested b) env (bind (columns T e) l env) in
      sums_stay T f inside && emit_stays b (columns T f) (bind (columns T e) l env) (eval_within most T f inside)) (eval_within most T e env)
