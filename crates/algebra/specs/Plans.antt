-- Plans: trees of steps over tables, the columns and the rows that they give. Definitions only.
-- See docs/DEFINITION.md, "The kinds", "The tree", "Columns and ids", "Tests and comparisons", "Aggregates" and "Rows".
-- The rows that a plan is nested in are an environment: the value of each column id. Every operator reads columns through it.
use Rattle.std.specs.Prelude.{ℕ, Bool, true, false, not, cond, ◌&&◌, List, [], ◌∷◌, ◌++◌, map, eqb, ltb, length, replicate}
use Rattle.algebra.specs.Lists.{flip, filter, any, all, flat_map, sorted, backwards, firsts, upward}
use Rattle.algebra.specs.Cells.{Comparison, eq, Aggregate, count, over, blank, reach, compares, aggregate_within}

abbrev pub Row : Type 0
Row = List ℕ

abbrev pub Env : Type 0
Env = ℕ → ℕ

-- the tables of the set: how many, each one's number of columns, and its rows
pub record Tables : Type 0 where
  pub amount : ℕ
  pub width : ℕ → ℕ
  pub rows : ℕ → List Row

-- ---- tests
pub data Form : Type 0 where
  always : Form
  columns_of : Comparison → ℕ → ℕ → Form
  number_of : Comparison → ℕ → ℕ → Form

-- a form under its not-mark
pub data Test : Type 0 where
  test : Bool → Form → Test

abbrev pub plain : Test
plain = test false always

abbrev pub is_plain : Test → Bool
is_plain (test m always) = not m
is_plain (test m (columns_of c l r)) = false
is_plain (test m (number_of c l w)) = false

abbrev pub form_names : Form → List ℕ
form_names always = []
form_names (columns_of c l r) = l ∷ r ∷ []
form_names (number_of c l w) = l ∷ []

abbrev pub names : Test → List ℕ
names (test m f) = form_names f

unfoldable pub truth : Form → Env → Bool
truth always env = true
truth (columns_of c l r) env = compares c (env l) (env r)
truth (number_of c l w) env = compares c (env l) w

abbrev pub holds : Test → Env → Bool
holds (test m f) env = flip m (truth f env)

-- the not-mark turned where the mark given is set
abbrev pub turned : Bool → Test → Test
turned b (test m f) = test (flip b m) f

-- ---- plans
pub data Leaf : Type 0 where
  unit : Leaf
  scan : ℕ → ℕ → Leaf

-- group: aggregate, new id, left key, right key, comparison, test
pub data Unary : Type 0 where
  select : Test → Unary
  project : List ℕ → Unary
  distinct : List ℕ → Unary
  group : Aggregate → ℕ → ℕ → ℕ → Comparison → Test → Unary
  sort : Bool → List ℕ → Unary

-- semi: with the mark, Anti. quant: Some; with the mark, Every. pair: as group
pub data Binary : Type 0 where
  cross : Binary
  semi : Bool → ℕ → ℕ → Test → Binary
  quant : Bool → Test → Binary
  fold : Aggregate → ℕ → Test → Binary
  each : Binary
  pair : Aggregate → ℕ → ℕ → ℕ → Comparison → Test → Binary

pub data Plan : Type 0 where
  leaf : Leaf → Plan
  one : Unary → Plan → Plan
  two : Binary → Plan → Plan → Plan

-- the second child is run for each left row
abbrev pub nested : Binary → Bool
nested cross = false
nested (semi m l r t) = false
nested (quant m t) = true
nested (fold g n t) = true
nested each = true
nested (pair g n l r c t) = false

-- ---- columns
abbrev pub leaf_columns : Tables → Leaf → List ℕ
leaf_columns T unit = []
leaf_columns T (scan t n) = upward (T.width t) n

abbrev pub unary_columns : Unary → List ℕ → List ℕ
unary_columns (select t) cs = cs
unary_columns (project ids) cs = ids
unary_columns (distinct ids) cs = ids
unary_columns (group g n l r c t) cs = l ∷ n ∷ []
unary_columns (sort d ids) cs = cs

abbrev pub binary_columns : Binary → List ℕ → List ℕ → List ℕ
binary_columns cross cs ds = cs ++ ds
binary_columns (semi m l r t) cs ds = cs
binary_columns (quant m t) cs ds = cs
binary_columns (fold g n t) cs ds = cs ++ (n ∷ [])
binary_columns each cs ds = cs ++ ds
binary_columns (pair g n l r c t) cs ds = cs ++ (n ∷ [])

unfoldable pub columns : Tables → Plan → List ℕ
columns T (leaf x) = leaf_columns T x
columns T (one u p) = unary_columns u (columns T p)
columns T (two b e f) = binary_columns b (columns T e) (columns T f)

-- ---- rows
-- the environment inside a row of these columns
abbrev pub bind : List ℕ → Row → Env → Env
bind [] r env x = env x
bind (c ∷ cs) [] env x = cond (eqb x c) blank (bind cs [] env x)
bind (c ∷ cs) (v ∷ r) env x = cond (eqb x c) v (bind cs r env x)

-- what the aggregate reads of a row; count reads nothing
abbrev pub measure : Aggregate → Env → ℕ
measure count env = blank
measure (over k c) env = env c

-- keys and test together
abbrev pub matched : ℕ → ℕ → Comparison → Test → Env → Bool
matched l r c t env = compares c (env l) (env r) && holds t env

-- some row passes; with the mark, every row passes
abbrev pub quantify : Bool → (Row → Bool) → List Row → Bool
quantify false p rs = any p rs
quantify true p rs = all p rs

-- the cells of a row under these ids
abbrev pub cut : List ℕ → List ℕ → Env → Row → Row
cut ids cs env r = map (bind cs r env) ids

-- the first list comes before the second, by code
abbrev pub precedes : List ℕ → List ℕ → Bool
precedes [] ys = false
precedes (x ∷ xs) [] = false
precedes (x ∷ xs) (y ∷ ys) = cond (eqb x y) (precedes xs ys) (ltb x y)

-- the rows by code of their keys, those with the same key as they came; with the mark, this list read backwards
abbrev pub arranged : Bool → (Row → List ℕ) → List Row → List Row
arranged d key rs = backwards d (sorted (λ q r. precedes (key q) (key r)) rs)

-- the environment of the second child
abbrev pub around : Bool → Env → Env → Env
around true env inside = inside
around false env inside = env

abbrev pub leaf_rows : Tables → Leaf → List Row
leaf_rows T unit = [] ∷ []
leaf_rows T (scan t n) = T.rows t

-- ---- what a plan gives, where numbers reach from -most to most
module _ (most : ℕ) where
  -- the aggregate over the rows of these columns that pass
  unfoldable pub gather_within : Aggregate → (Env → Bool) → List ℕ → Env → List Row → ℕ
  gather_within g p ds env rs = aggregate_within most g (map (λ r. measure g (bind ds r env)) (filter (λ r. p (bind ds r env)) rs))

  -- what a left row l gives: ds the right columns, env the environment inside l, rs the right rows
  unfoldable pub emit_within : Binary → List ℕ → Row → Env → List Row → List Row
  emit_within cross ds l env rs = map (λ r. l ++ r) rs
  emit_within (semi m a b t) ds l env rs = cond (flip m (any (λ r. matched a b eq t (bind ds r env)) rs)) (l ∷ []) []
  emit_within (quant m t) ds l env rs = cond (quantify m (λ r. holds t (bind ds r env)) rs) (l ∷ []) []
  emit_within (fold g n t) ds l env rs = (l ++ (gather_within g (holds t) ds env rs ∷ [])) ∷ []
  emit_within each ds l env [] = (l ++ replicate (length ds) blank) ∷ []
  emit_within each ds l env (r ∷ rs) = map (λ q. l ++ q) (r ∷ rs)
  emit_within (pair g n a b c t) ds l env rs = (l ++ (gather_within g (matched a b c t) ds env rs ∷ [])) ∷ []

  -- Group pairs each first occurrence of the right key, as a row under the left key's id, with the child's rows.
  unfoldable pub act_within : Unary → List ℕ → Env → List Row → List Row
  act_within (select t) cs env rs = filter (λ r. holds t (bind cs r env)) rs
  act_within (project ids) cs env rs = map (cut ids cs env) rs
  act_within (distinct ids) cs env rs = firsts (map (cut ids cs env) rs)
  act_within (group g n l r c t) cs env rs = flat_map (λ v. emit_within (pair g n l r c t) cs v (bind (l ∷ []) v env) rs) (firsts (map (cut (r ∷ []) cs env) rs))
  act_within (sort d ids) cs env rs = arranged d (cut ids cs env) rs

  unfoldable pub joined_within : Binary → List ℕ → List ℕ → List Row → (Env → List Row) → Env → List Row
  joined_within b cs ds ls right env = flat_map (λ l. emit_within b ds l (bind cs l env) (right (around (nested b) env (bind cs l env)))) ls

  unfoldable pub eval_within : Tables → Plan → Env → List Row
  eval_within T (leaf x) env = leaf_rows T x
  eval_within T (one u p) env = act_within u (columns T p) env (eval_within T p env)
  eval_within T (two b e f) env = joined_within b (columns T e) (columns T f) (eval_within T e env) (eval_within T f) env

-- .. in the cell range
abbrev pub gather : Aggregate → (Env → Bool) → List ℕ → Env → List Row → ℕ
gather = gather_within reach

abbrev pub emit : Binary → List ℕ → Row → Env → List Row → List Row
emit = emit_within reach

abbrev pub act : Unary → List ℕ → Env → List Row → List Row
act = act_within reach

abbrev pub joined : Binary → List ℕ → List ℕ → List Row → (Env → List Row) → Env → List Row
joined = joined_within reach

abbrev pub eval : Tables → Plan → Env → List Row
eval = eval_within reach
