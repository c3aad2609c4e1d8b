-- Rows in cells, environments in words, and what one node does with rows. Private contracts speak of these; the meaning of plans is the
-- algebra's. Definitions only.
use Rattle.std.specs.Prelude.{ℕ, zero, suc, ◌≤◌, Bool, true, ◌≡◌, List, [], ◌∷◌, get_or, take, drop}
use Rattle.algebra.specs.Cells.{eq, Aggregate, count}
use Rattle.algebra.specs.Plans.{Row, Env, bind, holds, Unary, select, project, distinct, group, sort, Binary, cross, semi, quant, fold, each, pair, unary_columns, binary_columns, matched, gather, emit, act}
use Rattle.algebra.specs.Places.{Operator, leaf_node, unary_node, binary_node}
use Rattle.algebra.specs.Refusals.{per_row}

-- ---- rows in cells

-- k rows of w cells each, from the front
unfoldable pub chunk : ℕ → ℕ → List ℕ → List Row
chunk zero w cells = []
chunk (suc k) w cells = take w cells ∷ chunk k w (drop w cells)

-- the row of w cells at a place, and k rows from a place on
abbrev pub row_at : ℕ → ℕ → List ℕ → Row
row_at at w cells = take w (drop at cells)

abbrev pub rows_from : ℕ → ℕ → ℕ → List ℕ → List Row
rows_from at k w cells = chunk k w (drop at cells)

-- what a step leaves at the front of cells: r rows of w cells, which are `rows`, and at most `most`
pub record Gives (rows : List Row) (w most r : ℕ) (cells : List ℕ) : Type 0 where
  pub is : chunk r w cells ≡ rows
  pub few : r ≤ most

-- ---- an environment in words

abbrev pub env_of : List ℕ → Env
env_of words x = get_or words x 0

-- with one column more
abbrev pub key_env : ℕ → ℕ → List ℕ → Env
key_env id key words = bind (id ∷ []) (key ∷ []) (env_of words)

-- ---- what one node does

-- the test that a row meets: a Semi, an Anti, a Pair and a Group compare their keys too
abbrev pub unary_passes : Unary → Env → Bool
unary_passes (select t) env = holds t env
unary_passes (project ids) env = true
unary_passes (distinct ids) env = true
unary_passes (group g n l r c t) env = matched l r c t env
unary_passes (sort d ids) env = true

abbrev pub binary_passes : Binary → Env → Bool
binary_passes cross env = true
binary_passes (semi m l r t) env = matched l r eq t env
binary_passes (quant m t) env = holds t env
binary_passes (fold g n t) env = holds t env
binary_passes each env = true
binary_passes (pair g n l r c t) env = matched l r c t env

unfoldable pub passing : Operator → Env → Bool
passing (leaf_node x) env = true
passing (unary_node u) env = unary_passes u env
passing (binary_node b) env = binary_passes b env

abbrev pub unary_aggregate : Unary → Aggregate
unary_aggregate (select t) = count
unary_aggregate (project ids) = count
unary_aggregate (distinct ids) = count
unary_aggregate (group g n l r c t) = g
unary_aggregate (sort d ids) = count

abbrev pub binary_aggregate : Binary → Aggregate
binary_aggregate cross = count
binary_aggregate (semi m l r t) = count
binary_aggregate (quant m t) = count
binary_aggregate (fold g n t) = g
binary_aggregate each = count
binary_aggregate (pair g n l r c t) = g

unfoldable pub aggregate_in : Operator → Aggregate
aggregate_in (leaf_node x) = count
aggregate_in (unary_node u) = unary_aggregate u
aggregate_in (binary_node b) = binary_aggregate b

-- the aggregate over the rows that pass
abbrev pub gathered : Operator → List ℕ → Env → List Row → ℕ
gathered op ds env rs = gather (aggregate_in op) (passing op) ds env rs

-- a node with one child: the rows and the columns that it gives, cs its child's
unfoldable pub acted : Operator → List ℕ → Env → List Row → List Row
acted (leaf_node x) cs env rs = []
acted (unary_node u) cs env rs = act u cs env rs
acted (binary_node b) cs env rs = []

abbrev pub acted_columns : Operator → List ℕ → List ℕ
acted_columns (leaf_node x) cs = []
acted_columns (unary_node u) cs = unary_columns u cs
acted_columns (binary_node b) cs = []

-- a node with two children: what a left row gives, the columns, and at most how many rows for k right rows
unfoldable pub emitted : Operator → List ℕ → Row → Env → List Row → List Row
emitted (leaf_node x) ds l env rs = []
emitted (unary_node u) ds l env rs = []
emitted (binary_node b) ds l env rs = emit b ds l env rs

abbrev pub emitted_columns : Operator → List ℕ → List ℕ → List ℕ
emitted_columns (leaf_node x) cs ds = []
emitted_columns (unary_node u) cs ds = []
emitted_columns (binary_node b) cs ds = binary_columns b cs ds

abbrev pub emitted_most : Operator → ℕ → ℕ
emitted_most (leaf_node x) k = 0
emitted_most (unary_node u) k = 0
emitted_most (binary_node b) k = per_row b k

-- what Sort leaves at the front of cells, under every environment; cs the columns of the rows
pub record SortedBy (down : Bool) (list cs : List ℕ) (rows : List Row) (w most r : ℕ) (cells : List ℕ) : Type 0 where
  pub under : (env : Env) → Gives (act (sort down list) cs env rows) w most r cells
