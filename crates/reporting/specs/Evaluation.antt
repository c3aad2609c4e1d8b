-- What the evaluator asks of a plan's tree and of its cells, and what it leaves in them. Private contracts speak of these. Definitions only.
use Rattle.std.specs.Prelude.{ℕ, ◌+◌, ◌*◌, ◌-◌, ◌≤◌, ◌<◌, Bool, true, false, not, ◌&&◌, ◌≡◌, List, [], map, length, take, drop}
use Rattle.algebra.specs.Lists.{filter, all, flat_map}
use Rattle.algebra.specs.Plans.{Row, Env, Test, Tables, Plan, leaf_columns, leaf_rows, columns, bind, holds, cut, eval}
use Rattle.algebra.specs.Places.{Operator, leaf_node, unary_node, binary_node, subtrees}
use Rattle.algebra.specs.Names.{introduced}
use Rattle.algebra.specs.Refusals.{byte, in_view, narrow, low, width, bound, has_region, counted_rows, part, leaf_bound}
use Rattle.algebra.specs.Rules.{avoids}
use Rattle.reading.specs.Nodes.{operator_nested}
use Rattle.reading.specs.TableSet.{columns_of, rows_of, table_rows, tables_of}
use Rattle.reading.specs.Tree.{operator_of, plan_at}
use Rattle.reading.specs.declared.plan.Node.{Node}
use Rattle.reporting.specs.Positions.{picked}
use Rattle.reporting.specs.Rows.{row_at, rows_from, env_of, Gives, acted, acted_columns, emitted, emitted_columns, emitted_most}
use Rattle.reporting.specs.Sides.{FoundFor}
use Rattle.reporting.specs.Written.{Emitted}
use Rattle.reporting.specs.declared.side.Found.{Found}

-- ---- the tree at a place of a plan, over the tables of a set

-- its columns, and how many they are
abbrev pub columns_at : List ℕ → List ℕ → ℕ → List ℕ
columns_at set plan i = columns (tables_of set) (plan_at plan i)

abbrev pub width_at : List ℕ → List ℕ → ℕ → ℕ
width_at set plan i = width (tables_of set) (plan_at plan i)

-- its rows, under an environment of words, and how many they are at most
abbrev pub rows_at : List ℕ → List ℕ → ℕ → List ℕ → List Row
rows_at set plan i words = eval (tables_of set) (plan_at plan i) (env_of words)

abbrev pub bound_at : List ℕ → List ℕ → ℕ → ℕ
bound_at set plan i = bound (tables_of set) (plan_at plan i)

-- its part of scratch
abbrev pub part_at : List ℕ → List ℕ → ℕ → ℕ
part_at set plan i = part (tables_of set) (plan_at plan i)

-- ---- what can be evaluated

-- every node's rows have at most 32 columns, its bound is at most 4,096, its ids are bytes, and its names are in view inside rows of some scope
pub record Sound (T : Tables) (p : Plan) : Type 0 where
  pub narrow_all : all (narrow T) (subtrees p) ≡ true
  pub low_all : all (low T) (subtrees p) ≡ true
  pub small : all byte (introduced T p) ≡ true
  pub scope : List ℕ
  pub in_view_all : in_view T scope p ≡ true

-- a tree that can be evaluated in so many cells, under an environment of so many words
pub record Ready (T : Tables) (p : Plan) (cells env : ℕ) : Type 0 where
  pub sound : Sound T p
  pub room : part T p ≤ cells
  pub bound : env ≡ 256

abbrev pub SoundAt : List ℕ → List ℕ → ℕ → Type 0
SoundAt set plan i = Sound (tables_of set) (plan_at plan i)

abbrev pub ReadyAt : List ℕ → List ℕ → ℕ → ℕ → ℕ → Type 0
ReadyAt set plan i cells env = Ready (tables_of set) (plan_at plan i) cells env

-- what evaluating the tree at a place leaves at the front of cells: its r rows
abbrev pub TreeGiven : List ℕ → List ℕ → ℕ → List ℕ → ℕ → List ℕ → Type 0
TreeGiven set plan i words r cells = Gives (rows_at set plan i words) (width_at set plan i) (bound_at set plan i) r cells

-- The cells that a node counts for so many rows of w cells: its region, or one row. They stand before its first child's part.
abbrev pub share_of : Operator → ℕ → ℕ → ℕ
share_of op rows w = counted_rows (has_region op) rows * w

-- .. of a node op at a place
abbrev pub share_at : List ℕ → List ℕ → ℕ → Operator → ℕ
share_at set plan i op = share_of op (bound_at set plan i) (width_at set plan i)

-- ---- a node with no children: its rows, their width, and how many there are at most
abbrev pub leaf_given : Tables → Operator → List Row
leaf_given T (leaf_node x) = leaf_rows T x
leaf_given T (unary_node u) = []
leaf_given T (binary_node b) = []

abbrev pub leaf_width : Tables → Operator → ℕ
leaf_width T (leaf_node x) = length (leaf_columns T x)
leaf_width T (unary_node u) = 0
leaf_width T (binary_node b) = 0

abbrev pub leaf_most : Tables → Operator → ℕ
leaf_most T (leaf_node x) = leaf_bound T x
leaf_most T (unary_node u) = 0
leaf_most T (binary_node b) = 0

-- what it leaves at the front; and a table's rows
abbrev pub LeafGiven : List ℕ → Operator → ℕ → List ℕ → Type 0
LeafGiven set op r cells = Gives (leaf_given (tables_of set) op) (leaf_width (tables_of set) op) (leaf_most (tables_of set) op) r cells

abbrev pub TableGiven : List ℕ → ℕ → List ℕ → Type 0
TableGiven table r cells = Gives (table_rows table) (columns_of table) (rows_of table) r cells

-- ---- a node with one child, of whose columns cs m rows stand at `own`

-- of each of m rows of w cells at `own` a row of n cells is written at the front, which ends before the row begins
pub record CutsRoom (w n own m cells : ℕ) : Type 0 where
  pub below : (i : ℕ) → i < m → i * n + n ≤ own + i * w
  pub inside : own + m * w ≤ cells

-- what the node counts stands before the rows
pub record UnaryRoom (op : Operator) (cs : List ℕ) (own m cells : ℕ) : Type 0 where
  pub share : share_of op m (length (acted_columns op cs)) ≤ own
  pub cuts : CutsRoom (length cs) (length (acted_columns op cs)) own m cells

-- what it leaves at the front
abbrev pub UnaryGiven : Operator → List ℕ → List ℕ → ℕ → ℕ → List ℕ → ℕ → List ℕ → Type 0
UnaryGiven op cs words own m entry r exit = Gives (acted op cs (env_of words) (rows_from own m (length cs) entry)) (length (acted_columns op cs)) m r exit

-- those of the rows that meet a test
abbrev pub SelectGiven : Test → List ℕ → List ℕ → ℕ → ℕ → List ℕ → ℕ → List ℕ → Type 0
SelectGiven t cs words own m entry r exit = Gives (filter (λ q. holds t (bind cs q (env_of words))) (rows_from own m (length cs) entry)) (length cs) m r exit

-- each row cut to a list of ids
abbrev pub CutsGiven : List ℕ → List ℕ → List ℕ → ℕ → ℕ → List ℕ → ℕ → List ℕ → Type 0
CutsGiven ids cs words own m entry r exit = Gives (map (cut ids cs (env_of words)) (rows_from own m (length cs) entry)) (length ids) m r exit

-- .. to its cells at these positions, w cells a row
abbrev pub PicksGiven : List ℕ → ℕ → ℕ → ℕ → List ℕ → ℕ → List ℕ → Type 0
PicksGiven positions w own m entry r exit = Gives (map (picked positions) (rows_from own m w entry)) (length positions) m r exit

-- ---- a node with two children, cs and ds their columns

-- what one left row gives: of a nested node, q the inner plan and env around the node; of another node, whose right rows are rs
abbrev pub nested_row : Tables → Operator → List ℕ → Plan → Env → Row → List Row
nested_row T op cs q env l = emitted op (columns T q) l (bind cs l env) (eval T q (bind cs l env))

abbrev pub plain_row : Operator → List ℕ → List ℕ → List Row → Env → Row → List Row
plain_row op cs ds rs env l = emitted op ds l (bind cs l env) rs

-- whether a node's right rows may differ from left row to left row: it is nested, and its inner plan q names a column of its first child p
abbrev pub differing : Tables → Operator → Plan → Plan → Bool
differing T op p q = operator_nested op && not (avoids T q p)

-- The second child, at place `right`, may be run once for all rows of the first, at place `left`, only where its rows are the same for each of
-- them; where the node is not nested it must.
pub record RunsOnce (set plan : List ℕ) (left right : ℕ) (op : Operator) (r : Bool) : Type 0 where
  pub same : r ≡ true → differing (tables_of set) op (plan_at plan left) (plan_at plan right) ≡ false
  pub nests : r ≡ false → operator_nested op ≡ true

-- One left row stands at src, and its right rows, at most k, from `behind` on. What it gives at dst ends before it.
pub record StepRoom (op : Operator) (cs ds : List ℕ) (k src dst behind : ℕ) : Type 0 where
  pub below : dst + share_of op (emitted_most op k) (length (emitted_columns op cs ds)) ≤ src
  pub apart : src + length cs ≤ behind

-- m left rows stand at `own`, behind what the node counts, and before `behind`
pub record LoopRoom (op : Operator) (cs ds : List ℕ) (k own m behind : ℕ) : Type 0 where
  pub share : share_of op (m * emitted_most op k) (length (emitted_columns op cs ds)) ≤ own
  pub apart : own + m * length cs ≤ behind

-- what one left row gives, env the environment around the node; behind the row all is as it was
abbrev pub PlainStep : Operator → List ℕ → List ℕ → Env → ℕ → ℕ → ℕ → ℕ → List ℕ → ℕ → List ℕ → Type 0
PlainStep op cs ds env src dst behind k entry r exit =
    Emitted (plain_row op cs ds (rows_from behind k (length ds) entry) env (row_at src (length cs) entry)) (length (emitted_columns op cs ds)) (emitted_most op k) r dst
    (src + length cs) entry exit

-- what all m left rows give, at the front
abbrev pub PlainGiven : Operator → List ℕ → List ℕ → Env → ℕ → ℕ → ℕ → ℕ → List ℕ → ℕ → List ℕ → Type 0
PlainGiven op cs ds env own m behind k entry r exit =
    Gives (flat_map (plain_row op cs ds (rows_from behind k (length ds) entry) env) (rows_from own m (length cs) entry)) (length (emitted_columns op cs ds))
    (m * emitted_most op k) r exit

-- the same of a node whose columns are found, under every environment that they were found in
abbrev pub EmitGiven : Node → Found → List ℕ → List ℕ → ℕ → ℕ → ℕ → ℕ → List ℕ → ℕ → List ℕ → Type 0
EmitGiven node f cs ds src dst behind k entry r exit = (env : Env) → FoundFor node cs ds env f → PlainStep (operator_of node) cs ds env src dst behind k entry r exit

abbrev pub EmitsGiven : Node → Found → List ℕ → List ℕ → ℕ → ℕ → ℕ → ℕ → List ℕ → ℕ → List ℕ → Type 0
EmitsGiven node f cs ds own m behind k entry r exit = (env : Env) → FoundFor node cs ds env f → PlainGiven (operator_of node) cs ds env own m behind k entry r exit

-- What one left row of a nested node gives; its inner plan, at place `inner`, is run in the cells from `behind` on, and between the row and
-- these all is as it was.
pub record NestedStep (set plan : List ℕ) (inner : ℕ) (op : Operator) (cs words : List ℕ) (src dst behind : ℕ) (entry : List ℕ) (r : ℕ) (exit : List ℕ) : Type 0 where
  pub gives : Gives (nested_row (tables_of set) op cs (plan_at plan inner) (env_of words) (row_at src (length cs) entry)) (length (emitted_columns op cs (columns_at set plan inner)))
      (emitted_most op (bound_at set plan inner)) r (drop dst exit)
  pub before : take dst exit ≡ take dst entry
  pub between : take (behind - (src + length cs)) (drop (src + length cs) exit) ≡ take (behind - (src + length cs)) (drop (src + length cs) entry)

abbrev pub NestedGiven : List ℕ → List ℕ → ℕ → Operator → List ℕ → List ℕ → ℕ → ℕ → List ℕ → ℕ → List ℕ → Type 0
NestedGiven set plan inner op cs words own m entry r exit =
    Gives (flat_map (nested_row (tables_of set) op cs (plan_at plan inner) (env_of words)) (rows_from own m (length cs) entry)) (length (emitted_columns op cs (columns_at set plan inner)))
    (m * emitted_most op (bound_at set plan inner)) r exit
