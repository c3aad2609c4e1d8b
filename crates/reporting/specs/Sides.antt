-- Columns found once for a node: where its keys, its test and its aggregate read their cells, of a left row and a right row. Private
-- contracts speak of these. Definitions only.
use Rattle.std.specs.Prelude.{ℕ, ◌<◌, Bool, true, false, ◌&&◌, ◌≡◌, Option, Some, None, List, map, length, get_or}
use Rattle.algebra.specs.Lists.{flip, filter, any}
use Rattle.algebra.specs.Cells.{eq, compares, aggregate}
use Rattle.algebra.specs.Plans.{Row, Env, bind, measure, holds}
use Rattle.reading.specs.Tree.{aggregate_by, comparison_of, node_test, operator_of}
use Rattle.reading.specs.declared.kinds.Kind.{Kind}
use Rattle.reading.specs.declared.kinds.Kind.TheVariants.{Anti, Every}
use Rattle.reading.specs.declared.plan.AggregateKind.{AggregateKind}
use Rattle.reading.specs.declared.plan.Node.{Node}
use Rattle.reporting.specs.Keys.{keys_hold}
use Rattle.reporting.specs.Rows.{aggregate_in}
use Rattle.reporting.specs.declared.side.Side.{Side}
use Rattle.reporting.specs.declared.side.Side.TheVariants.{Left, Right, Word}
use Rattle.reporting.specs.declared.side.Compared.{Compared}
use Rattle.reporting.specs.declared.side.Condition.{Condition}
use Rattle.reporting.specs.declared.side.Found.{Found}
use Rattle.reporting.specs.declared.side.KeyPlaces.{KeyPlaces}

-- ---- a side

-- its value, of a left row l and a right row r
abbrev pub side_cell : Side → Row → Row → ℕ
side_cell (Left place) l r = get_or l place 0
side_cell (Right place) l r = get_or r place 0
side_cell (Word word) l r = word

-- it lies in a left row of w cells or in a right row of v cells
abbrev pub SideInside : Side → ℕ → ℕ → Type 0
SideInside (Left place) w v = place < w
SideInside (Right place) w v = place < v
SideInside (Word word) w v = Unit {0}

-- the environment inside a left row of columns cs and a right row of columns ds
abbrev pub in_both : List ℕ → List ℕ → Env → Row → Row → Env
in_both cs ds env l r = bind ds r (bind cs l env)

-- the side of a column
pub record SideFor (cs ds : List ℕ) (env : Env) (id : ℕ) (s : Side) : Type 0 where
  pub cell : (l r : Row) → side_cell s l r ≡ in_both cs ds env l r id
  pub inside : SideInside s (length cs) (length ds)

-- the side of what an aggregate measures, by its kind and its column
pub record MeasuredFor (cs ds : List ℕ) (env : Env) (kind : AggregateKind) (id : ℕ) (s : Side) : Type 0 where
  pub cell : (l r : Row) → side_cell s l r ≡ measure (aggregate_by kind id) (in_both cs ds env l r)
  pub inside : SideInside s (length cs) (length ds)

-- ---- a condition

-- what is compared holds; with nothing to compare, always
abbrev pub compared_holds : Option Compared → Row → Row → Bool
compared_holds None l r = true
compared_holds (Some k) l r = compares (comparison_of k.comparison) (side_cell k.left l r) (side_cell k.right l r)

unfoldable pub condition_holds : Condition → Row → Row → Bool
condition_holds c l r = flip c.negated (compared_holds c.compared l r)

abbrev pub ComparedInside : Option Compared → ℕ → ℕ → Type 0
ComparedInside None w v = Unit {0}
ComparedInside (Some k) w v = SideInside k.left w v × SideInside k.right w v

pub record ConditionInside (c : Condition) (w v : ℕ) : Type 0 where
  pub compared : ComparedInside c.compared w v

-- the condition says of the cells what p says of the environment
pub record ConditionFor (cs ds : List ℕ) (env : Env) (p : Env → Bool) (c : Condition) : Type 0 where
  pub same : (l r : Row) → condition_holds c l r ≡ p (in_both cs ds env l r)
  pub inside : ConditionInside c (length cs) (length ds)

-- the places of two sides, where the first is one of the left row and the second one of the right row
abbrev pub side_places : Side → Side → Option KeyPlaces
side_places (Left place) (Left other) = None
side_places (Left place) (Right other) = Some (record { left = place; right = other })
side_places (Left place) (Word word) = None
side_places (Right place) s = None
side_places (Word word) s = None

-- it asks whether the cell at one place of the left row and the cell at one place of the right row are equal numbers
pub record Equals (left right : ℕ) (c : Condition) : Type 0 where
  pub same : (l r : Row) → condition_holds c l r ≡ compares eq (get_or l left 0) (get_or r right 0)
  pub inside : (w v : ℕ) → ConditionInside c w v → (left < w) × (right < v)

-- what the places of two keys say of their condition
abbrev pub PlacesFor : Condition → Option KeyPlaces → Type 0
PlacesFor c (Some p) = Equals p.left p.right c
PlacesFor c None = Unit {0}

-- ---- a node

pub record FoundInside (f : Found) (w v : ℕ) : Type 0 where
  pub keys : ConditionInside f.keys w v
  pub test : ConditionInside f.test w v
  pub measured : SideInside f.measured w v

-- what it asks of a left row and a right row
abbrev pub meets : Found → Row → Row → Bool
meets f l r = condition_holds f.keys l r && condition_holds f.test l r

-- what it measures of those of the right rows that a left row meets, and the aggregate of this
unfoldable pub found_cells : Found → Row → List Row → List ℕ
found_cells f l rs = map (side_cell f.measured l) (filter (meets f l) rs)

abbrev pub found_cell : Found → Row → List Row → ℕ
found_cell f l rs = aggregate (aggregate_by f.aggregate 0) (found_cells f l rs)

-- the columns of a node are found, cs the left columns, ds the right ones
pub record FoundFor (node : Node) (cs ds : List ℕ) (env : Env) (f : Found) : Type 0 where
  pub keys : (l r : Row) → condition_holds f.keys l r ≡ keys_hold node.kind node (in_both cs ds env l r)
  pub test : (l r : Row) → condition_holds f.test l r ≡ holds (node_test node) (in_both cs ds env l r)
  pub aggregate : aggregate_by f.aggregate node.column ≡ aggregate_in (operator_of node)
  pub measured : (l r : Row) → side_cell f.measured l r ≡ measure (aggregate_in (operator_of node)) (in_both cs ds env l r)
  pub inside : FoundInside f (length cs) (length ds)

-- .. in some environment
pub record FoundSomewhere (node : Node) (cs ds : List ℕ) (f : Found) : Type 0 where
  pub env : Env
  pub found : FoundFor node cs ds env f

-- the same, with the not-mark of its test turned
abbrev pub turned_test : Condition → Condition
turned_test c = record { compared = c.compared; negated = flip true c.negated }

abbrev pub turned_found : Found → Found
turned_found f = record { keys = f.keys; test = turned_test f.test; aggregate = f.aggregate; measured = f.measured }

abbrev pub is_anti : Kind → Bool
is_anti Anti = true
is_anti kind = false

-- whether a kind that keeps left rows keeps this one: an Anti where it meets no right row, an Every where it meets none under the other
-- not-mark, a Semi and a Some where it meets some
unfoldable pub keeps_row : Kind → Found → Row → List Row → Bool
keeps_row Every f l rs = flip true (any (meets (turned_found f) l) rs)
keeps_row kind f l rs = flip (is_anti kind) (any (meets f l) rs)
