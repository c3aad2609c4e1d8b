-- What one node with two children asks of its rows, and what it leaves in the cells. Private contracts speak of these. Definitions only.
use Rattle.std.specs.Prelude.{ℕ, ◌*◌, ◌≤◌, ◌≡◌, true, List}
use Rattle.reading.specs.Tree.{operator_of}
use Rattle.reporting.specs.Held.{held_in, HeldWithin, Indexed}
use Rattle.reporting.specs.Keys.{has_keys}
use Rattle.reporting.specs.Known.{Shared, Known}
use Rattle.reporting.specs.Rows.{emitted_most}
use Rattle.reporting.specs.Evaluation.{StepRoom, LoopRoom, EmitGiven, EmitsGiven}
use Rattle.reporting.specs.declared.asked.Asked.{Asked}
use Rattle.reporting.specs.declared.asked.Lookup.{Lookup}
use Rattle.reporting.specs.declared.asked.Lookup.TheVariants.{All, ByKey, Kept}

-- The right rows can be looked up so: they are indexed by their key; and what is asked is the same for every left row, and what is kept by
-- key is an aggregate.
abbrev pub LookupFor : Lookup → Asked → List ℕ → List ℕ → Type 0
LookupFor All a cells known = Unit {0}
LookupFor (ByKey x) a cells known = (has_keys a.node.kind ≡ true) × Indexed x a.found a.right cells
LookupFor (Kept x) a cells known =
    (has_keys a.node.kind ≡ true)
    × Indexed x a.found a.right cells
    × Shared a.found
    × Known a.found x.keys.left x.keys.right (held_in a.right cells) known

-- one left row stands at src, and what it gives goes to dst
pub record RowRoom (a : Asked) (src dst cells : ℕ) : Type 0 where
  pub step : StepRoom (operator_of a.node) a.ids.now a.right.columns.now a.right.count src dst a.right.at
  pub held : HeldWithin a.right cells

abbrev pub RowGiven : Asked → ℕ → ℕ → List ℕ → ℕ → List ℕ → Type 0
RowGiven a src dst entry r exit = EmitGiven a.node a.found a.ids.now a.right.columns.now src dst a.right.at a.right.count entry r exit

-- m left rows stand at `own`, and what they give goes to the front
pub record AllRoom (a : Asked) (own m cells : ℕ) : Type 0 where
  pub loop : LoopRoom (operator_of a.node) a.ids.now a.right.columns.now a.right.count own m a.right.at
  pub held : HeldWithin a.right cells
  pub few : m * emitted_most (operator_of a.node) a.right.count ≤ 4096

abbrev pub AllGiven : Asked → ℕ → ℕ → List ℕ → ℕ → List ℕ → Type 0
AllGiven a own m entry r exit = EmitsGiven a.node a.found a.ids.now a.right.columns.now own m a.right.at a.right.count entry r exit
