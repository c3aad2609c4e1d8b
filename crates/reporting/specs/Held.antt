-- Rows that stand in cells, and an index of them by their key. Private contracts speak of these. Definitions only.
use Rattle.std.specs.Prelude.{ℕ, ◌+◌, ◌*◌, ◌-◌, ◌≤◌, List, length}
use Rattle.algebra.specs.Plans.{Row}
use Rattle.reporting.specs.Index.{Linked}
use Rattle.reporting.specs.Rows.{rows_from}
use Rattle.reporting.specs.Sides.{Equals, FoundInside}
use Rattle.reporting.specs.declared.held.HeldRows.{HeldRows}
use Rattle.reporting.specs.declared.index.KeyIndex.{KeyIndex}
use Rattle.reporting.specs.declared.side.Found.{Found}

-- the rows
abbrev pub held_in : HeldRows → List ℕ → List Row
held_in rows cells = rows_from rows.at rows.count (length rows.columns.now) cells

-- so many cells hold them
abbrev pub HeldWithin : HeldRows → ℕ → Type 0
HeldWithin rows n = rows.at + rows.count * length rows.columns.now ≤ n

-- what is asked of the left row at src and of the right rows lies in the cells
pub record RowsInside (f : Found) (right : HeldRows) (src : ℕ) (cells : List ℕ) : Type 0 where
  pub found : FoundInside f (length cells - src) (length right.columns.now)
  pub held : HeldWithin right (length cells)

-- the right rows are indexed by the key that is compared by =
pub record Indexed (x : KeyIndex) (f : Found) (right : HeldRows) (cells : List ℕ) : Type 0 where
  pub equals : Equals x.keys.left x.keys.right f.keys
  pub linked : Linked x.keys.right right.count (held_in right cells) x.heads.now x.next.now
