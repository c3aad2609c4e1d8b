-- Aggregates kept by key: where what a node asks and measures is the same for every left row, left rows with one key have one aggregate.
-- Private contracts speak of these. Definitions only.
use Rattle.std.specs.Prelude.{ℕ, Bool, true, false, ◌&&◌, ◌≡◌, Option, Some, None, List, eqb, length, get_or}
use Rattle.algebra.specs.Plans.{Row}
use Rattle.reporting.specs.Index.{before}
use Rattle.reporting.specs.Sides.{side_cell, condition_holds, found_cell}
use Rattle.reporting.specs.declared.side.Side.{Side}
use Rattle.reporting.specs.declared.side.Side.TheVariants.{Left, Right, Word}
use Rattle.reporting.specs.declared.side.Compared.{Compared}
use Rattle.reporting.specs.declared.side.Found.{Found}

-- whether a side is the same for every left row
abbrev pub side_shared : Side → Bool
side_shared (Left place) = false
side_shared (Right place) = true
side_shared (Word word) = true

-- .. and whether what is compared is
abbrev pub compared_shared : Option Compared → Bool
compared_shared None = true
compared_shared (Some k) = side_shared k.left && side_shared k.right

-- the test and what is measured are the same for every left row
pub record Shared (f : Found) : Type 0 where
  pub test : (l l' r : Row) → condition_holds f.test l r ≡ condition_holds f.test l' r
  pub measured : (l l' r : Row) → side_cell f.measured l r ≡ side_cell f.measured l' r

-- .. where they are said to be
abbrev pub SharedIf : Bool → Found → Type 0
SharedIf true f = Shared f
SharedIf false f = Unit {0}

-- the number of the first right row whose cell at `right` is the left row's at `left`, or that of all where there is none
abbrev pub key_number : ℕ → ℕ → List Row → Row → ℕ
key_number left right rs l = before (λ q. eqb (get_or q right 0) (get_or l left 0)) rs

-- what is kept under the number of a left row's key is the aggregate over the right rows that it meets, or 0 for none
pub record Known (f : Found) (left right : ℕ) (rs : List Row) (known : List ℕ) : Type 0 where
  pub all : length known ≡ 4097
  pub kept : (l : Row) → (get_or known (key_number left right rs l) 0 ≡ 0 → ⊥) → found_cell f l rs ≡ get_or known (key_number left right rs l) 0
