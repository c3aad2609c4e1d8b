-- Cells, comparisons and aggregates (docs/DEFINITION.md, "Cells", "Tests and comparisons" and "Aggregates"). Definitions only.
-- A cell is held as its signed 64-bit code plus 2^63, so that the order of cells is the order of codes.
use Rattle.std.specs.Prelude.{ℕ, ◌+◌, ◌*◌, ◌-◌, min, max, Bool, true, false, not, cond, ◌&&◌, ◌||◌, eqb, ltb, leb, length, if◌then◌else◌}
use mathlib.Core.List.{List, [], ◌∷◌, foldr}
use Rattle.algebra.specs.Lists.{filter, any, total}

pub data Comparison : Type 0 where
  eq ne lt le gt ge : Comparison

pub data Summary : Type 0 where
  sum least greatest : Summary

-- Count names no column.
pub data Aggregate : Type 0 where
  count : Aggregate
  over : Summary → ℕ → Aggregate

-- code -9,223,372,036,854,775,808
abbrev pub blank : ℕ
blank = 0

-- code 9,223,372,036,854,775,807
abbrev pub off_scale : ℕ
off_scale = 18446744073709551615

-- the cell of the number 0
abbrev pub origin : ℕ
origin = 9223372036854775808

-- the largest number
abbrev pub reach : ℕ
reach = 9000000000000000

-- a cell of a number from -most to most
abbrev pub within_reach : ℕ → ℕ → Bool
within_reach most x = leb (origin - most) x && leb x (origin + most)

-- a cell of a number from -9,000,000,000,000,000 to 9,000,000,000,000,000
abbrev pub in_range : ℕ → Bool
in_range x = within_reach reach x

abbrev pub is_blank : ℕ → Bool
is_blank x = eqb x blank

abbrev pub is_number : ℕ → Bool
is_number x = not (eqb x blank) && not (eqb x off_scale)

abbrev pub order : Comparison → ℕ → ℕ → Bool
order eq a b = eqb a b
order ne a b = not (eqb a b)
order lt a b = ltb a b
order le a b = leb a b
order gt a b = ltb b a
order ge a b = leb b a

abbrev pub is_unequal : Comparison → Bool
is_unequal eq = false
is_unequal ne = true
is_unequal lt = false
is_unequal le = false
is_unequal gt = false
is_unequal ge = false

-- of two cells one is blank and the other a number
abbrev pub one_blank : ℕ → ℕ → Bool
one_blank a b = (is_number a && is_blank b) || (is_number b && is_blank a)

-- two numbers compare as they are ordered; of any other two cells only ≠ can hold, and it does where one is blank and the other a number
unfoldable pub compares : Comparison → ℕ → ℕ → Bool
compares c a b = if is_number a && is_number b then order c a b else one_blank a b && is_unequal c

-- the comparison that says the same with its sides exchanged
abbrev pub turn : Comparison → Comparison
turn eq = eq
turn ne = ne
turn lt = gt
turn le = ge
turn gt = lt
turn ge = le

-- a sum needs every cell; the least and the greatest skip blanks
abbrev pub needs_all : Summary → Bool
needs_all sum = true
needs_all least = false
needs_all greatest = false

-- ---- sums and aggregates, where numbers reach from -most to most
module _ (most : ℕ) where
  -- n numbers whose cells add up to s: the cell of their sum, off scale where it leaves the range
  abbrev pub sum_within : ℕ → ℕ → ℕ
  sum_within n s = cond (leb (n * origin) (s + most) && leb s (n * origin + most)) (s + origin - n * origin) off_scale

  -- of cells that are numbers: their sum; the least and the greatest, blank for none
  abbrev pub summary_within : Summary → List ℕ → ℕ
  summary_within sum xs = sum_within (length xs) (total xs)
  summary_within least [] = blank
  summary_within least (x ∷ xs) = foldr min x xs
  summary_within greatest xs = foldr max blank xs

  -- the aggregate of the measured cells of the rows that pass: off scale where one of them is; else blank where one is blank and every cell
  -- is needed, whatever the numbers come to; else the summary of the numbers
  unfoldable pub aggregate_within : Aggregate → List ℕ → ℕ
  aggregate_within count xs = origin + length xs
  aggregate_within (over k c) xs = cond (any (eqb off_scale) xs) off_scale (cond (needs_all k && any is_blank xs) blank (summary_within k (filter (λ x. not (is_blank x)) xs)))

-- .. in the cell range
abbrev pub sum_of : ℕ → ℕ → ℕ
sum_of = sum_within reach

abbrev pub summary : Summary → List ℕ → ℕ
summary = summary_within reach

abbrev pub aggregate : Aggregate → List ℕ → ℕ
aggregate = aggregate_within reach
