-- A tally: what the measured cells of the rows that passed come to, for all four aggregates (docs/DEFINITION.md, "Aggregates"). Definitions only.
use Rattle.std.specs.Prelude.{ℕ, ◌+◌, ◌*◌, ◌/◌, ◌%◌, ◌≤◌, min, max, not, cond, ◌&&◌, ◌||◌, ◌≡◌, List, eqb, ltb, length}
use Rattle.algebra.specs.Lists.{filter, any, total}
use Rattle.algebra.specs.Cells.{Aggregate, count, over, Summary, sum, least, greatest, blank, off_scale, origin, is_blank, needs_all, sum_of, summary}
use Rattle.reporting.specs.declared.gather.Tally.{Tally}

abbrev pub not_blank : List ℕ → List ℕ
not_blank xs = filter (λ x. not (is_blank x)) xs

-- the sum that a tally keeps in two parts: that of the cells' lower 32 binary digits, and that of the digits above them
abbrev pub sum_in : Tally → ℕ
sum_in t = t.low + 4294967296 * t.high

-- what a tally says of the measured cells xs
pub record Tallies (xs : List ℕ) (t : Tally) : Type 0 where
  pub counted : t.rows ≡ length xs
  pub scaled : t.off ≡ any (eqb off_scale) xs
  pub numbered : t.numbers ≡ length (not_blank xs)
  pub summed : sum_in t ≡ total (not_blank xs)
  pub lowest : t.least ≡ summary least (not_blank xs)
  pub highest : t.greatest ≡ summary greatest (not_blank xs)

-- a tally of n rows has at most n numbers, and a half of none is above 2 ^ 32 - 1: so both parts of its sum fit
pub record Bounded (t : Tally) : Type 0 where
  pub few : t.numbers ≤ t.rows
  pub lower : t.low ≤ 4294967295 * t.rows
  pub upper : t.high ≤ 4294967295 * t.rows

-- the least of one cell more; with no cell before it, that cell
abbrev pub lesser : ℕ → ℕ → ℕ → ℕ
lesser numbers lowest x = cond (eqb numbers 0) x (min x lowest)

-- a tally with one cell more: a blank is only counted
unfoldable pub added : Tally → ℕ → Tally
added t x = record {
  rows = t.rows + 1;
  numbers = cond (eqb x blank) t.numbers (t.numbers + 1);
  low = t.low + x % 4294967296;
  high = t.high + x / 4294967296;
  least = cond (eqb x blank) t.least (lesser t.numbers t.least x);
  greatest = max x t.greatest;
  off = eqb off_scale x || t.off;
}

-- the aggregate that a tally gives
abbrev pub tally_summary : Summary → Tally → ℕ
tally_summary sum t = sum_of t.numbers (sum_in t)
tally_summary least t = t.least
tally_summary greatest t = t.greatest

-- a cell was blank where there are fewer numbers than rows
unfoldable pub tallied : Aggregate → Tally → ℕ
tallied count t = origin + t.rows
tallied (over k c) t = cond t.off off_scale (cond (needs_all k && ltb t.numbers t.rows) blank (tally_summary k t))
