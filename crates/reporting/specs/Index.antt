-- An index of rows by chains. A link is 0 for none and i + 1 for row i: `heads` has the first link of each bucket, `next` the link behind
-- each row. Definitions only.
use Rattle.std.specs.Prelude.{ℕ, zero, suc, ◌+◌, ◌*◌, ◌/◌, ◌%◌, ◌<◌, ◌≤◌, Bool, cond, ◌≡◌, List, [], ◌∷◌, eqb, length, get_or}
use Rattle.algebra.specs.Lists.{filter, upward}
use Rattle.algebra.specs.Plans.{Row}

-- ---- buckets

-- the lower 32 binary digits of a cell and those above them, added
abbrev pub halves : ℕ → ℕ
halves x = x % 4294967296 + x / 4294967296

-- the bucket of a key: the upper 12 of the lower 32 binary digits of a product
unfoldable pub bucket_of : ℕ → ℕ
bucket_of key = halves key % 4294967296 * 2654435761 % 4294967296 / 1048576

-- the bucket of a row by its cell at a place
abbrev pub slot_of : ℕ → Row → ℕ
slot_of place q = bucket_of (get_or q place 0)

-- the bucket of a row by all its cells: they are mixed into one number, from the first on
unfoldable pub mixed : ℕ → Row → ℕ
mixed h [] = h
mixed h (x ∷ xs) = mixed ((h * 2654435761 + halves x) % 4294967296) xs

abbrev pub row_slot : Row → ℕ
row_slot q = bucket_of (mixed 0 q)

-- ---- row numbers

-- the row of a number, from 0 on
abbrev pub nth : List Row → ℕ → Row
nth rs i = get_or rs i []

-- the numbers below n, the largest first
abbrev pub downward : ℕ → List ℕ
downward zero = []
downward (suc n) = n ∷ downward n

-- those of the row numbers whose row is in bucket b
abbrev pub in_bucket : (Row → ℕ) → List Row → ℕ → List ℕ → List ℕ
in_bucket slot rs b ns = filter (λ i. eqb (slot (nth rs i)) b) ns

-- how many rows come before the first that passes; all of them where none does
unfoldable pub before : (Row → Bool) → List Row → ℕ
before p [] = 0
before p (r ∷ rs) = cond (p r) 0 (suc (before p rs))

-- ---- chains

-- the row numbers on a chain from a link on, at most so many
unfoldable pub chain : ℕ → List ℕ → ℕ → List ℕ
chain zero next h = []
chain (suc most) next zero = []
chain (suc most) next (suc i) = i ∷ chain most next (get_or next i 0)

-- each bucket's chain holds just those of the row numbers ns that are in it, in their order. It may hold one more than there are in ns, so it has
-- ended
pub record Index (slot : Row → ℕ) (rs : List Row) (ns heads next : List ℕ) : Type 0 where
  pub bucket : (b : ℕ) → b < 4096 → chain (suc (length ns)) next (get_or heads b 0) ≡ in_bucket slot rs b ns

-- k rows are indexed by their cell at a place, each chain in the order of the rows
pub record Linked (place k : ℕ) (rs : List Row) (heads next : List ℕ) : Type 0 where
  pub all_heads : length heads ≡ 4096
  pub all-next : k ≤ length next
  pub index : Index (slot_of place) rs (upward k 0) heads next
