-- Sets of ids below 256, as four words of 64 bits. The contracts of helpers speak of them. Definitions only.
use Rattle.std.specs.Prelude.{ℕ, ◌+◌, ◌/◌, ◌%◌, ◌^◌, ◌<◌, Bool, cond, ◌||◌, ◌≡◌, List, ◌++◌, Option, Some, None, slice_index, eqb, ltb}
use Rattle.std.proofs.Math.Option as maybe
use Rattle.algebra.specs.Lists.{member}
use Rattle.algebra.specs.Rules.{lacking}
use Rattle.unnesting.specs.declared.ids.IdSet.{IdSet}

-- the free id of an answer, as the algebra writes it
abbrev pub free_of : Option ℕ → maybe.Option ℕ
free_of (Some i) = maybe.some i
free_of None = maybe.none

-- is the digit k of the word set?
unfoldable pub bit : ℕ → ℕ → Bool
bit w k = eqb (w / 2 ^ k % 2) 1

-- the words of a set: id i is the digit i % 64 of the word i / 64
abbrev pub word : IdSet → ℕ → ℕ
word s i = slice_index s.words i

-- the set has exactly the ids below 256 that stand in the list
pub record Holds (s : IdSet) (ids : List ℕ) : Type 0 where
  pub right : (i : ℕ) → i < 256 → bit (word s (i / 64)) (i % 64) ≡ member i ids

-- r is the set s with the new ids besides
pub record Holding (s : IdSet) (new : List ℕ) (r : IdSet) : Type 0 where
  pub after : (ids : List ℕ) → Holds s ids → Holds r (new ++ ids)

-- r is the smallest id that the set lacks
pub record SmallestFree (s : IdSet) (r : Option ℕ) : Type 0 where
  pub found : (ids : List ℕ) → Holds s ids → free_of r ≡ lacking 256 0 ids

-- ---- one word

-- r is the word w with its digit k set
pub record Puts (w k r : ℕ) : Type 0 where
  pub right : (j : ℕ) → bit r j ≡ (eqb j k || bit w j)

-- the 64 digits of a word say which of the ids base, base + 1, .. stand in the list
pub record Part (w base : ℕ) (ids : List ℕ) : Type 0 where
  pub right : (k : ℕ) → k < 64 → bit w k ≡ member (base + k) ids

-- r is the lowest digit of the word that is not set, or 64: so much of a search for the first id that is lacking is done
pub record Lowest (w r : ℕ) : Type 0 where
  pub search : (n base : ℕ) (ids : List ℕ) → Part w base ids
      → lacking (64 + n) base ids ≡ cond (ltb r 64) (maybe.some (base + r)) (lacking n (base + 64) ids)
