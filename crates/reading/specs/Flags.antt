-- What 256 flags say of a list of ids. The contracts of helpers speak of them; no answer of a call does.
use Rattle.std.specs.Prelude.{ℕ, ◌<◌, Bool, true, false, ◌≡◌, List, ◌++◌, Option, MatchOption, length, get_or, if◌then◌else◌}
use Rattle.algebra.specs.Lists.{member, within}
use Rattle.algebra.specs.Refusals.{once, list_in_view}

-- the flags are 1 at the ids of the list and 0 elsewhere
pub record Flags (flags ids : List ℕ) : Type 0 where
  pub long : length flags ≡ 256
  pub right : (k : ℕ) → k < 256 → get_or flags k 0 ≡ (if member k ids then 1 else 0)

-- The new ids were marked after those of any list that had each id once: none where an id stands twice now or is above 255, else the flags of all.
pub record Marks (flags new : List ℕ) (r : Option (List ℕ)) : Type 0 where
  pub after : (ids : List ℕ) → Flags flags ids → once ids ≡ true
      → MatchOption r (once (ids ++ new) ≡ false) (λ marks. (once (ids ++ new) ≡ true) × Flags marks (ids ++ new))

-- The new ids were flagged besides those of any list.
pub record Adds (flags new r : List ℕ) : Type 0 where
  pub after : (ids : List ℕ) → Flags flags ids → Flags r (new ++ ids)

-- The flags of any list decide whether an id stands in it.
pub record Flagged (flags : List ℕ) (id : ℕ) (r : Bool) : Type 0 where
  pub decides : (ids : List ℕ) → Flags flags ids → r ≡ member id ids

-- The flags of any list decide whether all these names stand in it.
pub record Sees (flags names : List ℕ) (r : Bool) : Type 0 where
  pub decides : (ids : List ℕ) → Flags flags ids → r ≡ within names ids

-- .. and none of them twice among themselves.
pub record SeesOnce (flags names : List ℕ) (r : Bool) : Type 0 where
  pub decides : (ids : List ℕ) → Flags flags ids → r ≡ list_in_view names ids
