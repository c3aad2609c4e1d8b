-- Group by the columns that were found. Private contracts speak of these. Definitions only.
use Rattle.std.specs.Prelude.{ℕ, ◌≡◌, List, [], ◌∷◌, ◌++◌, map}
use Rattle.std.proofs.Math.Seq.{paste}
use Rattle.algebra.specs.Lists.{firsts, flat_map}
use Rattle.algebra.specs.Plans.{Row}
use Rattle.reporting.specs.Sides.{found_cell}
use Rattle.reporting.specs.declared.side.Found.{Found}

-- a key, as a row of one cell, with the aggregate over the rows that it meets
abbrev pub key_row : Found → List Row → Row → Row
key_row f rows v = v ++ (found_cell f v rows ∷ [])

-- each first occurrence of a key among the rows, with its aggregate over them
abbrev pub grouped_by : Found → (Row → ℕ) → List Row → List Row
grouped_by f key rows = flat_map (λ v. key_row f rows v ∷ []) (firsts (map (λ q. key q ∷ []) rows))

-- a key and its aggregate stand at dst, and all else is as it was
abbrev pub KeyWritten : Found → ℕ → ℕ → List Row → List ℕ → List ℕ → Type 0
KeyWritten f key dst rows entry exit = exit ≡ paste entry dst (key_row f rows (key ∷ [])) 2
