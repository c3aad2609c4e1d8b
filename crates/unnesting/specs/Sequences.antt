-- The outcome of comparing the two sequences of U3, U4 and U6. The contracts of helpers speak of these. Definitions only.
use Rattle.std.specs.Prelude.{ℕ, true, false, ◌≡◌, List, [], ◌∷◌, map, Option, None, Some}
use Rattle.algebra.specs.Lists.{same_rows}
use Rattle.algebra.specs.Plans.{Row, distinct, one, eval}
use Rattle.algebra.specs.Rules.{outside}
use Rattle.algebra.specs.StayNotes.{Sequences, first_difference}
use Rattle.reading.specs.TableSet.{tables_of}
use Rattle.reading.specs.Tree.{plan_at}

-- the sequences are the same; or they are not, and this is the first position at which they differ or just one has ended
abbrev pub ComparedAs : List Row → List Row → Option ℕ → Type 0
ComparedAs xs ys None = same_rows xs ys ≡ true
ComparedAs xs ys (Some p) = (same_rows xs ys ≡ false) × (p ≡ first_difference xs ys)

-- the same of a rule's two sequences
abbrev pub PairCompared : Sequences → Option ℕ → Type 0
PairCompared s result = ComparedAs s.first s.second result

-- the values of the tree at place e, and the Distinct keys of the tree at place h
abbrev pub values_and_keys : List ℕ → List ℕ → ℕ → ℕ → ℕ → Sequences
values_and_keys set plan e h key =
    record {
      first = eval (tables_of set) (plan_at plan e) outside;
      second = eval (tables_of set) (one (distinct (key ∷ [])) (plan_at plan h)) outside;
    }

-- cells as rows of one cell
abbrev pub rows_of_one : List ℕ → List Row
rows_of_one cells = map (λ c. c ∷ []) cells
