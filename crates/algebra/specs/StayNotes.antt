-- Stay notes: where U3, U4 or U6 fails only because the sequences differ (docs/DEFINITION.md, "Stay notes"). Definitions only.
use Rattle.std.specs.Prelude.{ℕ, ◌<◌, Bool, not, cond, ◌||◌, ◌≢◌, ◌≡◌, List, [], ◌∷◌, eqb, length}
use Rattle.std.proofs.Math.Option.{Option, none, some}
use Rattle.std.proofs.Math.ListN.{get_elem?}
use Rattle.algebra.specs.Lists.{common_beginning}
use Rattle.algebra.specs.Plans.{Row, Tables, distinct, cross, semi, quant, fold, each, pair, Plan, leaf, one, two, eval}
use Rattle.algebra.specs.Places.{modify, look}
use Rattle.algebra.specs.Rules.{outside, sequenced, Sequence, top, bare, rule_of, unnest, fresh}
use Rattle.algebra.specs.Steps.{accepted}

pub record Sequences : Type 0 where
  pub first : List Row
  pub second : List Row

abbrev pub nothing : Sequences
nothing = record { first = []; second = [] }

-- the two sequences that U3, U4 and U6 compare
unfoldable pub sequences_of : Tables → Plan → Sequences
sequences_of T (leaf x) = nothing
sequences_of T (one u p) = nothing
sequences_of T (two cross e f) = nothing
sequences_of T (two (semi m l r t) e f) = record { first = eval T e outside; second = eval T (one (distinct (r ∷ [])) (bare (top f))) outside }
sequences_of T (two (quant m t) e f) = nothing
sequences_of T (two (fold a n t) e f) = nothing
sequences_of T (two each e f) = nothing
sequences_of T (two (pair a n l r c t) e f) = record { first = eval T e outside; second = eval T (one (distinct (r ∷ [])) f) outside }

abbrev pub comparing : ℕ → Bool
comparing u = eqb u 3 || (eqb u 4 || eqb u 6)

abbrev pub unsequenced : Tables → Sequence
unsequenced T e r h = not (sequenced T e r h)

-- the rule fails, and only for the sequences
unfoldable pub stays : Tables → Option ℕ → Plan → Option Plan
stays T c p = cond (comparing (rule_of p)) (unnest T (unsequenced T) c p) none

abbrev pub noted : Sequences → Option Plan → Option Sequences
noted s none = none
noted s (some q) = some s

unfoldable pub note_at : Tables → Plan → ℕ → Option Sequences
note_at T p i = noted (look (sequences_of T) nothing p i) (accepted T (modify (stays T (fresh T p)) p i))

-- ---- the position

-- how many rows the common beginning of two sequences has; the cells are compared by code
abbrev pub first_difference : List Row → List Row → ℕ
first_difference xs ys = length (common_beginning xs ys)

-- That it is the smallest position, from 0, at which the sequences differ or just one has ended: past its end a sequence has no row.
pub record SmallestDifference (xs ys : List Row) (position : ℕ) : Type 0 where
  pub differ : get_elem? xs position ≢ get_elem? ys position
  pub alike_before : (i : ℕ) → i < position → get_elem? xs i ≡ get_elem? ys i
