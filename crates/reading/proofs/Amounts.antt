-- How many tables there are only 11 asks: ids, views, columns, bounds and the need are the same for any number. Assumes nothing.
use Prim.Native.Nat.{ℕ, ◌+◌, ◌*◌}
use mathlib.Core.Bool.{Bool, ◌&&◌}
use mathlib.Core.Path.{◌≡◌, refl, ap, ap₂, ◌∙◌, fun_ext}
use mathlib.Core.List.{List, ◌++◌, map}
use lib.Dec.{leb}
use lib.ListN.{length}
use Rattle.algebra.specs.Lists.{all, total}
use Rattle.algebra.specs.Plans.{Tables, unit, scan, unary_columns, binary_columns, Plan, leaf, one, two, nested, columns}
use Rattle.algebra.specs.Places.{root, subtrees}
use Rattle.algebra.specs.Names.{unary_new, binary_new, introduced}
use Rattle.algebra.specs.Refusals.{per_row, bound, has_region, counted_rows, share, need, unary_in_view, binary_in_view, inner_scope, in_view, narrow, low}

module _ (T : Tables) (known : ℕ) where
  abbrev K : Tables
  K = record { amount = known; width = T.width; rows = T.rows }

  columns-amount : (p : Plan) → columns K p ≡ columns T p
  unfolding columns
  columns-amount (leaf unit) = refl
  columns-amount (leaf (scan t n)) = refl
  columns-amount (one u p) = ap (unary_columns u) (columns-amount p)
  columns-amount (two b e f) = ap₂ (binary_columns b) (columns-amount e) (columns-amount f)

  pub introduced-amount : (p : Plan) → introduced K p ≡ introduced T p
  unfolding introduced
  introduced-amount (leaf unit) = refl
  introduced-amount (leaf (scan t n)) = refl
  introduced-amount (one u p) = ap (λ ids. unary_new u ++ ids) (introduced-amount p)
  introduced-amount (two b e f) = ap₂ (λ ids more. binary_new b ++ (ids ++ more)) (introduced-amount e) (introduced-amount f)

  pub view_amount : (scope : List ℕ) (p : Plan) → in_view K scope p ≡ in_view T scope p
  unfolding in_view
  view_amount scope (leaf x) = refl
  view_amount scope (one u p) = ap₂ ◌&&◌ (ap (unary_in_view scope u) (columns-amount p)) (view_amount scope p)
  view_amount scope (two b e f) =
      ap₂ ◌&&◌ (ap₂ (binary_in_view scope b) (columns-amount e) (columns-amount f))
      (ap₂ ◌&&◌ (view_amount scope e) (ap (λ cs. in_view K (inner_scope (nested b) cs scope) f) (columns-amount e) ∙ view_amount (inner_scope (nested b) (columns T e) scope) f))

  bound-amount : (p : Plan) → bound K p ≡ bound T p
  unfolding bound
  bound-amount (leaf unit) = refl
  bound-amount (leaf (scan t n)) = refl
  bound-amount (one u p) = bound-amount p
  bound-amount (two b e f) = ap₂ (λ x y. x * per_row b y) (bound-amount e) (bound-amount f)

  pub narrow-amount : (ps : List Plan) → all (narrow K) ps ≡ all (narrow T) ps
  narrow-amount ps = ap (λ (p : Plan → Bool). all p ps) (fun_ext (λ q. ap (λ cs. leb (length cs) 32) (columns-amount q)))

  pub low-amount : (ps : List Plan) → all (low K) ps ≡ all (low T) ps
  low-amount ps = ap (λ (p : Plan → Bool). all p ps) (fun_ext (λ q. ap (λ x. leb x 4096) (bound-amount q)))

  share-amount : (p : Plan) → share K p ≡ share T p
  share-amount p = ap₂ (λ x cs. counted_rows (has_region (root p)) x * length cs) (bound-amount p) (columns-amount p)

  pub need-amount : (p : Plan) → need K p ≡ need T p
  unfolding need
  need-amount p = ap (λ (s : Plan → ℕ). total (map s (subtrees p)) + 4096) (fun_ext share-amount)
