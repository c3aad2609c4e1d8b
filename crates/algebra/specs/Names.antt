-- The columns that a plan names from outside itself, and the ids that it introduces. Definitions only.
-- See docs/DEFINITION.md, "Columns and ids" and "Words of the rules".
use Rattle.std.specs.Prelude.{ℕ, Bool, true, false, List, [], ◌∷◌, ◌++◌}
use Rattle.algebra.specs.Lists.{minus, is_empty}
use Rattle.algebra.specs.Cells.{Aggregate, count, over}
use Rattle.algebra.specs.Plans.{Tables, names, Unary, select, project, distinct, group, sort, Binary, cross, semi, quant, fold, each, pair, Plan, leaf, one, two, nested, columns, leaf_columns}

-- ---- named from outside
abbrev pub measured : Aggregate → List ℕ
measured count = []
measured (over k c) = c ∷ []

abbrev pub binary_names : Binary → List ℕ
binary_names cross = []
binary_names (semi m l r t) = l ∷ r ∷ names t
binary_names (quant m t) = names t
binary_names (fold g n t) = measured g ++ names t
binary_names each = []
binary_names (pair g n l r c t) = l ∷ r ∷ (measured g ++ names t)

unfoldable pub unary_free : Unary → List ℕ → List ℕ
unary_free (select t) cs = minus (names t) cs
unary_free (project ids) cs = minus ids cs
unary_free (distinct ids) cs = minus ids cs
unary_free (group g n l r c t) cs = minus (r ∷ []) cs ++ minus (minus (binary_names (pair g n l r c t)) cs) (l ∷ [])
unary_free (sort d ids) cs = minus ids cs

-- of what the second child names from outside, the left row's columns are inside where the node is nested
abbrev pub inner_free : Bool → List ℕ → List ℕ → List ℕ
inner_free true cs fs = minus fs cs
inner_free false cs fs = fs

unfoldable pub free : Tables → Plan → List ℕ
free T (leaf x) = []
free T (one u p) = free T p ++ unary_free u (columns T p)
free T (two b e f) = free T e ++ (inner_free (nested b) (columns T e) (free T f) ++ minus (minus (binary_names b) (columns T f)) (columns T e))

-- names no column from outside itself
unfoldable pub closed : Tables → Plan → Bool
closed T p = is_empty (free T p)

-- ---- introduced
abbrev pub unary_new : Unary → List ℕ
unary_new (select t) = []
unary_new (project ids) = []
unary_new (distinct ids) = []
unary_new (group g n l r c t) = l ∷ n ∷ []
unary_new (sort d ids) = []

abbrev pub binary_new : Binary → List ℕ
binary_new cross = []
binary_new (semi m l r t) = []
binary_new (quant m t) = []
binary_new (fold g n t) = n ∷ []
binary_new each = []
binary_new (pair g n l r c t) = n ∷ []

-- node by node, in pre-order
unfoldable pub introduced : Tables → Plan → List ℕ
introduced T (leaf x) = leaf_columns T x
introduced T (one u p) = unary_new u ++ introduced T p
introduced T (two b e f) = binary_new b ++ (introduced T e ++ introduced T f)
