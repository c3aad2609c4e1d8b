-- The row bound, the need, and the refusals 8 to 14 of a plan as a tree. Definitions only.
-- See docs/DEFINITION.md, "The kinds", "Columns and ids" and "Bound and need".
-- The reading call meets 11 to 14 by `refusal`, and the unnestings ask the plan after them to pass by the same definition.
use Rattle.std.specs.Prelude.{ℕ, ◌+◌, ◌*◌, min, max, Bool, true, false, not, ◌&&◌, List, [], ◌∷◌, ◌++◌, map, eqb, ltb, leb, length, if◌then◌else◌}
use Rattle.algebra.specs.Lists.{every, all, total, member, unique, within}
use Rattle.algebra.specs.Cells.{Aggregate, count, over, in_range}
use Rattle.algebra.specs.Plans.{Tables, Form, always, columns_of, number_of, Test, test, names, Leaf, unit, scan, Unary, select, project, distinct, group, sort, Binary, cross, semi, quant, fold, each, pair, Plan, leaf, one, two, nested, columns}
use Rattle.algebra.specs.Places.{Operator, leaf_node, unary_node, binary_node, root, size, flatten, subtrees}
use Rattle.algebra.specs.Names.{measured, introduced}

-- ---- the row bound and the need
-- the rows that a left row can give, y the bound of the second child
abbrev pub per_row : Binary → ℕ → ℕ
per_row cross y = y
per_row (semi m l r t) y = 1
per_row (quant m t) y = 1
per_row (fold g n t) y = 1
per_row each y = max 1 y
per_row (pair g n l r c t) y = 1

abbrev pub leaf_bound : Tables → Leaf → ℕ
leaf_bound T unit = 1
leaf_bound T (scan t n) = length (T.rows t)

unfoldable pub bound : Tables → Plan → ℕ
bound T (leaf x) = leaf_bound T x
bound T (one u p) = bound T p
bound T (two b e f) = bound T e * per_row b (bound T f)

abbrev pub width : Tables → Plan → ℕ
width T p = length (columns T p)

-- Whether a node's rows take a region of scratch. Select, Project, Semi, Anti, Some and Every have none: they pass the rows of their first
-- child on.
abbrev pub unary_region : Unary → Bool
unary_region (select t) = false
unary_region (project ids) = false
unary_region (distinct ids) = true
unary_region (group g n l r c t) = true
unary_region (sort d ids) = true

abbrev pub binary_region : Binary → Bool
binary_region cross = true
binary_region (semi m l r t) = false
binary_region (quant m t) = false
binary_region (fold g n t) = true
binary_region each = true
binary_region (pair g n l r c t) = true

abbrev pub has_region : Operator → Bool
has_region (leaf_node x) = true
has_region (unary_node u) = unary_region u
has_region (binary_node b) = binary_region b

-- the rows that a node of bound b counts: all that its region has room for; without a region one, and none where the bound is 0
abbrev pub counted_rows : Bool → ℕ → ℕ
counted_rows true b = b
counted_rows false b = min 1 b

-- the cells that a node counts
abbrev pub share : Tables → Plan → ℕ
share T p = counted_rows (has_region (root p)) (bound T p) * width T p

-- a tree's part of scratch: the cells that all its nodes count
abbrev pub part : Tables → Plan → ℕ
part T p = total (map (share T) (subtrees p))

-- the whole plan's part, plus 4,096 cells of scratch
unfoldable pub need : Tables → Plan → ℕ
need T p = part T p + 4096

-- ---- 9: what a field can hold
abbrev pub byte : ℕ → Bool
byte x = ltb x 256

abbrev pub list_fields : List ℕ → Bool
list_fields ids = every (leb 1 (length ids) ∷ leb (length ids) 7 ∷ all byte ids ∷ [])

abbrev pub form_fields : Form → Bool
form_fields always = true
form_fields (columns_of c l r) = byte l && byte r
form_fields (number_of c l w) = byte l && in_range w

abbrev pub test_fields : Test → Bool
test_fields (test m f) = form_fields f

abbrev pub aggregate_fields : Aggregate → Bool
aggregate_fields count = true
aggregate_fields (over k c) = byte c

abbrev pub leaf_fields : Leaf → Bool
leaf_fields unit = true
leaf_fields (scan t n) = byte t && byte n

abbrev pub unary_fields : Unary → Bool
unary_fields (select t) = test_fields t
unary_fields (project ids) = list_fields ids
unary_fields (distinct ids) = list_fields ids
unary_fields (group g n l r c t) = every (aggregate_fields g ∷ byte n ∷ byte l ∷ byte r ∷ test_fields t ∷ [])
unary_fields (sort d ids) = list_fields ids

abbrev pub binary_fields : Binary → Bool
binary_fields cross = true
binary_fields (semi m l r t) = every (byte l ∷ byte r ∷ test_fields t ∷ [])
binary_fields (quant m t) = test_fields t
binary_fields (fold g n t) = every (aggregate_fields g ∷ byte n ∷ test_fields t ∷ [])
binary_fields each = true
binary_fields (pair g n l r c t) = every (aggregate_fields g ∷ byte n ∷ byte l ∷ byte r ∷ test_fields t ∷ [])

unfoldable pub fields : Operator → Bool
fields (leaf_node x) = leaf_fields x
fields (unary_node u) = unary_fields u
fields (binary_node b) = binary_fields b

-- ---- 11: each Scan's table is there
abbrev pub leaf_found : Tables → Leaf → Bool
leaf_found T unit = true
leaf_found T (scan t n) = ltb t T.amount

abbrev pub found : Tables → Operator → Bool
found T (leaf_node x) = leaf_found T x
found T (unary_node u) = true
found T (binary_node b) = true

-- ---- 12: ids
-- each id is introduced once, and none is above 255
unfoldable pub once : List ℕ → Bool
once ids = unique ids && all byte ids

-- a list names columns of the child, none twice
abbrev pub list_in_view : List ℕ → List ℕ → Bool
list_in_view ids cs = unique ids && within ids cs

-- A node's names, cs and ds the columns of its children, scope those of the rows that it is nested in. A test may name all of them;
-- left keys belong to the first child, right keys and aggregate columns to the second (in Group to its child), lists to the child.
abbrev pub unary_in_view : List ℕ → Unary → List ℕ → Bool
unary_in_view scope (select t) cs = within (names t) (cs ++ scope)
unary_in_view scope (project ids) cs = list_in_view ids cs
unary_in_view scope (distinct ids) cs = list_in_view ids cs
unary_in_view scope (group g n l r c t) cs = every (member r cs ∷ within (measured g) cs ∷ within (names t) (cs ++ scope) ∷ [])
unary_in_view scope (sort d ids) cs = list_in_view ids cs

abbrev pub binary_in_view : List ℕ → Binary → List ℕ → List ℕ → Bool
binary_in_view scope cross cs ds = true
binary_in_view scope (semi m l r t) cs ds = every (member l cs ∷ member r ds ∷ within (names t) (cs ++ (ds ++ scope)) ∷ [])
binary_in_view scope (quant m t) cs ds = within (names t) (cs ++ (ds ++ scope))
binary_in_view scope (fold g n t) cs ds = every (within (measured g) ds ∷ within (names t) (cs ++ (ds ++ scope)) ∷ [])
binary_in_view scope each cs ds = true
binary_in_view scope (pair g n l r c t) cs ds =
    every (member l cs ∷ member r ds ∷ within (measured g) ds ∷ within (names t) (cs ++ (ds ++ scope)) ∷ [])

-- the columns of the rows that the second child is nested in
abbrev pub inner_scope : Bool → List ℕ → List ℕ → List ℕ
inner_scope true cs scope = cs ++ scope
inner_scope false cs scope = scope

-- every node's names are in view
unfoldable pub in_view : Tables → List ℕ → Plan → Bool
in_view T scope (leaf x) = true
in_view T scope (one u p) = unary_in_view scope u (columns T p) && in_view T scope p
in_view T scope (two b e f) =
    binary_in_view scope b (columns T e) (columns T f) && (in_view T scope e && in_view T (inner_scope (nested b) (columns T e) scope) f)

-- ---- 13, 14
abbrev pub narrow : Tables → Plan → Bool
narrow T p = leb (width T p) 32

abbrev pub low : Tables → Plan → Bool
low T p = leb (bound T p) 4096

-- ---- the numbers
-- the first of 11, 12, 13, 14 that turns the plan back, each over the whole plan before the next; 0 where none does
unfoldable pub refusal : Tables → Plan → ℕ
refusal T p =
    if not (all (found T) (flatten p)) then 11 else
    if not (once (introduced T p) && in_view T [] p) then 12 else
    if not (all (narrow T) (subtrees p)) then 13 else
    if not (all (low T) (subtrees p)) then 14 else
    0

-- the plan passes refusals 8 to 14; a tree meets 10 by itself
unfoldable pub passes : Tables → Plan → Bool
passes T p = every (leb (size p) 64 ∷ all fields (flatten p) ∷ eqb (refusal T p) 0 ∷ [])
