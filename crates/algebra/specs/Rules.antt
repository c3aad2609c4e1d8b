-- The eight unnestings (docs/DEFINITION.md, "The unnestings"). Definitions only.
-- e and f are a node's first and second child. U1 and U2 are one definition with a mark, and so are U3 and U4.
use Rattle.std.specs.Prelude.{ℕ, zero, suc, Bool, true, false, not, cond, ◌&&◌, List, [], ◌∷◌, eqb}
use Rattle.std.proofs.Math.Option.{Option, none, some}
use Rattle.algebra.specs.Lists.{every, all, member, is_empty, same_rows}
use Rattle.algebra.specs.Cells.{Comparison, eq, ne, lt, le, gt, ge, turn, Aggregate, count, origin}
use Rattle.algebra.specs.Plans.{Env, Tables, always, columns_of, number_of, Test, test, plain, is_plain, names, turned, select, project, distinct, group, sort, cross, semi, quant, fold, each, pair, Plan, leaf, one, two, columns, eval}
use Rattle.algebra.specs.Names.{free, closed, introduced}
use Rattle.algebra.specs.Places.{look}

-- ---- the shapes that the rules ask for
-- a Select on top
pub data Top : Plan → Type 0 where
  selected : (s : Test) (g : Plan) → Top (one (select s) g)
  other : (p : Plan) → Top p

abbrev pub top : (p : Plan) → Top p
top (leaf x) = other (leaf x)
top (one (select s) g) = selected s g
top (one (project ids) g) = other (one (project ids) g)
top (one (distinct ids) g) = other (one (distinct ids) g)
top (one (group a n l r c t) g) = other (one (group a n l r c t) g)
top (one (sort d ids) g) = other (one (sort d ids) g)
top (two b e f) = other (two b e f)

-- the plan without its top Project, if it has one: U1, U2 and U5 look for their Select here
abbrev pub unprojected : Plan → Plan
unprojected (leaf x) = leaf x
unprojected (one (select s) g) = one (select s) g
unprojected (one (project ids) g) = g
unprojected (one (distinct ids) g) = one (distinct ids) g
unprojected (one (group a n l r c t) g) = one (group a n l r c t) g
unprojected (one (sort d ids) g) = one (sort d ids) g
unprojected (two b e f) = two b e f

-- a Distinct of one column
pub data Only : Plan → Type 0 where
  only : (k : ℕ) (p : Plan) → Only (one (distinct (k ∷ [])) p)
  another : (p : Plan) → Only p

abbrev pub only_of : (p : Plan) → Only p
only_of (leaf x) = another (leaf x)
only_of (one (select s) g) = another (one (select s) g)
only_of (one (project ids) g) = another (one (project ids) g)
only_of (one (distinct []) g) = another (one (distinct []) g)
only_of (one (distinct (k ∷ [])) g) = only k g
only_of (one (distinct (k ∷ j ∷ ids)) g) = another (one (distinct (k ∷ j ∷ ids)) g)
only_of (one (group a n l r c t) g) = another (one (group a n l r c t) g)
only_of (one (sort d ids) g) = another (one (sort d ids) g)
only_of (two b e f) = another (two b e f)

-- a comparison between a left and a right column, as left key, right key and comparison
pub data Link : Type 0 where
  unlinked : Link
  link : ℕ → ℕ → Comparison → Link

abbrev pub link_by : Bool → Bool → Comparison → ℕ → ℕ → Link
link_by true y c a b = link a b c
link_by false true c a b = link b a (turn c)
link_by false false c a b = unlinked

abbrev pub link_of : List ℕ → List ℕ → Test → Link
link_of cs ds (test true f) = unlinked
link_of cs ds (test false always) = unlinked
link_of cs ds (test false (columns_of c a b)) = link_by (member a cs && member b ds) (member b cs && member a ds) c a b
link_of cs ds (test false (number_of c l w)) = unlinked

abbrev pub is_equal : Comparison → Bool
is_equal eq = true
is_equal ne = false
is_equal lt = false
is_equal le = false
is_equal gt = false
is_equal ge = false

abbrev pub when : Bool → Plan → Option Plan
when b p = cond b (some p) none

-- g names no column of e
abbrev pub avoids : Tables → Plan → Plan → Bool
avoids T g e = all (λ x. not (member x (columns T e))) (free T g)

-- the test names only columns of f
abbrev pub local : Tables → Test → Plan → Bool
local T t f = all (λ x. member x (columns T f)) (names t)

abbrev pub outside : Env
outside x = 0

-- the values of e are, in sequence, the Distinct right keys of h
abbrev pub sequenced : Tables → Plan → ℕ → Plan → Bool
sequenced T e r h = same_rows (eval T e outside) (eval T (one (distinct (r ∷ [])) h) outside)

-- a test that stands for it: the rules are written over it, so that a stay note can ask what would fit if it held
abbrev pub Sequence : Type 0
Sequence = Plan → ℕ → Plan → Bool

-- ---- U1 and, with the mark, U2, by the top of f without its Project
abbrev pub to_semi : Tables → Bool → Test → Plan → Plan → Link → Option Plan
to_semi T m t e g unlinked = none
to_semi T m t e g (link a b c) = when (is_equal c && avoids T g e) (two (semi m a b (turned m t)) e g)

abbrev pub u1 : Tables → Bool → Test → Plan → {p : Plan} → Top p → Option Plan
u1 T m t e (selected s g) = to_semi T m t e g (link_of (columns T e) (columns T g) s)
u1 T m t e (other p) = none

-- ---- U5, by the same
abbrev pub to_pair : Tables → Aggregate → ℕ → Test → Plan → Plan → Link → Option Plan
to_pair T a n t e g unlinked = none
to_pair T a n t e g (link l r c) = when (avoids T g e) (two (pair a n l r c t) e g)

abbrev pub u5 : Tables → Aggregate → ℕ → Test → Plan → {p : Plan} → Top p → Option Plan
u5 T a n t e (selected s g) = to_pair T a n t e g (link_of (columns T e) (columns T g) s)
u5 T a n t e (other p) = none

-- ---- U3 and, with the mark, U4
-- the plan after: c the new id, the key l of e and r of h
abbrev pub counted : Bool → ℕ → ℕ → ℕ → Test → Plan → Plan
counted m c l r t h = one (project (l ∷ [])) (one (select (test false (number_of (cond m eq gt) c origin))) (one (group count c l r eq t) h))

abbrev pub bare : {f : Plan} → Top f → Plan
bare (selected s g) = g
bare (other f) = f

abbrev pub removed : {f : Plan} → Top f → Test
removed (selected s g) = s
removed (other f) = plain

abbrev pub u3_conditions : Tables → Sequence → ℕ → ℕ → ℕ → Plan → Plan → Plan → List Bool
u3_conditions T S k l r e f h = eqb k l ∷ closed T e ∷ closed T f ∷ S e r h ∷ []

abbrev pub u3 : Tables → Sequence → Option ℕ → Bool → ℕ → ℕ → {e : Plan} → Only e → {f : Plan} → Top f → Option Plan
u3 T S none m l r o v = none
u3 T S (some c) m l r (another e) v = none
u3 T S (some c) m l r (only k p) {f} v = when (every (u3_conditions T S k l r (one (distinct (k ∷ [])) p) f (bare v))) (counted m c l r (removed v) (bare v))

-- ---- U6
abbrev pub u6_conditions : Tables → Sequence → ℕ → ℕ → ℕ → Test → Plan → Plan → List Bool
u6_conditions T S k l r t e f = eqb k l ∷ closed T e ∷ closed T f ∷ local T t f ∷ S e r f ∷ []

abbrev pub u6 : Tables → Sequence → Aggregate → ℕ → ℕ → ℕ → Comparison → Test → {e : Plan} → Only e → Plan → Option Plan
u6 T S a n l r c t (another e) f = none
u6 T S a n l r c t (only k p) f = when (every (u6_conditions T S k l r t (one (distinct (k ∷ [])) p) f)) (one (group a n l r c t) f)

-- ---- U7
abbrev pub u7 : Tables → Bool → ℕ → ℕ → Test → Plan → Plan → Option Plan
u7 T m l r t e f = when (local T t f) (two (semi m l r plain) e (one (select t) f))

-- ---- U8
abbrev pub u8 : Tables → Plan → Plan → Option Plan
u8 T e f = when (closed T f && not (is_empty (eval T f outside))) (two cross e f)

-- the rule that can fit at the root, by its number; 0: none
unfoldable pub rule_of : Plan → ℕ
rule_of (leaf x) = 0
rule_of (one u p) = 0
rule_of (two cross e f) = 0
rule_of (two (semi m l r t) e f) = cond (is_plain t) (cond m 4 3) 7
rule_of (two (quant m t) e f) = cond m 2 1
rule_of (two (fold a n t) e f) = 5
rule_of (two each e f) = 8
rule_of (two (pair a n l r c t) e f) = 6

-- what that rule makes of the plan, c the smallest id introduced nowhere
unfoldable pub unnest : Tables → Sequence → Option ℕ → Plan → Option Plan
unnest T S c (leaf x) = none
unnest T S c (one u p) = none
unnest T S c (two cross e f) = none
unnest T S c (two (semi m l r t) e f) = cond (is_plain t) (u3 T S c m l r (only_of e) (top f)) (u7 T m l r t e f)
unnest T S c (two (quant m t) e f) = u1 T m t e (top (unprojected f))
unnest T S c (two (fold a n t) e f) = u5 T a n t e (top (unprojected f))
unnest T S c (two each e f) = u8 T e f
unnest T S c (two (pair a n l r k t) e f) = u6 T S a n l r k t (only_of e) f

unfoldable pub rule : Tables → Sequence → Option ℕ → ℕ → Plan → Option Plan
rule T S c u p = cond (eqb u (rule_of p)) (unnest T S c p) none

-- the rule that can fit at a place, by its number; 0: none
abbrev pub number_at : Plan → ℕ → ℕ
number_at p i = look rule_of 0 p i

-- the first of n ids from k that the list lacks
abbrev pub lacking : ℕ → ℕ → List ℕ → Option ℕ
lacking zero k ids = none
lacking (suc n) k ids = cond (member k ids) (lacking n (suc k) ids) (some k)

abbrev pub fresh : Tables → Plan → Option ℕ
fresh T p = lacking 256 0 (introduced T p)
