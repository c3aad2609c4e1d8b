-- What the soundness of the unnestings asks of the plans before and after them follows from the refusals. Assumes nothing.
use Prim.Native.Nat.{ℕ}
use mathlib.Core.Bool.{Bool, true, false, not, ◌||◌, or-true, false≢true, and-eq-true_iff}
use mathlib.Core.Path.{◌≡◌, refl, sym, ◌∙◌}
use mathlib.Core.List.{List, [], ◌∷◌, ◌++◌}
use lib.Dec.{eqb}
use Rattle.algebra.specs.Lists.{all, every, member, unique, within}
use Rattle.algebra.specs.Plans.{Tables, names, Unary, select, project, distinct, group, sort, Binary, cross, semi, quant, fold, each, pair, Plan, leaf, one, two, nested, columns}
use Rattle.algebra.specs.Places.{subtrees}
use Rattle.algebra.specs.Names.{measured, unary_new, binary_new, introduced}
use Rattle.algebra.specs.Refusals.{unary_in_view, binary_in_view, inner_scope, in_view, low, refusal}
use Rattle.algebra.proofs.Lists.{every_true, all_from, unique-left, unique-right}
use Rattle.algebra.proofs.Cells.{eqb-sym}
use Rattle.algebra.proofs.Refusals.{all-root, all_child, all_left, all_right, refusal-none, once-unique, in_view_one, in_view_two, low_rows}
use Rattle.algebra.proofs.Readings.{In, in_left_lem, in_right_lem, in_cases, in_within, Apart, not_left, not_right, not-column, inner_apart}
use Rattle.algebra.proofs.Between.{Under, listed, itself, under, Shown}
use Rattle.algebra.proofs.Sound.{UnaryFine, BinaryFine, Fine}

or-false : (a b : Bool) → not (a || b) ≡ true → a ≡ false
or-false true b h = sym h
or-false false b h = refl

module _ (T : Tables) where
  unary_fine : (scope : List ℕ) (u : Unary) (p : Plan) → unary_in_view scope u (columns T p) ≡ true → low T p ≡ true → unique (unary_new u ++ introduced T p) ≡ true → UnaryFine T u p
  unary_fine scope (select t) p h v g = tt
  unary_fine scope (project ids) p h v g = tt
  unary_fine scope (distinct ids) p h v g = tt
  unary_fine scope (group a n l r c t) p h v g = (
    eqb-sym n l ∙ or-false (eqb l n) (member l (introduced T p)) ((and-eq-true_iff (not (member l (n ∷ introduced T p))) (unique (n ∷ introduced T p))).0 g).0,
    ((and-eq-true_iff (member r (columns T p)) (every (within (measured a) (columns T p) ∷ within (names t) (columns T p ++ scope) ∷ []))).0 h).0,
    low_rows T p v,
  )
  unary_fine scope (sort d ids) p h v g = tt

  -- cs the columns of a node's first child e, scope those of the rows that the node is nested in: where its second child f is a Project, what
  -- it names are listed columns, or no columns of the Project's child, since they are introduced elsewhere
  shown_in_view : (cs scope inner xs : List ℕ) {f g : Plan} (u : Under f g) → in_view T inner f ≡ true → Apart (cs ++ scope) (introduced T f)
      → ((x : ℕ) → In x xs → In x (cs ++ (columns T f ++ scope))) → Shown T xs u
  unfolding columns introduced
  shown_in_view cs scope inner xs (itself f) v o k = tt
  shown_in_view cs scope inner xs (listed ids g) v o k =
      all_from _ xs (λ x i. in_cases x cs (ids ++ scope) (λ j. elsewhere x (o x (in_left_lem x cs scope j)))
      (in_cases x ids scope (λ j. rw j) (λ j. elsewhere x (o x (in_right_lem x cs scope j)))) (k x i))
    where
      elsewhere : (x : ℕ) → member x (introduced T g) ≡ false → (member x ids || not (member x (columns T g))) ≡ true
      elsewhere x n = rw (not-column T inner g (in_view_one T inner (project ids) g v).1 x n) (or-true (member x ids))

  binary_fine : (scope inner : List ℕ) (b : Binary) (e f : Plan) → binary_in_view scope b (columns T e) (columns T f) ≡ true → in_view T inner f ≡ true
      → Apart (columns T e ++ scope) (introduced T f) → BinaryFine T b f
  binary_fine scope inner cross e f h v o = tt
  binary_fine scope inner (semi m l r t) e f h v o = tt
  binary_fine scope inner (quant m t) e f h v o =
      shown_in_view (columns T e) scope inner (names t) (under f) v o (λ x. in_within x (names t) (columns T e ++ (columns T f ++ scope)) h)
  binary_fine scope inner (fold a n t) e f h v o =
      let seen : List ℕ = columns T e ++ (columns T f ++ scope) in
      let (k, (l, _)) = every_true (within (measured a) (columns T f) ∷ within (names t) seen ∷ []) h in
      shown_in_view (columns T e) scope inner (measured a ++ names t) (under f) v o (λ x. in_cases x (measured a) (names t)
      (λ i. in_right_lem x (columns T e) (columns T f ++ scope) (in_left_lem x (columns T f) scope (in_within x (measured a) (columns T f) k i)))
      (in_within x (names t) seen l))
  binary_fine scope inner each e f h v o = tt
  binary_fine scope inner (pair a n l r c t) e f h v o = tt

  fine : (scope : List ℕ) (p : Plan) → in_view T scope p ≡ true → unique (introduced T p) ≡ true → Apart scope (introduced T p) → all (low T) (subtrees p) ≡ true → Fine T p
  unfolding introduced
  fine scope (leaf x) h g s v = tt
  fine scope (one u p) h g s v =
      let (k, w) = in_view_one T scope u p h in
      let below = all_child (low T) u p v in
      let rest : Apart scope (introduced T p) = λ x i. not_right x (unary_new u) (introduced T p) (s x i) in
      (unary_fine scope u p k (all-root (low T) p below) g, fine scope p w (unique-right (unary_new u) (introduced T p) g) rest below)
  fine scope (two b e f) h g s v =
      let (k, l, w) = in_view_two T scope b e f h in
      let u = unique-right (binary_new b) (introduced T e ++ introduced T f) g in
      let below : Apart scope (introduced T e ++ introduced T f) = λ x i. not_right x (binary_new b) (introduced T e ++ introduced T f) (s x i) in
      let left : Apart scope (introduced T e) = λ x i. not_left x (introduced T e) (introduced T f) (below x i) in
      let right : Apart scope (introduced T f) = λ x i. not_right x (introduced T e) (introduced T f) (below x i) in
      let inner : List ℕ = inner_scope (nested b) (columns T e) scope in (
        binary_fine scope inner b e f k w (inner_apart T scope true e (introduced T f) l u right),
        fine scope e l (unique-left (introduced T e) (introduced T f) u) left (all_left (low T) b e f v),
        fine inner f w (unique-right (introduced T e) (introduced T f) u) (inner_apart T scope (nested b) e (introduced T f) l u right) (all_right (low T) b e f v),
      )

  pub refusal-fine : (p : Plan) → refusal T p ≡ 0 → Fine T p
  refusal-fine p h =
      let r = refusal-none T p h in
      fine [] p r.in_view_all (once-unique (introduced T p) r.introduced_once) (λ x i. absurd (false≢true i)) r.low_all
