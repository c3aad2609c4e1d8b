-- In an accepted plan every name reads as the definition says: a left key is the left row's, a right key, an aggregate's column and a list's
-- are their own child's, and Group compares its value with each row's right key. The definitions of `Plans` read all of them in one
-- environment; here that is shown to give the same rows as `read_eval`, which reads each of its own row. Assumes nothing.
use Prim.Native.Nat.{ℕ}
use mathlib.Core.Bool.{Bool, true, false, not, cond, ◌&&◌, ◌||◌, true≢false, false≢true, and-eq-true_iff}
use mathlib.Core.Path.{◌≡◌, refl, ap, ap₂, sym, ◌∙◌, fun_ext, subst}
use mathlib.Core.List.{List, [], ◌∷◌, ◌++◌, map}
use lib.Dec.{eqb}
use borrow.Author.Tests.{eqb-true, eq-eqb, not-true}
use Rattle.algebra.specs.Lists.{flip, filter, any, flat_map, member, unique, within, firsts}
use Rattle.algebra.specs.Cells.{Comparison, eq, Aggregate, blank, compares, aggregate}
use Rattle.algebra.specs.Plans.{Row, Env, Tables, Test, names, holds, Unary, select, project, distinct, group, sort, Binary, cross, semi, quant, fold, each, pair, Plan, leaf, one, two, nested, unary_columns, binary_columns, columns, bind, measure, gather, gather_within, matched, emit, emit_within, cut, arranged, act, act_within, around, joined_within, leaf_rows, eval, eval_within}
use Rattle.algebra.specs.Names.{measured, unary_new, binary_new, introduced}
use Rattle.algebra.specs.Refusals.{unary_in_view, binary_in_view, inner_scope, in_view, refusal}
use Rattle.algebra.specs.Rules.{outside}
use Rattle.algebra.proofs.Lists.{every_true, all-member, unique-left, unique-right}
use Rattle.algebra.proofs.Refusals.{refusal-once, refusal_in_view, once-unique, in_view_one, in_view_two}
use Rattle.algebra.proofs.Free.{Agree, more, map-agree, bind-same, bind-outside, holds_agree, measure-agree}
use Rattle.algebra.proofs.Sound.{local-agree, Singles, empty, single, singles_cut, singles_firsts}

-- ---- the rows, each name read of its own row
-- the cells of a row of these columns, and of nothing else
abbrev pub cell : List ℕ → Row → Env
cell cs r = bind cs r outside

-- the aggregate over the rows that pass, of their own cells
abbrev pub read_gather : Aggregate → List ℕ → (Row → Bool) → List Row → ℕ
read_gather g ds p rs = aggregate g (map (λ r. measure g (cell ds r)) (filter p rs))

-- keys and test of a left and a right row
abbrev pub read_matched : ℕ → ℕ → Comparison → Test → List ℕ → List ℕ → Row → Env → Row → Bool
read_matched a b c t cs ds l env r = compares c (cell cs l a) (cell ds r b) && holds t (bind ds r (bind cs l env))

abbrev pub read_emit : Binary → List ℕ → List ℕ → Row → Env → List Row → List Row
read_emit cross cs ds l env rs = emit cross ds l (bind cs l env) rs
read_emit (semi m a b t) cs ds l env rs = cond (flip m (any (read_matched a b eq t cs ds l env) rs)) (l ∷ []) []
read_emit (quant m t) cs ds l env rs = emit (quant m t) ds l (bind cs l env) rs
read_emit (fold g n t) cs ds l env rs = (l ++ (read_gather g ds (λ r. holds t (bind ds r (bind cs l env))) rs ∷ [])) ∷ []
read_emit each cs ds l env rs = emit each ds l (bind cs l env) rs
read_emit (pair g n a b c t) cs ds l env rs = (l ++ (read_gather g ds (read_matched a b c t cs ds l env) rs ∷ [])) ∷ []

-- a value of Group, with the aggregate over the rows that pass and whose right key compares so with it
abbrev pub read_group : Aggregate → ℕ → Comparison → Test → List ℕ → Env → List Row → ℕ → Row
read_group g r c t cs env rs x = x ∷ read_gather g cs (λ q. compares c x (cell cs q r) && holds t (bind cs q env)) rs ∷ []

-- the cells of rows, one after another
abbrev pub cells : List Row → List ℕ
cells rs = flat_map (λ r. r) rs

abbrev pub read_act : Unary → List ℕ → Env → List Row → List Row
read_act (select t) cs env rs = filter (λ r. holds t (bind cs r env)) rs
read_act (project ids) cs env rs = map (λ r. map (cell cs r) ids) rs
read_act (distinct ids) cs env rs = firsts (map (λ r. map (cell cs r) ids) rs)
read_act (group g n l r c t) cs env rs = map (read_group g r c t cs env rs) (cells (firsts (map (λ q. cell cs q r ∷ []) rs)))
read_act (sort d ids) cs env rs = arranged d (λ r. map (cell cs r) ids) rs

unfoldable pub read_eval : Tables → Plan → Env → List Row
read_eval T (leaf x) env = leaf_rows T x
read_eval T (one u p) env = read_act u (columns T p) env (read_eval T p env)
read_eval T (two b e f) env =
    flat_map (λ l. read_emit b (columns T e) (columns T f) l env (read_eval T f (around (nested b) env (bind (columns T e) l env)))) (read_eval T e env)

-- ---- membership
abbrev pub In : ℕ → List ℕ → Type 0
In x xs = member x xs ≡ true

pub in_left_lem : (x : ℕ) (xs ys : List ℕ) → In x xs → In x (xs ++ ys)
in_left_lem x [] ys h = absurd (false≢true h)
in_left_lem x (y ∷ xs) ys h =
    (elim (eqb x y) as (λ b. (b || member x xs) ≡ true → (b || member x (xs ++ ys)) ≡ true) [ true ↦ λ k. refl | false ↦ λ k. in_left_lem x xs ys k ]) h

pub in_right_lem : (x : ℕ) (xs ys : List ℕ) → In x ys → In x (xs ++ ys)
in_right_lem x [] ys h = h
in_right_lem x (y ∷ xs) ys h = elim (eqb x y) as (λ b. (b || member x (xs ++ ys)) ≡ true) [ true ↦ refl | false ↦ in_right_lem x xs ys h ]

-- from a membership in two lists joined
pub in_cases : {P : Type 0} (x : ℕ) (xs ys : List ℕ) → (In x xs → P) → (In x ys → P) → In x (xs ++ ys) → P
in_cases x [] ys f g h = g h
in_cases {P} x (y ∷ xs) ys f g h =
    (elim (eqb x y) as (λ b. ((b || member x xs) ≡ true → P) → (b || member x (xs ++ ys)) ≡ true → P) [ true ↦ λ k l. k refl | false ↦ λ k l. in_cases x xs ys k g l ]) f h

pub in_within : (x : ℕ) (xs ys : List ℕ) → within xs ys ≡ true → In x xs → In x ys
in_within x xs ys h k = all-member (λ z. member z ys) xs h x k

apart : (x : ℕ) (xs ys : List ℕ) → unique (xs ++ ys) ≡ true → In x xs → member x ys ≡ false
apart x [] ys u h = absurd (false≢true h)
apart x (y ∷ xs) ys u h =
    let (k, v) = (and-eq-true_iff (not (member y (xs ++ ys))) (unique (xs ++ ys))).0 u in
    (elim (eqb x y) as (λ b. eqb x y ≡ b → (b || member x xs) ≡ true → member x ys ≡ false) [
      | true ↦ λ e l. go (member x ys) refl (rw (eqb-true x y e) (not-true (member y (xs ++ ys)) k))
      | false ↦ λ e l. apart x xs ys v l
    ]) refl h
  where
    go : (b : Bool) → member x ys ≡ b → member x (xs ++ ys) ≡ false → b ≡ false
    go true e n = absurd (true≢false (sym (in_right_lem x xs ys e) ∙ n))
    go false e n = refl

unary_introduced : (scope : List ℕ) (u : Unary) (cs is : List ℕ) → unary_in_view scope u cs ≡ true → (x : ℕ) → (In x cs → In x is) → In x (unary_columns u cs) → In x (unary_new u ++ is)
unary_introduced scope (select t) cs is h x f k = f k
unary_introduced scope (project ids) cs is h x f k = f (in_within x ids cs ((and-eq-true_iff (unique ids) (within ids cs)).0 h).1 k)
unary_introduced scope (distinct ids) cs is h x f k = f (in_within x ids cs ((and-eq-true_iff (unique ids) (within ids cs)).0 h).1 k)
unary_introduced scope (group a n l r c t) cs is h x f k = in_left_lem x (l ∷ n ∷ []) is k
unary_introduced scope (sort d ids) cs is h x f k = f k

binary_introduced : (b : Binary) (cs ds is js : List ℕ) (x : ℕ) → (In x cs → In x is) → (In x ds → In x js) → In x (binary_columns b cs ds) → In x (binary_new b ++ (is ++ js))
binary_introduced cross cs ds is js x f g k = in_cases x cs ds (λ l. in_left_lem x is js (f l)) (λ l. in_right_lem x is js (g l)) k
binary_introduced (semi m l r t) cs ds is js x f g k = in_left_lem x is js (f k)
binary_introduced (quant m t) cs ds is js x f g k = in_left_lem x is js (f k)
binary_introduced (fold a n t) cs ds is js x f g k = in_cases x cs (n ∷ []) (λ l. in_right_lem x (n ∷ []) (is ++ js) (in_left_lem x is js (f l))) (λ l. in_left_lem x (n ∷ []) (is ++ js) l) k
binary_introduced each cs ds is js x f g k = in_cases x cs ds (λ l. in_left_lem x is js (f l)) (λ l. in_right_lem x is js (g l)) k
binary_introduced (pair a n l r c t) cs ds is js x f g k = in_cases x cs (n ∷ []) (λ l. in_right_lem x (n ∷ []) (is ++ js) (in_left_lem x is js (f l))) (λ l. in_left_lem x (n ∷ []) (is ++ js) l) k

module _ (T : Tables) where
  -- the columns of a node are introduced in its tree
  columns-introduced : (scope : List ℕ) (p : Plan) → in_view T scope p ≡ true → (x : ℕ) → In x (columns T p) → In x (introduced T p)
  unfolding columns introduced
  columns-introduced scope (leaf y) h x k = k
  columns-introduced scope (one u p) h x k =
      let (v, w) = in_view_one T scope u p h in
      unary_introduced scope u (columns T p) (introduced T p) v x (columns-introduced scope p w x) k
  columns-introduced scope (two b e f) h x k =
      let inner : List ℕ = inner_scope (nested b) (columns T e) scope in
      let (_, v, w) = in_view_two T scope b e f h in
      binary_introduced b (columns T e) (columns T f) (introduced T e) (introduced T f) x (columns-introduced scope e v x) (columns-introduced inner f w x) k

  -- so an id that is not introduced there is none of them
  pub not-column : (scope : List ℕ) (p : Plan) → in_view T scope p ≡ true → (x : ℕ) → member x (introduced T p) ≡ false → member x (columns T p) ≡ false
  not-column scope p h x n =
      (elim (member x (columns T p)) as (λ z. member x (columns T p) ≡ z → z ≡ false) [
        | true ↦ λ z. absurd (true≢false (sym (columns-introduced scope p h x z) ∙ n))
        | false ↦ λ z. refl
      ]) refl

  -- the two children of a node share no column
  pub children-apart : (scope : List ℕ) (b : Binary) (e f : Plan) → in_view T scope (two b e f) ≡ true → unique (introduced T (two b e f)) ≡ true
      → (x : ℕ) → In x (columns T e) → member x (columns T f) ≡ false
  unfolding introduced
  children-apart scope b e f h u x k =
      let inner : List ℕ = inner_scope (nested b) (columns T e) scope in
      let (_, v, w) = in_view_two T scope b e f h in
      not-column inner f w x (apart x (introduced T e) (introduced T f) (unique-right (binary_new b) (introduced T e ++ introduced T f) u) (columns-introduced scope e v x k))

-- ---- a name reads of its own row
-- a column of the row is not read from outside of it
own : (x : ℕ) (cs : List ℕ) (r : Row) (f g : Env) → In x cs → bind cs r f x ≡ bind cs r g x
own x cs r f g h = bind-same cs r f g x (λ n. absurd (true≢false (sym h ∙ n)))

-- the keys, each of its own row
pub keys-read : (c : Comparison) (a b : ℕ) (cs ds : List ℕ) → In a cs → In b ds → member a ds ≡ false → (l r : Row) (env : Env)
    → compares c (bind ds r (bind cs l env) a) (bind ds r (bind cs l env) b) ≡ compares c (cell cs l a) (cell ds r b)
keys-read c a b cs ds h k n l r env =
    ap₂ (compares c) (bind-outside ds r (bind cs l env) a n ∙ own a cs l env outside h) (own b ds r (bind cs l env) outside k)

matched-reads : (a b : ℕ) (c : Comparison) (t : Test) (cs ds : List ℕ) → In a cs → In b ds → member a ds ≡ false → (l : Row) (env : Env) (r : Row)
    → matched a b c t (bind ds r (bind cs l env)) ≡ read_matched a b c t cs ds l env r
matched-reads a b c t cs ds h k n l env r = ap (λ (z : Bool). z && holds t (bind ds r (bind cs l env))) (keys-read c a b cs ds h k n l r env)

gather-reads : (g : Aggregate) (p : Env → Bool) (ds : List ℕ) (env : Env) (q : Row → Bool) → within (measured g) ds ≡ true → ((r : Row) → p (bind ds r env) ≡ q r)
    → (rs : List Row) → gather g p ds env rs ≡ read_gather g ds q rs
unfolding gather_within
gather-reads g p ds env q h k rs =
    ap₂ (λ (m : Row → ℕ) (s : Row → Bool). aggregate g (map m (filter s rs))) (fun_ext (λ r. measure-agree g (local-agree (measured g) ds r env outside h))) (fun_ext k)

emit-reads : (scope : List ℕ) (b : Binary) (cs ds : List ℕ) → binary_in_view scope b cs ds ≡ true → ((x : ℕ) → In x cs → member x ds ≡ false)
    → (l : Row) (env : Env) (rs : List Row) → emit b ds l (bind cs l env) rs ≡ read_emit b cs ds l env rs
unfolding emit_within
emit-reads scope cross cs ds h n l env rs = refl
emit-reads scope (semi m a b t) cs ds h n l env rs =
    let (u, (v, _)) = every_true (member a cs ∷ member b ds ∷ within (names t) (cs ++ (ds ++ scope)) ∷ []) h in
    ap (λ (p : Row → Bool). cond (flip m (any p rs)) (l ∷ []) []) (fun_ext (matched-reads a b eq t cs ds u v (n a u) l env))
emit-reads scope (quant m t) cs ds h n l env rs = refl
emit-reads scope (fold g k t) cs ds h n l env rs =
    let (u, _) = every_true (within (measured g) ds ∷ within (names t) (cs ++ (ds ++ scope)) ∷ []) h in
    ap (λ (x : ℕ). (l ++ (x ∷ [])) ∷ []) (gather-reads g (holds t) ds (bind cs l env) (λ r. holds t (bind ds r (bind cs l env))) u (λ r. refl) rs)
emit-reads scope each cs ds h n l env rs = refl
emit-reads scope (pair g k a b c t) cs ds h n l env rs =
    let (u, (v, (w, _))) = every_true (member a cs ∷ member b ds ∷ within (measured g) ds ∷ within (names t) (cs ++ (ds ++ scope)) ∷ []) h in
    ap (λ (x : ℕ). (l ++ (x ∷ [])) ∷ []) (gather-reads g (matched a b c t) ds (bind cs l env) (read_matched a b c t cs ds l env) w (matched-reads a b c t cs ds u v (n a u) l env) rs)

cut-reads : (ids cs : List ℕ) (env : Env) → within ids cs ≡ true → cut ids cs env ≡ (λ r. map (cell cs r) ids)
cut-reads ids cs env h = fun_ext (λ r. map-agree (local-agree ids cs r env outside h))

-- ---- Group
-- names in view, from outside of the left key's rows, do not name the left key
past-key : (l : ℕ) (xs cs scope : List ℕ) → within xs (cs ++ scope) ≡ true → member l scope ≡ false → (v q : Row) (env : Env)
    → Agree (bind cs q (bind (l ∷ []) v env)) (bind cs q env) xs
past-key l [] cs scope h n v q env = Agree.none
past-key l (x ∷ xs) cs scope h n v q env =
    let (u, w) = (and-eq-true_iff (member x (cs ++ scope)) (within xs (cs ++ scope))).0 h in
    more (bind-same cs q (bind (l ∷ []) v env) env x (λ k. bind-outside (l ∷ []) v env x (other u k))) (past-key l xs cs scope w n v q env)
  where
    other : In x (cs ++ scope) → member x cs ≡ false → member x (l ∷ []) ≡ false
    other u k =
        (elim (eqb x l) as (λ z. eqb x l ≡ z → (z || false) ≡ false) [
          | true ↦ λ e. absurd (in_cases x cs scope (λ i. true≢false (sym i ∙ k)) (λ i. true≢false (sym i ∙ subst (λ z. member z scope ≡ false) (sym (eqb-true x l e)) n)) u)
          | false ↦ λ e. refl
        ]) refl

pub group_reads : (scope : List ℕ) (a : Aggregate) (n l r : ℕ) (c : Comparison) (t : Test) (cs : List ℕ) → unary_in_view scope (group a n l r c t) cs ≡ true
    → member l cs ≡ false → member l scope ≡ false → (x : ℕ) (env : Env) (rs : List Row)
    → emit (pair a n l r c t) cs (x ∷ []) (bind (l ∷ []) (x ∷ []) env) rs ≡ read_group a r c t cs env rs x ∷ []
unfolding emit_within
group_reads scope a n l r c t cs h k m x env rs =
    let (u, (v, (w, _))) = every_true (member r cs ∷ within (measured a) cs ∷ within (names t) (cs ++ scope) ∷ []) h in
    ap (λ (z : ℕ). (x ∷ z ∷ []) ∷ [])
    (gather-reads a (matched l r c t) cs (bind (l ∷ []) (x ∷ []) env) (λ q. compares c x (cell cs q r) && holds t (bind cs q env)) v
    (λ q. ap₂ ◌&&◌
    (keys-read c l r (l ∷ []) cs (rw (eq-eqb l l refl)) u k (x ∷ []) q env ∙ ap (λ (z : Bool). compares c (cond z x blank) (cell cs q r)) (eq-eqb l l refl))
    (holds_agree t (past-key l (names t) cs scope w m (x ∷ []) q env))) rs)

-- rows of one cell each, and what is made of each of them
singles_map : (k : Row → List Row) (f : ℕ → Row) → ((x : ℕ) → k (x ∷ []) ≡ f x ∷ []) → {rs : List Row} → Singles rs → flat_map k rs ≡ map f (cells rs)
singles_map k f h empty = refl
singles_map k f h (single {x = x} {rs = rs} s) = ap₂ ◌++◌ (h x) (singles_map k f h s)

act-reads : (scope : List ℕ) (u : Unary) (cs : List ℕ) → unary_in_view scope u cs ≡ true → ((x : ℕ) → In x (unary_new u) → (member x cs ≡ false) × (member x scope ≡ false))
    → (env : Env) (rs : List Row) → act u cs env rs ≡ read_act u cs env rs
unfolding act_within
act-reads scope (select t) cs h n env rs = refl
act-reads scope (project ids) cs h n env rs = ap (λ (k : Row → Row). map k rs) (cut-reads ids cs env ((and-eq-true_iff (unique ids) (within ids cs)).0 h).1)
act-reads scope (distinct ids) cs h n env rs = ap (λ (k : Row → Row). firsts (map k rs)) (cut-reads ids cs env ((and-eq-true_iff (unique ids) (within ids cs)).0 h).1)
act-reads scope (group a m l r c t) cs h n env rs =
    let (u, _) = every_true (member r cs ∷ within (measured a) cs ∷ within (names t) (cs ++ scope) ∷ []) h in
    let (p, q) = n l (rw (eq-eqb l l refl)) in
    singles_map (λ v. emit (pair a m l r c t) cs v (bind (l ∷ []) v env) rs) (read_group a r c t cs env rs) (λ x. group_reads scope a m l r c t cs h p q x env rs)
    (singles_firsts (singles_cut r cs env rs))
    ∙ ap (λ (k : Row → Row). map (read_group a r c t cs env rs) (cells (firsts (map k rs)))) (cut-reads (r ∷ []) cs env (rw u))
act-reads scope (sort d ids) cs h n env rs =
    ap (λ (k : Row → Row). arranged d k rs) (cut-reads ids cs env ((and-eq-true_iff (unique ids) (within ids cs)).0 h).1)

-- ---- the whole plan
-- no id stands in both
abbrev pub Apart : List ℕ → List ℕ → Type 0
Apart xs ys = (x : ℕ) → In x xs → member x ys ≡ false

-- what is missing in two lists joined is missing in each
pub not_left : (x : ℕ) (xs ys : List ℕ) → member x (xs ++ ys) ≡ false → member x xs ≡ false
not_left x xs ys h = (elim (member x xs) as (λ z. member x xs ≡ z → z ≡ false) [ true ↦ λ e. absurd (true≢false (sym (in_left_lem x xs ys e) ∙ h)) | false ↦ λ e. refl ]) refl

pub not_right : (x : ℕ) (xs ys : List ℕ) → member x (xs ++ ys) ≡ false → member x ys ≡ false
not_right x xs ys h = (elim (member x ys) as (λ z. member x ys ≡ z → z ≡ false) [ true ↦ λ e. absurd (true≢false (sym (in_right_lem x xs ys e) ∙ h)) | false ↦ λ e. refl ]) refl

module _ (T : Tables) where
  new_ids : (scope : List ℕ) (u : Unary) (p : Plan) → in_view T scope p ≡ true → unique (unary_new u ++ introduced T p) ≡ true → Apart scope (unary_new u ++ introduced T p)
      → (x : ℕ) → In x (unary_new u) → (member x (columns T p) ≡ false) × (member x scope ≡ false)
  new_ids scope u p h g s x k = (
    not-column T scope p h x (apart x (unary_new u) (introduced T p) g k),
    (elim (member x scope) as (λ z. member x scope ≡ z → z ≡ false) [
      | true ↦ λ e. absurd (true≢false (sym (in_left_lem x (unary_new u) (introduced T p) k) ∙ s x e))
      | false ↦ λ e. refl
    ]) refl,
  )

  pub inner_apart : (scope : List ℕ) (b : Bool) (e : Plan) (js : List ℕ) → in_view T scope e ≡ true → unique (introduced T e ++ js) ≡ true → Apart scope js
      → Apart (inner_scope b (columns T e) scope) js
  inner_apart scope true e js h g s x k = in_cases x (columns T e) scope (λ i. apart x (introduced T e) js g (columns-introduced T scope e h x i)) (s x) k
  inner_apart scope false e js h g s x k = s x k

  reads : (scope : List ℕ) (p : Plan) → in_view T scope p ≡ true → unique (introduced T p) ≡ true → Apart scope (introduced T p) → (env : Env) → eval T p env ≡ read_eval T p env
  unfolding eval_within joined_within read_eval introduced
  reads scope (leaf x) h g s env = refl
  reads scope (one u p) h g s env =
      let (k, w) = in_view_one T scope u p h in
      act-reads scope u (columns T p) k (new_ids scope u p w g s) env (eval T p env)
      ∙ ap (read_act u (columns T p) env) (reads scope p w (unique-right (unary_new u) (introduced T p) g) (λ x i. not_right x (unary_new u) (introduced T p) (s x i)) env)
  reads scope (two b e f) h g s env =
      let (k, v, w) = in_view_two T scope b e f h in
      let ids = unique-right (binary_new b) (introduced T e ++ introduced T f) g in
      let below : Apart scope (introduced T e ++ introduced T f) = λ x i. not_right x (binary_new b) (introduced T e ++ introduced T f) (s x i) in
      let inner : Apart (inner_scope (nested b) (columns T e) scope) (introduced T f) =
      inner_apart scope (nested b) e (introduced T f) v ids (λ x i. not_right x (introduced T e) (introduced T f) (below x i)) in
      ap₂ (λ (m : Row → List Row) (ls : List Row). flat_map m ls)
      (fun_ext (λ l.
      emit-reads scope b (columns T e) (columns T f) k (children-apart T scope b e f h g) l env (eval T f (around (nested b) env (bind (columns T e) l env)))
      ∙ ap (read_emit b (columns T e) (columns T f) l env)
      (reads (inner_scope (nested b) (columns T e) scope) f w (unique-right (introduced T e) (introduced T f) ids) inner (around (nested b) env (bind (columns T e) l env)))))
      (reads scope e v (unique-left (introduced T e) (introduced T f) ids) (λ x i. not_left x (introduced T e) (introduced T f) (below x i)) env)

  -- the rows of an accepted plan are those that this reading of each name gives
  pub accepted-reads : (p : Plan) → refusal T p ≡ 0 → (env : Env) → eval T p env ≡ read_eval T p env
  accepted-reads p h = reads [] p (refusal_in_view T p h) (once-unique (introduced T p) (refusal-once T p h)) (λ x i. absurd (false≢true i))
