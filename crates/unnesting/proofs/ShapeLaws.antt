-- A rule is its shape where rows do not stand against it, and what it makes can be written. Assumes nothing.
use Prim.Native.Nat.{ℕ, zero, suc, ◌+◌, ◌<◌}
use mathlib.Core.Bool.{Bool, true, false, not, cond, ◌&&◌, and-eq-true_iff}
use mathlib.Core.Path.{◌≡◌, refl, sym, ap, ◌∙◌}
use mathlib.Core.List.{List, [], ◌∷◌, ◌++◌}
use mathlib.Core.Option.{Option, none, some, none-ne-some, some-injective}
use native.Mathlib.Omega.{arith}
use lib.Dec.{eqb}
use borrow.Author.Tests.{eq-eqb, lt-ltb}
use Rattle.algebra.specs.Lists.{every, all, member, is_empty}
use Rattle.algebra.specs.Cells.{Comparison, eq, gt, Aggregate, count, origin}
use Rattle.algebra.specs.Plans.{Tables, always, columns_of, number_of, Test, test, plain, is_plain, turned, Unary, select, project, group, Binary, cross, semi, quant, fold, each, pair, Plan, leaf, one, two, columns, eval}
use Rattle.algebra.specs.Places.{flatten, modify}
use Rattle.algebra.specs.Names.{closed, introduced}
use Rattle.algebra.specs.Refusals.{byte, test_fields, aggregate_fields, unary_fields, binary_fields, fields}
use Rattle.algebra.specs.Rules.{Top, selected, other, top, unprojected, Only, only, another, only_of, Link, unlinked, link, link_by, link_of, is_equal, when, avoids, local, outside, sequenced, Sequence, to_semi, u1, to_pair, u5, bare, removed, u3_conditions, u3, u6_conditions, u6, u7, rule_of, unnest, rule, lacking, fresh}
use Rattle.algebra.specs.StayNotes.{comparing, unsequenced, stays}
use Rattle.algebra.proofs.Lists.{all_append, every_true}
use Rattle.algebra.proofs.Places.{Splice, modify_splice}
use Rattle.algebra.proofs.Change.{OnSome, on-when, on_some}
use Rattle.algebra.proofs.Between.{Under, listed, itself, under}
use Rattle.reading.proofs.Places.{all-joined}
use Rattle.unnesting.specs.Shapes.{any_sequence, shape, ready}

-- ---- a rule is its shape where rows do not stand against it

pub same_none : (b : Bool) → ◌≡◌ {A = Option Plan} none (cond b none none)
same_none true = refl
same_none false = refl

-- the last condition taken out
last_out : (bs : List Bool) (s : Bool) (p : Plan) → when (every (bs ++ (s ∷ []))) p ≡ cond s (when (every (bs ++ (true ∷ []))) p) none
last_out [] true p = refl
last_out [] false p = refl
last_out (true ∷ bs) s p = last_out bs s p
last_out (false ∷ bs) s p = same_none s

module _ (T : Tables) (S : Sequence) where
  u3-any : (c : Option ℕ) (m : Bool) (l r : ℕ) {e : Plan} (o : Only e) {f : Plan} (v : Top f)
      → u3 T S c m l r o v ≡ cond (S e r (bare v)) (u3 T any_sequence c m l r o v) none
  u3-any none m l r {e} o v = same_none (S e r (bare v))
  u3-any (some c) m l r {e} (another _) v = same_none (S e r (bare v))
  u3-any (some c) m l r {e} (only k p) {f} v = last_out (eqb k l ∷ closed T e ∷ closed T f ∷ []) (S e r (bare v)) _

  u6-any : (a : Aggregate) (n l r : ℕ) (k : Comparison) (t : Test) {e : Plan} (o : Only e) (f : Plan)
      → u6 T S a n l r k t o f ≡ cond (S e r f) (u6 T any_sequence a n l r k t o f) none
  u6-any a n l r k t {e} (another _) f = same_none (S e r f)
  u6-any a n l r k t {e} (only j p) f = last_out (eqb j l ∷ closed T e ∷ closed T f ∷ local T t f ∷ []) (S e r f) _

and-out : (a b : Bool) (p : Plan) → when (a && b) p ≡ cond b (when a p) none
and-out true true p = refl
and-out true false p = refl
and-out false b p = same_none b

cond-not : (b : Bool) (o : Option Plan) → cond (not b) o none ≡ cond b none o
cond-not true o = refl
cond-not false o = refl

module _ (T : Tables) (c : Option ℕ) where
  pub unnest-shape : (p : Plan) → unnest T (sequenced T) c p ≡ cond (ready T p) (shape T c p) none
  unfolding unnest ready shape
  unnest-shape (leaf x) = refl
  unnest-shape (one u p) = refl
  unnest-shape (two cross e f) = refl
  unnest-shape (two (semi m l r t) e f) =
      elim (is_plain t) as
      (λ b. cond b (u3 T (sequenced T) c m l r (only_of e) (top f)) (u7 T m l r t e f)
      ≡ cond (cond b (sequenced T e r (bare (top f))) true) (cond b (u3 T any_sequence c m l r (only_of e) (top f)) (u7 T m l r t e f)) none) [
        | true ↦ u3-any T (sequenced T) c m l r (only_of e) (top f)
        | false ↦ refl
      ]
  unnest-shape (two (quant m t) e f) = refl
  unnest-shape (two (fold a n t) e f) = refl
  unnest-shape (two each e f) = and-out (closed T f) (not (is_empty (eval T f outside))) (two cross e f)
  unnest-shape (two (pair a n l r k t) e f) = u6-any T (sequenced T) a n l r k t (only_of e) f

  -- a rule that stays: rows alone stand against it
  pub stays-shape : (p : Plan) → stays T c p ≡ cond (comparing (rule_of p)) (cond (ready T p) none (shape T c p)) none
  unfolding stays unnest rule_of ready shape
  stays-shape (leaf x) = refl
  stays-shape (one u p) = refl
  stays-shape (two cross e f) = refl
  stays-shape (two (semi m l r t) e f) =
      let s = sequenced T e r (bare (top f)) in
      elim (is_plain t) as
      (λ b. cond (comparing (cond b (cond m 4 3) 7)) (cond b (u3 T (unsequenced T) c m l r (only_of e) (top f)) (u7 T m l r t e f)) none
      ≡ cond (comparing (cond b (cond m 4 3) 7)) (cond (cond b s true) none (cond b (u3 T any_sequence c m l r (only_of e) (top f)) (u7 T m l r t e f))) none) [
        | true ↦ ap (λ (o : Option Plan). cond (comparing (cond m 4 3)) o none) (u3-any T (unsequenced T) c m l r (only_of e) (top f) ∙ cond-not s _)
        | false ↦ refl
      ]
  stays-shape (two (quant true t) e f) = refl
  stays-shape (two (quant false t) e f) = refl
  stays-shape (two (fold a n t) e f) = refl
  stays-shape (two each e f) = refl
  stays-shape (two (pair a n l r k t) e f) = u6-any T (unsequenced T) a n l r k t (only_of e) f ∙ cond-not (sequenced T e r f) _

-- the rule by its own number
pub rule-number : (T : Tables) (S : Sequence) (c : Option ℕ) (p : Plan) → rule T S c (rule_of p) p ≡ unnest T S c p
unfolding rule
rule-number T S c p = rw (eq-eqb (rule_of p) (rule_of p) refl)

-- ---- what a rule makes can be written

-- the fields of every node can be written
abbrev pub Written : Plan → Type 0
Written p = all fields (flatten p) ≡ true

written_one : (u : Unary) (p : Plan) → Written (one u p) → (unary_fields u ≡ true) × Written p
unfolding flatten fields
written_one u p h = (and-eq-true_iff (unary_fields u) (all fields (flatten p))).0 h

one_written : (u : Unary) (p : Plan) → unary_fields u ≡ true → Written p → Written (one u p)
unfolding flatten fields
one_written u p h g = (and-eq-true_iff (unary_fields u) (all fields (flatten p))).1 (h, g)

written-two : (b : Binary) (e f : Plan) → Written (two b e f) → (binary_fields b ≡ true) × Written e × Written f
unfolding flatten fields
written-two b e f h =
    let (k, l) = (and-eq-true_iff (binary_fields b) (all fields (flatten e ++ flatten f))).0 h in
    let (x, y) = all_append fields (flatten e) (flatten f) l in
    (k, x, y)

two-written : (b : Binary) (e f : Plan) → binary_fields b ≡ true → Written e → Written f → Written (two b e f)
unfolding flatten fields
two-written b e f h x y =
    (and-eq-true_iff (binary_fields b) (all fields (flatten e ++ flatten f))).1 (h, all-joined fields (flatten e) (flatten f) ∙ (and-eq-true_iff _ _).1 (x, y))

turned-fields : (m : Bool) (t : Test) → test_fields t ≡ true → test_fields (turned m t) ≡ true
turned-fields m (test n f) h = h

when-written : (b : Bool) (q : Plan) → Written q → OnSome Written (when b q)
when-written b q h = on-when Written b q (λ i. h)

under-written : {f g : Plan} → Under f g → Written f → Written g
under-written (listed ids g) y = (written_one (project ids) g y).1
under-written (itself f) y = y

-- the keys of a link are a test's columns
abbrev LinkFields : Link → Type 0
LinkFields unlinked = Unit {0}
LinkFields (link a b c) = (byte a ≡ true) × (byte b ≡ true)

link-by : (x y : Bool) (c : Comparison) (a b : ℕ) → byte a ≡ true → byte b ≡ true → LinkFields (link_by x y c a b)
link-by true y c a b h g = (h, g)
link-by false true c a b h g = (g, h)
link-by false false c a b h g = tt

link-fields : (cs ds : List ℕ) (t : Test) → test_fields t ≡ true → LinkFields (link_of cs ds t)
link-fields cs ds (test true f) h = tt
link-fields cs ds (test false always) h = tt
link-fields cs ds (test false (columns_of c a b)) h =
    let (x, y) = (and-eq-true_iff (byte a) (byte b)).0 h in
    link-by (member a cs && member b ds) (member b cs && member a ds) c a b x y
link-fields cs ds (test false (number_of c l w)) h = tt

module _ (T : Tables) where
  u1-written : (m : Bool) (t : Test) (e : Plan) {f : Plan} (v : Top f) → test_fields t ≡ true → Written e → Written f → OnSome Written (u1 T m t e v)
  u1-written m t e (other f) h x y = tt
  u1-written m t e (selected s g) h x y =
      let (k, z) = written_one (select s) g y in
      go z (link_of (columns T e) (columns T g) s) (link-fields (columns T e) (columns T g) s k)
    where
      go : Written g → (n : Link) → LinkFields n → OnSome Written (to_semi T m t e g n)
      go z unlinked n = tt
      go z (link a b c) (k, l) = when-written (is_equal c && avoids T g e) _ (two-written (semi m a b (turned m t)) e g (rw (k, l, turned-fields m t h)) x z)

  u5-written : (a : Aggregate) (n : ℕ) (t : Test) (e : Plan) {f : Plan} (v : Top f) → binary_fields (fold a n t) ≡ true → Written e → Written f
      → OnSome Written (u5 T a n t e v)
  u5-written a n t e (other f) h x y = tt
  u5-written a n t e (selected s g) h x y =
      let (k, z) = written_one (select s) g y in
      go z (link_of (columns T e) (columns T g) s) (link-fields (columns T e) (columns T g) s k)
    where
      go : Written g → (n' : Link) → LinkFields n' → OnSome Written (to_pair T a n t e g n')
      go z unlinked n = tt
      go z (link l r c) (j, k) =
          let w = every_true (aggregate_fields a ∷ byte n ∷ test_fields t ∷ []) h in
          when-written (avoids T g e) _ (two-written (pair a n l r c t) e g (rw (w.0, w.1.0, w.1.1.0, j, k)) x z)

  bare-written : {f : Plan} (v : Top f) → Written f → (test_fields (removed v) ≡ true) × Written (bare v)
  bare-written (selected s g) y = written_one (select s) g y
  bare-written (other f) y = (refl, y)

  u3-written : (S : Sequence) (c : Option ℕ) (m : Bool) (l r : ℕ) {e : Plan} (o : Only e) {f : Plan} (v : Top f)
      → ((x : ℕ) → c ≡ some x → byte x ≡ true) → byte l ≡ true → byte r ≡ true → Written f → OnSome Written (u3 T S c m l r o v)
  u3-written S none m l r o v hc hl hr y = tt
  u3-written S (some c) m l r (another e) v hc hl hr y = tt
  u3-written S (some c) m l r {e} (only k p) {f} v hc hl hr y =
      let (w, z) = bare-written v y in
      let b = hc c refl in
      let n = test false (number_of (cond m eq gt) c origin) in
      let s : test_fields n ≡ true = rw b in
      when-written (every (u3_conditions T S k l r e f (bare v))) _
      (one_written (project (l ∷ [])) (one (select n) (one (group count c l r eq (removed v)) (bare v))) (rw hl)
      (one_written (select n) (one (group count c l r eq (removed v)) (bare v)) s (one_written (group count c l r eq (removed v)) (bare v) (rw (b, hl, hr, w)) z)))

  u6-written : (S : Sequence) (a : Aggregate) (n l r : ℕ) (k : Comparison) (t : Test) {e : Plan} (o : Only e) (f : Plan)
      → binary_fields (pair a n l r k t) ≡ true → Written f → OnSome Written (u6 T S a n l r k t o f)
  u6-written S a n l r k t (another e) f h y = tt
  u6-written S a n l r k t {e} (only j p) f h y = when-written (every (u6_conditions T S j l r t e f)) _ (one_written (group a n l r k t) f h y)

  u7-written : (m : Bool) (l r : ℕ) (t : Test) (e f : Plan) → binary_fields (semi m l r t) ≡ true → Written e → Written f → OnSome Written (u7 T m l r t e f)
  u7-written m l r t e f h x y =
      let w = every_true (byte l ∷ byte r ∷ test_fields t ∷ []) h in
      when-written (local T t f) _ (two-written (semi m l r plain) e (one (select t) f) (rw (w.0, w.1.0)) x (one_written (select t) f w.1.1.0 y))

  shape-written : (c : Option ℕ) → ((x : ℕ) → c ≡ some x → byte x ≡ true) → (q : Plan) → Written q → OnSome Written (shape T c q)
  unfolding shape
  shape-written c b (leaf x) h = tt
  shape-written c b (one u p) h = tt
  shape-written c b (two cross e f) h = tt
  shape-written c b (two (semi m l r t) e f) h =
      let (k, x, y) = written-two (semi m l r t) e f h in
      let w = every_true (byte l ∷ byte r ∷ test_fields t ∷ []) k in
      elim (is_plain t) as (λ z. OnSome Written (cond z (u3 T any_sequence c m l r (only_of e) (top f)) (u7 T m l r t e f))) [
        | true ↦ u3-written any_sequence c m l r (only_of e) (top f) b w.0 w.1.0 y
        | false ↦ u7-written m l r t e f k x y
      ]
  shape-written c b (two (quant m t) e f) h = let (k, x, y) = written-two (quant m t) e f h in u1-written m t e (top (unprojected f)) k x (under-written (under f) y)
  shape-written c b (two (fold a n t) e f) h = let (k, x, y) = written-two (fold a n t) e f h in u5-written a n t e (top (unprojected f)) k x (under-written (under f) y)
  shape-written c b (two each e f) h = let (k, x, y) = written-two each e f h in when-written (closed T f) _ (two-written cross e f refl x y)
  shape-written c b (two (pair a n l r k t) e f) h =
      let (w, x, y) = written-two (pair a n l r k t) e f h in
      u6-written any_sequence a n l r k t (only_of e) f w y

pub shape-fields : (T : Tables) (c : Option ℕ) → ((x : ℕ) → c ≡ some x → byte x ≡ true) → (q q' : Plan) → Written q → shape T c q ≡ some q' → Written q'
shape-fields T c b q q' h e = on_some Written (shape T c q) q' (shape-written T c b q h) e

lacking-below : (n k : ℕ) (ids : List ℕ) (x : ℕ) → lacking n k ids ≡ some x → x < k + n
lacking-below zero k ids x e = absurd (none-ne-some x e)
lacking-below (suc n) k ids x e =
    (elim (member k ids) as (λ b. cond b (lacking n (suc k) ids) (some k) ≡ some x → x < k + suc n) [
      | true ↦ λ h. omega (arith, lacking-below n (suc k) ids x h)
      | false ↦ λ h. omega (arith, some-injective k x h)
    ]) e

-- a new id is a byte
pub fresh-byte : (T : Tables) (p : Plan) (x : ℕ) → fresh T p ≡ some x → byte x ≡ true
fresh-byte T p x e = lt-ltb x 256 (omega (arith, lacking-below 256 0 (introduced T p) x e))

-- the plan after a rule at a place
pub modify-fields : (T : Tables) (p p' : Plan) (i : ℕ) → Written p → modify (shape T (fresh T p)) p i ≡ some p' → Written p'
modify-fields T p p' i h e =
    let s = on_some (Splice (shape T (fresh T p)) p i) (modify (shape T (fresh T p)) p i) p' (modify_splice (shape T (fresh T p)) p i) e in
    let (a, b) = all_append fields s.left (flatten s.q ++ s.right) (ap (all fields) (sym s.was) ∙ h) in
    let (x, y) = all_append fields (flatten s.q) s.right b in
    let w = shape-fields T (fresh T p) (fresh-byte T p) s.q s.q' x s.made in
    ap (all fields) s.becomes ∙ (all-joined fields s.left (flatten s.q' ++ s.right) ∙ rw (a, all-joined fields (flatten s.q') s.right, w, y))
