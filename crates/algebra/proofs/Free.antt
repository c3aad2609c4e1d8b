-- A plan's rows depend on the environment only at the columns that it names from outside.
-- Assumes nothing.
use Prim.Native.Nat.{ℕ}
use mathlib.Core.Bool.{Bool, true, false, not, cond, ◌&&◌, ◌||◌, true≢false}
use mathlib.Core.Path.{◌≡◌, refl, ap, ap₂, sym, ◌∙◌, fun_ext}
use mathlib.Core.List.{List, [], ◌∷◌, ◌++◌, map}
use lib.Dec.{eqb}
use Rattle.algebra.specs.Lists.{flip, filter, any, flat_map, member, minus, firsts}
use Rattle.algebra.specs.Cells.{Comparison, eq, Aggregate, count, over, blank, compares, aggregate}
use Rattle.algebra.specs.Plans.{Row, Env, Tables, Form, always, columns_of, number_of, Test, test, form_names, names, truth, holds, Unary, select, project, distinct, group, sort, Binary, cross, semi, quant, fold, each, pair, Plan, leaf, one, two, nested, columns, bind, measure, gather, gather_within, matched, quantify, emit, emit_within, cut, arranged, act, act_within, around, joined_within, eval, eval_within}
use Rattle.algebra.specs.Names.{measured, binary_names, unary_free, inner_free, free}

-- the two environments give these columns the same values
pub data Agree (f g : Env) : List ℕ → Type 0 where
  none : Agree f g []
  more : {x : ℕ} {xs : List ℕ} → f x ≡ g x → Agree f g xs → Agree f g (x ∷ xs)

pub agree_head : {f g : Env} {x : ℕ} {xs : List ℕ} → Agree f g (x ∷ xs) → f x ≡ g x
agree_head (more p h) = p

pub agree_tail : {f g : Env} {x : ℕ} {xs : List ℕ} → Agree f g (x ∷ xs) → Agree f g xs
agree_tail (more p h) = h

pub agree_left : {f g : Env} (xs ys : List ℕ) → Agree f g (xs ++ ys) → Agree f g xs
agree_left [] ys h = none
agree_left (x ∷ xs) ys (more p h) = more p (agree_left xs ys h)

pub agree_right : {f g : Env} (xs ys : List ℕ) → Agree f g (xs ++ ys) → Agree f g ys
agree_right [] ys h = h
agree_right (x ∷ xs) ys (more p h) = agree_right xs ys h

pub map-agree : {f g : Env} {xs : List ℕ} → Agree f g xs → map f xs ≡ map g xs
map-agree none = refl
map-agree (more p h) = ap₂ (λ (v : ℕ) (r : List ℕ). v ∷ r) p (map-agree h)

-- inside a row only the columns that the row lacks count
pub bind-same : (cs : List ℕ) (r : Row) (f g : Env) (x : ℕ) → (member x cs ≡ false → f x ≡ g x) → bind cs r f x ≡ bind cs r g x
bind-same [] r f g x h = h refl
bind-same (c ∷ cs) [] f g x h =
    (elim (eqb x c) as (λ b. ((b || member x cs) ≡ false → f x ≡ g x) → cond b blank (bind cs [] f x) ≡ cond b blank (bind cs [] g x)) [
      | true ↦ λ k. refl
      | false ↦ λ k. bind-same cs [] f g x k
    ]) h
bind-same (c ∷ cs) (v ∷ r) f g x h =
    (elim (eqb x c) as (λ b. ((b || member x cs) ≡ false → f x ≡ g x) → cond b v (bind cs r f x) ≡ cond b v (bind cs r g x)) [
      | true ↦ λ k. refl
      | false ↦ λ k. bind-same cs r f g x k
    ]) h

-- and a column that the row lacks is read outside of it
pub bind-outside : (cs : List ℕ) (r : Row) (f : Env) (x : ℕ) → member x cs ≡ false → bind cs r f x ≡ f x
bind-outside [] r f x h = refl
bind-outside (c ∷ cs) [] f x h =
    (elim (eqb x c) as (λ b. (b || member x cs) ≡ false → cond b blank (bind cs [] f x) ≡ f x) [
      | true ↦ λ k. absurd (true≢false k)
      | false ↦ λ k. bind-outside cs [] f x k
    ]) h
bind-outside (c ∷ cs) (v ∷ r) f x h =
    (elim (eqb x c) as (λ b. (b || member x cs) ≡ false → cond b v (bind cs r f x) ≡ f x) [
      | true ↦ λ k. absurd (true≢false k)
      | false ↦ λ k. bind-outside cs r f x k
    ]) h

pub bind-agree : (xs cs : List ℕ) (r : Row) {f g : Env} → Agree f g (minus xs cs) → Agree (bind cs r f) (bind cs r g) xs
bind-agree [] cs r h = none
bind-agree (x ∷ xs) cs r {f} {g} h =
    (elim (member x cs) as (λ b. member x cs ≡ b → Agree f g (cond (not b) (x ∷ minus xs cs) (minus xs cs)) → Agree (bind cs r f) (bind cs r g) (x ∷ xs)) [
      | true ↦ λ e k. more (bind-same cs r f g x (λ n. absurd (true≢false (sym e ∙ n)))) (bind-agree xs cs r k)
      | false ↦ λ e k. more (bind-same cs r f g x (λ n. agree_head k)) (bind-agree xs cs r (agree_tail k))
    ]) refl h

truth-agree : (t : Form) {f g : Env} → Agree f g (form_names t) → truth t f ≡ truth t g
unfolding truth
truth-agree always h = refl
truth-agree (columns_of c l r) h = ap₂ (compares c) (agree_head h) (agree_head (agree_tail h))
truth-agree (number_of c l w) h = ap (λ (v : ℕ). compares c v w) (agree_head h)

pub holds_agree : (t : Test) {f g : Env} → Agree f g (names t) → holds t f ≡ holds t g
holds_agree (test m t) h = ap (flip m) (truth-agree t h)

pub measure-agree : (a : Aggregate) {f g : Env} → Agree f g (measured a) → measure a f ≡ measure a g
measure-agree count h = refl
measure-agree (over k c) h = agree_head h

matched-agree : (l r : ℕ) (c : Comparison) (t : Test) {f g : Env} → Agree f g (l ∷ r ∷ names t) → matched l r c t f ≡ matched l r c t g
matched-agree l r c t (more p (more q h)) = ap₂ ◌&&◌ (ap₂ (compares c) p q) (holds_agree t h)

gather-agree : (a : Aggregate) (p : Env → Bool) (ds : List ℕ) (f g : Env) (rs : List Row)
    → ((r : Row) → p (bind ds r f) ≡ p (bind ds r g)) → ((r : Row) → measure a (bind ds r f) ≡ measure a (bind ds r g)) → gather a p ds f rs ≡ gather a p ds g rs
unfolding gather_within
gather-agree a p ds f g rs h k = ap₂ (λ (m : Row → ℕ) (q : Row → Bool). aggregate a (map m (filter q rs))) (fun_ext k) (fun_ext h)

pub emit-agree : (b : Binary) (ds : List ℕ) (l : Row) {f g : Env} (rs : List Row) → Agree f g (minus (binary_names b) ds) → emit b ds l f rs ≡ emit b ds l g rs
unfolding emit_within
emit-agree b ds l {f} {g} rs h = go b rs (λ r. bind-agree (binary_names b) ds r h)
  where
    go : (b : Binary) (rs : List Row) → ((r : Row) → Agree (bind ds r f) (bind ds r g) (binary_names b)) → emit b ds l f rs ≡ emit b ds l g rs
    go cross rs k = refl
    go (semi m a c t) rs k = ap (λ (p : Row → Bool). cond (flip m (any p rs)) (l ∷ []) []) (fun_ext (λ r. matched-agree a c eq t (k r)))
    go (quant m t) rs k = ap (λ (p : Row → Bool). cond (quantify m p rs) (l ∷ []) []) (fun_ext (λ r. holds_agree t (k r)))
    go (fold a n t) rs k =
        ap (λ (v : ℕ). (l ++ (v ∷ [])) ∷ [])
        (gather-agree a (holds t) ds f g rs (λ r. holds_agree t (agree_right (measured a) (names t) (k r))) (λ r. measure-agree a (agree_left (measured a) (names t) (k r))))
    go each [] k = refl
    go each (r ∷ rs) k = refl
    go (pair a n x y c t) rs k =
        ap (λ (v : ℕ). (l ++ (v ∷ [])) ∷ [])
        (gather-agree a (matched x y c t) ds f g rs
        (λ r. matched-agree x y c t (more (agree_head (k r)) (more (agree_head (agree_tail (k r))) (agree_right (measured a) (names t) (agree_tail (agree_tail (k r)))))))
        (λ r. measure-agree a (agree_left (measured a) (names t) (agree_tail (agree_tail (k r))))))

cut-agree : (ids cs : List ℕ) {f g : Env} → Agree f g (minus ids cs) → cut ids cs f ≡ cut ids cs g
cut-agree ids cs h = fun_ext (λ r. map-agree (bind-agree ids cs r h))

pub act-agree : (u : Unary) (cs : List ℕ) {f g : Env} (rs : List Row) → Agree f g (unary_free u cs) → act u cs f rs ≡ act u cs g rs
unfolding act_within unary_free
act-agree (select t) cs rs h = ap (λ (p : Row → Bool). filter p rs) (fun_ext (λ r. holds_agree t (bind-agree (names t) cs r h)))
act-agree (project ids) cs rs h = ap (λ (k : Row → Row). map k rs) (cut-agree ids cs h)
act-agree (distinct ids) cs rs h = ap (λ (k : Row → Row). firsts (map k rs)) (cut-agree ids cs h)
act-agree (group a n l r c t) cs {f} {g} rs h =
    ap₂ (λ (k : Row → List Row) (m : Row → Row). flat_map k (firsts (map m rs)))
    (fun_ext (λ v. emit-agree (pair a n l r c t) cs v rs (bind-agree (minus (binary_names (pair a n l r c t)) cs) (l ∷ []) v (agree_right (minus (r ∷ []) cs) _ h))))
    (cut-agree (r ∷ []) cs (agree_left (minus (r ∷ []) cs) _ h))
act-agree (sort d ids) cs rs h = ap (λ (k : Row → Row). arranged d k rs) (cut-agree ids cs h)

around-agree : (b : Bool) (cs fs : List ℕ) (l : Row) {f g : Env} → Agree f g (inner_free b cs fs) → Agree (around b f (bind cs l f)) (around b g (bind cs l g)) fs
around-agree true cs fs l h = bind-agree fs cs l h
around-agree false cs fs l h = h

module _ (T : Tables) where
  -- environments that agree on what the plan names from outside give it the same rows
  pub eval-free : (p : Plan) {f g : Env} → Agree f g (free T p) → eval T p f ≡ eval T p g
  unfolding eval_within free joined_within
  eval-free (leaf x) h = refl
  eval-free (one u p) {f} {g} h =
      ap (act u (columns T p) f) (eval-free p (agree_left (free T p) _ h)) ∙ act-agree u (columns T p) (eval T p g) (agree_right (free T p) _ h)
  eval-free (two b e q) {f} {g} h =
      let k = agree_right (free T e) _ h in
      ap₂ (λ (m : Row → List Row) (ls : List Row). flat_map m ls)
      (fun_ext (λ l.
      ap (emit b (columns T q) l (bind (columns T e) l f)) (eval-free q (around-agree (nested b) (columns T e) (free T q) l (agree_left (inner_free (nested b) (columns T e) (free T q)) _ k)))
      ∙ emit-agree b (columns T q) l _ (bind-agree (minus (binary_names b) (columns T q)) (columns T e) l (agree_right (inner_free (nested b) (columns T e) (free T q)) _ k))))
      (eval-free e (agree_left (free T e) _ h))
