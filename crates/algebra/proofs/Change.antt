-- One induction for every fact about a change at a place.
-- Assumes nothing.
use Prim.Native.Nat.{ℕ, zero, suc, ◌-◌}
use mathlib.Core.Bool.{Bool, true, false, cond}
use mathlib.Core.Path.{◌≡◌, refl}
use mathlib.Core.Option.{Option, none, some, map}
use lib.Dec.{ltb}
use Rattle.algebra.specs.Plans.{Unary, Binary, Plan, leaf, one, two}
use Rattle.algebra.specs.Places.{size, here, modify, look}

-- the plan that is there has the property
abbrev pub OnSome : (Plan → Type 0) → Option Plan → Type 0
OnSome P none = Unit {0}
OnSome P (some q) = P q

pub on-when : (P : Plan → Type 0) (b : Bool) (q : Plan) → (b ≡ true → P q) → OnSome P (cond b (some q) none)
on-when P true q h = h refl
on-when P false q h = tt

pub on_some : (P : Plan → Type 0) (o : Option Plan) (q : Plan) → OnSome P o → o ≡ some q → P q
on_some P o q h e = rw e at h

pub look-root : {A : Type 0} (k : Plan → A) (d : A) (p : Plan) → look k d p 0 ≡ k p
unfolding look
look-root k d (leaf x) = refl
look-root k d (one u p) = refl
look-root k d (two b e f) = refl

-- Q p i q: the change at place i of p, which gives q
module _ (k : Plan → Option Plan) (Q : Plan → ℕ → Plan → Type 0) (root : (p : Plan) → OnSome (Q p 0) (k p))
    (in_one : (u : Unary) (p : Plan) (j : ℕ) (q : Plan) → Q p j q → Q (one u p) (suc j) (one u q))
    (in_left : (b : Binary) (e f : Plan) (j : ℕ) (q : Plan) → ltb j (size e) ≡ true → Q e j q → Q (two b e f) (suc j) (two b q f))
    (in_right : (b : Binary) (e f : Plan) (j : ℕ) (q : Plan) → ltb j (size e) ≡ false → Q f (j - size e) q → Q (two b e f) (suc j) (two b e q))
  where
    on-map : (g : Plan → Plan) (P R : Plan → Type 0) → ((q : Plan) → P q → R (g q)) → (o : Option Plan) → OnSome P o → OnSome R (map g o)
    on-map g P R h none a = tt
    on-map g P R h (some q) a = h q a

    on-here : (p : Plan) (below : ℕ → Option Plan) → ((j : ℕ) → OnSome (Q p (suc j)) (below j)) → (i : ℕ) → OnSome (Q p i) (here i (k p) below)
    on-here p below h zero = root p
    on-here p below h (suc i) = h i

    pub changed : (p : Plan) (i : ℕ) → OnSome (Q p i) (modify k p i)
    unfolding modify
    changed (leaf x) = on-here (leaf x) _ (λ j. tt)
    changed (one u p) = on-here (one u p) _ (λ j. on-map (one u) (Q p j) (Q (one u p) (suc j)) (in_one u p j) (modify k p j) (changed p j))
    changed (two b e f) = on-here (two b e f) _ (λ j.
        (elim (ltb j (size e)) as
        (λ z. ltb j (size e) ≡ z → OnSome (Q (two b e f) (suc j)) (cond z (map (λ q. two b q f) (modify k e j)) (map (two b e) (modify k f (j - size e))))) [
          | true ↦ λ z. on-map (λ q. two b q f) (Q e j) (Q (two b e f) (suc j)) (λ q. in_left b e f j q z) (modify k e j) (changed e j)
          | false ↦ λ z. on-map (two b e) (Q f (j - size e)) (Q (two b e f) (suc j)) (λ q. in_right b e f j q z) (modify k f (j - size e)) (changed f (j - size e))
        ]) refl)
