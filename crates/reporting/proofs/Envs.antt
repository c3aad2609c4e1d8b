-- A row's columns bound in an environment. Assumes nothing.
use mathlib.Core.Path.{◌≡◌, refl, sym, ap, ◌∙◌}
use mathlib.Core.Bool.{Bool, true, false, cond, ◌||◌, false≢true}
use mathlib.Core.List.{List, [], ◌∷◌, ◌++◌, map, map-append}
use Prim.Native.Nat.{ℕ, suc, ◌+◌, ◌<◌}
use native.Mathlib.Numerals.{add-one}
use lib.Dec.{eqb}
use lib.ListN.{length, take, drop, get_or, set}
use lib.Seq.{drop-cons, take-suc, get_or-set_same, get_or-set_other}
use borrow.Author.Tests.{eqb-true, eqb-false, ne_eqb}
use Rattle.algebra.specs.Lists.{member}
use Rattle.algebra.specs.Plans.{Row, Env, bind, cut}
use Rattle.reporting.specs.Positions.{place_of}
use Rattle.reporting.specs.Rows.{env_of}

-- the columns from i on: column i, then the rest
pub bind-next : (cs vs : List ℕ) (env : Env) (i x : ℕ) → i < length cs → i < length vs
    → bind (drop i cs) (drop i vs) env x ≡ cond (eqb x (get_or cs i 0)) (get_or vs i 0) (bind (drop (i + 1) cs) (drop (i + 1) vs) env x)
bind-next cs vs env i x h k =
    (λ j. bind (drop-cons cs i 0 h j) (drop-cons vs i 0 k j) env x)
    ∙ ap (λ (n : ℕ). cond (eqb x (get_or cs i 0)) (get_or vs i 0) (bind (drop n cs) (drop n vs) env x)) (sym (add-one i))

pub bind_miss : (cs vs : List ℕ) (env : Env) (i x : ℕ) → i < length cs → i < length vs → (get_or cs i 0 ≡ x → ⊥)
    → bind (drop i cs) (drop i vs) env x ≡ bind (drop (i + 1) cs) (drop (i + 1) vs) env x
bind_miss cs vs env i x h k e =
    bind-next cs vs env i x h k
    ∙ ap (λ (b : Bool). cond b (get_or vs i 0) (bind (drop (i + 1) cs) (drop (i + 1) vs) env x)) (ne_eqb x (get_or cs i 0) (λ z. e (sym z)))

-- an environment in words with one word set
set_at : (words : List ℕ) (c v x : ℕ) → c < length words → (b : Bool) → eqb x c ≡ b → get_or (set words c v) x 0 ≡ cond b v (get_or words x 0)
set_at words c v x h true e = ap (λ (k : ℕ). get_or (set words c v) k 0) (eqb-true x c e) ∙ get_or-set_same words c v 0 h
set_at words c v x h false e = get_or-set_other words c x v 0 (eqb-false x c e)

-- one column more is bound, the last first
pub bound-more : (words cs vs : List ℕ) (env : Env) (i : ℕ) → i < length cs → i < length vs → get_or cs i 0 < length words
    → env_of words ≡ bind (drop (i + 1) cs) (drop (i + 1) vs) env → env_of (set words (get_or cs i 0) (get_or vs i 0)) ≡ bind (drop i cs) (drop i vs) env
bound-more words cs vs env i h k l e =
    let c : ℕ = get_or cs i 0 in
    let v : ℕ = get_or vs i 0 in
    let at : (x : ℕ) → get_or (set words c v) x 0 ≡ bind (drop i cs) (drop i vs) env x =
    λ x. set_at words c v x l (eqb x c) refl ∙ ap (λ (f : Env). cond (eqb x c) v (f x)) e ∙ sym (bind-next cs vs env i x h k) in
    λ j x. at x j

-- one id more of the list
pub cut-more : (list cs : List ℕ) (env : Env) (row : Row) (j v : ℕ) → j < length list → v ≡ bind cs row env (get_or list j 0)
    → cut (take j list) cs env row ++ (v ∷ []) ≡ cut (take (j + 1) list) cs env row
cut-more list cs env row j v h e =
    ap (λ (x : ℕ). cut (take j list) cs env row ++ (x ∷ [])) e
    ∙ sym (map-append (bind cs row env) (take j list) (get_or list j 0 ∷ []))
    ∙ ap (map (bind cs row env)) (sym (take-suc list j 0 h) ∙ ap (λ (k : ℕ). take k list) (sym (add-one j)))

-- ---- a column that is the row's own is the cell at its place, another is the same for every row: in rows of any length, for a cell that is missing
-- is blank, and blank is 0
module _ (env : Env) (x : ℕ) where
  pub bind-own : (cs : List ℕ) (r : Row) → member x cs ≡ true → bind cs r env x ≡ get_or r (place_of x cs) 0
  unfolding place_of
  bind-own [] r h = absurd (false≢true h)
  bind-own (c ∷ cs) [] h =
      (elim (eqb x c) as (λ b. (b || member x cs) ≡ true → cond b 0 (bind cs [] env x) ≡ 0) [
        | true ↦ λ m. refl
        | false ↦ λ m. bind-own cs [] m
      ]) h
  bind-own (c ∷ cs) (v ∷ r) h =
      (elim (eqb x c) as (λ b. (b || member x cs) ≡ true → cond b v (bind cs r env x) ≡ get_or (v ∷ r) (cond b 0 (suc (place_of x cs))) 0) [
        | true ↦ λ m. refl
        | false ↦ λ m. bind-own cs r m
      ]) h

  pub bind-other : (cs : List ℕ) (r : Row) → member x cs ≡ false → bind cs r env x ≡ env x
  bind-other [] r h = refl
  bind-other (c ∷ cs) [] h =
      (elim (eqb x c) as (λ b. (b || member x cs) ≡ false → cond b 0 (bind cs [] env x) ≡ env x) [
        | true ↦ λ m. absurd (false≢true (sym m))
        | false ↦ λ m. bind-other cs [] m
      ]) h
  bind-other (c ∷ cs) (v ∷ r) h =
      (elim (eqb x c) as (λ b. (b || member x cs) ≡ false → cond b v (bind cs r env x) ≡ env x) [
        | true ↦ λ m. absurd (false≢true (sym m))
        | false ↦ λ m. bind-other cs r m
      ]) h
