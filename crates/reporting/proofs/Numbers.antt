-- Rows by their numbers. Assumes nothing.
use mathlib.Core.Path.{◌≡◌, refl, sym, ap, ap₂, ◌∙◌}
use mathlib.Core.Bool.{Bool, true, false, cond, ◌&&◌, ◌||◌, or-false, or_comm}
use mathlib.Core.List.{List, [], ◌∷◌, ◌++◌, map}
use Prim.Native.Nat.{ℕ, zero, suc, ◌+◌, ◌*◌, ◌-◌, ◌≤◌, ◌<◌}
use native.Mathlib.Numerals.{add-one}
use native.Mathlib.Omega.{arith}
use lib.Dec.{ltb}
use lib.ListN.{length, take, drop, get_or}
use lib.Seq.{get_or-take, get_or-drop, drop-drop}
use Rattle.algebra.specs.Lists.{filter, any, upward}
use Rattle.algebra.specs.Plans.{Row}
use Rattle.algebra.proofs.Lists.{filter-filter, filter_map, any-count}
use Rattle.reading.proofs.Places.{upward-more}
use Rattle.reporting.specs.Rows.{chunk}
use Rattle.reporting.specs.Index.{nth, downward}
use Rattle.reporting.proofs.Chunks.{times_suc}

-- ---- a fact of each number of a list
abbrev pub Each : (ℕ → Type 0) → List ℕ → Type 0
Each P [] = Unit {0}
Each P (x ∷ xs) = P x × Each P xs

pub each-filter : (P : ℕ → Type 0) (q : ℕ → Bool) (xs : List ℕ) → Each P xs → Each P (filter q xs)
each-filter P q [] h = tt
each-filter P q (x ∷ xs) h =
    elim (q x) as (λ b. Each P (cond b (x ∷ filter q xs) (filter q xs))) [
      | true ↦ (h.0, each-filter P q xs h.1)
      | false ↦ each-filter P q xs h.1
    ]

pub each-upward : (P : ℕ → Type 0) (n m : ℕ) → ((j : ℕ) → m ≤ j → j < m + n → P j) → Each P (upward n m)
each-upward P zero m f = tt
each-upward P (suc n) m f = (f m (omega arith) (omega arith), each-upward P n (suc m) (λ j h k. f j (omega arith) (omega arith)))

pub each-downward : (P : ℕ → Type 0) (n : ℕ) → ((j : ℕ) → j < n → P j) → Each P (downward n)
each-downward P zero f = tt
each-downward P (suc n) f = (f n (omega arith), each-downward P n (λ j h. f j (omega arith)))

-- tests that agree on each number of a list
pub filter-each : (p q : ℕ → Bool) (xs : List ℕ) → Each (λ j. p j ≡ q j) xs → filter p xs ≡ filter q xs
filter-each p q [] h = refl
filter-each p q (x ∷ xs) h = ap₂ (λ (b : Bool) (l : List ℕ). cond b (x ∷ l) l) h.0 (filter-each p q xs h.1)

-- ---- numbers downward
pub downward-length : (n : ℕ) → length (downward n) ≡ n
downward-length zero = refl
downward-length (suc n) = ap suc (downward-length n)

pub any_snoc : {A : Type 0} (p : A → Bool) (xs : List A) (y : A) → any p (xs ++ (y ∷ [])) ≡ (any p xs || p y)
any_snoc p [] y = or-false (p y)
any_snoc p (x ∷ xs) y =
    elim (p x) as (λ b. (b || any p (xs ++ (y ∷ []))) ≡ ((b || any p xs) || p y)) [
      | true ↦ refl
      | false ↦ any_snoc p xs y
    ]

-- whether some number passes does not hang on their order
pub any-downward : (q : ℕ → Bool) (n : ℕ) → any q (downward n) ≡ any q (upward n 0)
any-downward q zero = refl
any-downward q (suc n) =
    let z : n ≡ 0 + n = omega arith in
    ap (λ (b : Bool). q n || b) (any-downward q n) ∙ or_comm (q n) (any q (upward n 0)) ∙ ap (λ (j : ℕ). any q (upward n 0) || q j) z
    ∙ sym (ap (any q) (ap (λ (k : ℕ). upward k 0) (sym (add-one n)) ∙ upward-more n 0) ∙ any_snoc q (upward n 0) (0 + n))

-- ---- rows are what their numbers give
nth-from : (rs : List Row) (m : ℕ) (g : ℕ → Row) → ((i : ℕ) → m ≤ i → g i ≡ nth rs (i - m)) → map g (upward (length rs) m) ≡ rs
nth-from [] m g f = refl
nth-from (r ∷ rs) m g f =
    let e : m - m ≡ 0 = omega arith in
    ap₂
    (λ (a : Row) (l : List Row). a ∷ l)
    (f m (omega arith) ∙ ap (nth (r ∷ rs)) e)
    (nth-from rs (suc m) g (λ i h. let d : i - m ≡ suc (i - suc m) = omega arith in f i (omega arith) ∙ ap (nth (r ∷ rs)) d))

pub nth-upward : (rs : List Row) → map (nth rs) (upward (length rs) 0) ≡ rs
nth-upward rs = nth-from rs 0 (nth rs) (λ i h. let e : i ≡ i - 0 = omega arith in ap (nth rs) e)

-- the rows that pass, by their numbers
pub filter-nth : (p : Row → Bool) (rs : List Row) → filter p rs ≡ map (nth rs) (filter (λ i. p (nth rs i)) (upward (length rs) 0))
filter-nth p rs = ap (filter p) (sym (nth-upward rs)) ∙ filter_map p (nth rs) (upward (length rs) 0)

-- ---- the law of a bucket: a test that only elements of the bucket pass filters those of the bucket as it filters all
module _ {A : Type 0} (p s : A → Bool) (only : (x : A) → p x ≡ true → s x ≡ true) where
  under : (x : A) → (s x && p x) ≡ p x
  under x =
      (elim (p x) as (λ b. p x ≡ b → (s x && b) ≡ b) [
        | true ↦ λ e. ap (λ (t : Bool). t && true) (only x e)
        | false ↦ λ e. elim (s x) as (λ t. (t && false) ≡ false) [ true ↦ refl | false ↦ refl ]
      ]) refl

  pub bucket-filter : (xs : List A) → filter p (filter s xs) ≡ filter p xs
  bucket-filter xs = filter-filter p s xs ∙ ap (λ (f : A → Bool). filter f xs) (λ i x. under x i)

  pub bucket-any : (xs : List A) → any p (filter s xs) ≡ any p xs
  bucket-any xs = any-count p (filter s xs) ∙ ap (λ (l : List A). ltb 0 (length l)) (bucket-filter xs) ∙ sym (any-count p xs)

-- ---- a row among cells, and its cells
pub chunk-nth : (k w : ℕ) (xs : List ℕ) (i : ℕ) → i < k → nth (chunk k w xs) i ≡ take w (drop (i * w) xs)
unfolding chunk
chunk-nth zero w xs i h = absurd (omega arith)
chunk-nth (suc k) w xs zero h = let e : 0 ≡ 0 * w = omega arith in ap (λ (n : ℕ). take w (drop n xs)) e
chunk-nth (suc k) w xs (suc i) h =
    chunk-nth k w (drop w xs) i (omega arith) ∙ ap (take w) (drop-drop (i * w) w xs ∙ ap (λ (n : ℕ). drop n xs) (sym (times_suc i w)))

pub cell-nth : (k w : ℕ) (xs : List ℕ) (i place : ℕ) → i < k → place < w → get_or (nth (chunk k w xs) i) place 0 ≡ get_or xs (i * w + place) 0
cell-nth k w xs i place h l =
    ap (λ (q : Row). get_or q place 0) (chunk-nth k w xs i h) ∙ get_or-take w (drop (i * w) xs) place 0 l ∙ get_or-drop (i * w) xs place 0
