-- The first row that passes, and its number found through an index of the rows. Assumes nothing.
use mathlib.Core.Path.{◌≡◌, refl, sym, ap, ◌∙◌}
use mathlib.Core.Bool.{Bool, true, false, cond, ◌||◌, false≢true}
use mathlib.Core.List.{List, [], ◌∷◌, ◌++◌}
use Prim.Native.Nat.{ℕ, suc, ◌+◌, ◌*◌, ◌-◌, ◌≤◌, ◌<◌}
use native.Mathlib.Nat.{zero-add, add-zero}
use native.Mathlib.Omega.{arith}
use lib.Dec.{eqb}
use lib.ListN.{length, take, drop, get_or}
use lib.Seq.{get_or-drop}
use borrow.Author.Tests.{eqb-true, eq-eqb, ne_eqb}
use Rattle.algebra.specs.Lists.{filter, any, upward}
use Rattle.algebra.specs.Plans.{Row}
use Rattle.reading.proofs.Places.{upward-length}
use Rattle.reporting.specs.Index.{bucket_of, slot_of, nth, before, chain, Index}
use Rattle.reporting.specs.Rows.{chunk}
use Rattle.reporting.proofs.Chunks.{length-chunk, chunk_add, next_row}
use Rattle.reporting.proofs.Numbers.{each-upward, cell-nth}
use Rattle.reporting.proofs.Chains.{Walk, walk-next, chain-end, chain-filter}

-- ---- a row that passes is the first just where none before it passes
pub before-first : (p : Row → Bool) (qs rs : List Row) (r : Row) → any p qs ≡ false → p r ≡ true → before p (qs ++ (r ∷ rs)) ≡ length qs
unfolding before
before-first p [] rs r n y = ap (λ (b : Bool). cond b 0 (suc (before p rs))) y
before-first p (q ∷ qs) rs r n y =
    (elim (p q) as (λ b. (b || any p qs) ≡ false → cond b 0 (suc (before p (qs ++ (r ∷ rs)))) ≡ suc (length qs)) [
      | true ↦ λ m. absurd (false≢true (sym m))
      | false ↦ λ m. ap suc (before-first p qs rs r m y)
    ]) n

pub before_earlier : (p : Row → Bool) (qs rs : List Row) → any p qs ≡ true → before p (qs ++ rs) < length qs
unfolding before
before_earlier p [] rs y = absurd (false≢true y)
before_earlier p (q ∷ qs) rs y =
    (elim (p q) as (λ b. (b || any p qs) ≡ true → cond b 0 (suc (before p (qs ++ rs))) < suc (length qs)) [
      | true ↦ λ m. omega arith
      | false ↦ λ m. omega (arith, before_earlier p qs rs m)
    ]) y

-- all rows: those before row i, row i, and those behind it
row-split : (m w i : ℕ) (xs : List ℕ) → i < m → chunk m w xs ≡ chunk i w xs ++ (take w (drop (i * w) xs) ∷ chunk (m - (i + 1)) w (drop (i * w + w) xs))
row-split m w i xs h =
    let e : m ≡ i + (m - i) = omega arith in
    ap (λ (k : ℕ). chunk k w xs) e ∙ chunk_add i (m - i) w xs ∙ ap (λ (l : List Row). chunk i w xs ++ l) (next_row m w i (i * w) xs h)

module _ (p : Row → Bool) (m w i : ℕ) (xs : List ℕ) (h : i < m) (y : p (take w (drop (i * w) xs)) ≡ true) where
  pub is-first : before p (chunk m w xs) ≡ i → any p (chunk i w xs) ≡ false
  is-first e =
      let rest : List Row = take w (drop (i * w) xs) ∷ chunk (m - (i + 1)) w (drop (i * w + w) xs) in
      (elim (any p (chunk i w xs)) as (λ b. any p (chunk i w xs) ≡ b → b ≡ false) [
        | true ↦ λ t. absurd (omega (arith, before_earlier p (chunk i w xs) rest t, ap (before p) (row-split m w i xs h), length-chunk i w xs, e))
        | false ↦ λ t. refl
      ]) refl

  pub is_later : (before p (chunk m w xs) ≡ i → ⊥) → any p (chunk i w xs) ≡ true
  is_later n =
      let rest : List Row = chunk (m - (i + 1)) w (drop (i * w + w) xs) in
      (elim (any p (chunk i w xs)) as (λ b. any p (chunk i w xs) ≡ b → b ≡ true) [
        | true ↦ λ t. refl
        | false ↦ λ t. absurd (n (ap (before p) (row-split m w i xs h) ∙ before-first p (chunk i w xs) rest (take w (drop (i * w) xs)) t y ∙ length-chunk i w xs))
      ]) refl

-- ---- by row numbers: the first of a list of numbers that passes; `none` where none does
abbrev pub earliest : (ℕ → Bool) → ℕ → List ℕ → ℕ
earliest p none [] = none
earliest p none (i ∷ ns) = cond (p i) i (earliest p none ns)

earliest-filter : (p : ℕ → Bool) (none : ℕ) (ns : List ℕ) → earliest p none (filter p ns) ≡ earliest p none ns
earliest-filter p none [] = refl
earliest-filter p none (i ∷ ns) =
    (elim (p i) as (λ b. p i ≡ b → earliest p none (cond b (i ∷ filter p ns) (filter p ns)) ≡ cond b i (earliest p none ns)) [
      | true ↦ λ e. ap (λ (b : Bool). cond b i (earliest p none (filter p ns))) e
      | false ↦ λ e. earliest-filter p none ns
    ]) refl

before-from : (p : Row → Bool) (rs : List Row) (m none : ℕ) (g : ℕ → Bool) → ((i : ℕ) → m ≤ i → g i ≡ p (nth rs (i - m))) → none ≡ m + length rs → m + before p rs ≡ earliest g none (upward (length rs) m)
unfolding before
before-from p [] m none g f e = sym e
before-from p (r ∷ rs) m none g f e =
    let z : m - m ≡ 0 = omega arith in
    let here : g m ≡ p r = f m (omega arith) ∙ ap (λ (n : ℕ). p (nth (r ∷ rs) n)) z in
    let rest : suc m + before p rs ≡ earliest g none (upward (length rs) (suc m)) =
    before-from p rs (suc m) none g (λ i h. let d : i - m ≡ suc (i - suc m) = omega arith in f i (omega arith) ∙ ap (λ (n : ℕ). p (nth (r ∷ rs) n)) d) (omega arith) in
    let next : m + suc (before p rs) ≡ suc m + before p rs = omega arith in
    (elim (p r) as (λ b. m + cond b 0 (suc (before p rs)) ≡ cond b m (earliest g none (upward (length rs) (suc m)))) [
      | true ↦ add-zero m
      | false ↦ next ∙ rest
    ])
    ∙ ap (λ (b : Bool). cond b m (earliest g none (upward (length rs) (suc m)))) (sym here)

before-number : (p : Row → Bool) (rs : List Row) → before p rs ≡ earliest (λ i. p (nth rs i)) (length rs) (upward (length rs) 0)
before-number p rs =
    sym (zero-add (before p rs))
    ∙ before-from p rs 0 (length rs) (λ i. p (nth rs i)) (λ i h. let e : i ≡ i - 0 = omega arith in ap (λ (n : ℕ). p (nth rs n)) e) (sym (zero-add (length rs)))

-- ---- through an index: the chain of the key's bucket runs in the order of the rows

-- the row of number i has the key
abbrev pub key_at : ℕ → ℕ → List Row → ℕ → Bool
key_at place key rs i = eqb (get_or (nth rs i) place 0) key

pub earliest_start : (place : ℕ) (rs : List Row) (k : ℕ) (heads next : List ℕ) (key b h : ℕ) → length rs ≡ k → Index (slot_of place) rs (upward k 0) heads next → b < 4096 → b ≡ bucket_of key → h ≡ get_or heads b 0
    → before (λ q. eqb (get_or q place 0) key) rs ≡ earliest (key_at place key rs) k (chain (suc k) next h)
earliest_start place rs k heads next key b h many x l slot e =
    let only : (q : Row) → eqb (get_or q place 0) key ≡ true → slot_of place q ≡ b = λ q t. ap bucket_of (eqb-true (get_or q place 0) key t) ∙ sym slot in
    before-number (λ q. eqb (get_or q place 0) key) rs
    ∙ ap (λ (n : ℕ). earliest (key_at place key rs) n (upward n 0)) many
    ∙ sym (earliest-filter (key_at place key rs) k (upward k 0))
    ∙ ap (earliest (key_at place key rs) k) (sym (chain-filter (slot_of place) rs (upward k 0) heads next x k (upward-length k 0) (each-upward (λ j. j < k) k 0 (λ j g l. omega arith)) b l h e (λ q. eqb (get_or q place 0) key) only))
    ∙ earliest-filter (key_at place key rs) k (chain (suc k) next h)

-- the cell at a place of a row, by the row's number
cell-from : (own k w : ℕ) (xs : List ℕ) (i place : ℕ) → i < k → place < w → get_or (nth (chunk k w (drop own xs)) i) place 0 ≡ get_or xs (own + i * w + place) 0
cell-from own k w xs i place h l =
    let e : own + (i * w + place) ≡ own + i * w + place = omega arith in
    cell-nth k w (drop own xs) i place h l ∙ get_or-drop own xs (i * w + place) 0 ∙ ap (λ (n : ℕ). get_or xs n 0) e

-- one link on, where the row at hand has the key or not
module _ (own k w : ℕ) (cells : List ℕ) (place key : ℕ) (next : List ℕ) (h : ℕ) (walk : Walk k next h) (p : 0 < h) (l : h - 1 < k) (g : place < w) where
  abbrev at-hand : ℕ
  at-hand = get_or cells (own + (h - 1) * w + place) 0

  pub earliest-here : at-hand ≡ key → earliest (key_at place key (chunk k w (drop own cells))) k (chain (suc k) next h) ≡ h - 1
  earliest-here e =
      let Q : ℕ → Bool = key_at place key (chunk k w (drop own cells)) in
      let rest : List ℕ = chain (suc k) next (get_or next (h - 1) 0) in
      ap (earliest Q k) (walk-next k next h walk p (get_or next (h - 1) 0) refl)
      ∙ ap (λ (b : Bool). cond b (h - 1) (earliest Q k rest)) (eq-eqb (get_or (nth (chunk k w (drop own cells)) (h - 1)) place 0) key (cell-from own k w cells (h - 1) place l g ∙ e))

  pub earliest-next : (h' : ℕ) → h' ≡ get_or next (h - 1) 0 → (at-hand ≡ key → ⊥)
      → earliest (key_at place key (chunk k w (drop own cells))) k (chain (suc k) next h) ≡ earliest (key_at place key (chunk k w (drop own cells))) k (chain (suc k) next h')
  earliest-next h' e n =
      let Q : ℕ → Bool = key_at place key (chunk k w (drop own cells)) in
      ap (earliest Q k) (walk-next k next h walk p h' e)
      ∙ ap (λ (b : Bool). cond b (h - 1) (earliest Q k (chain (suc k) next h'))) (ne_eqb (get_or (nth (chunk k w (drop own cells)) (h - 1)) place 0) key (λ d. n (sym (cell-from own k w cells (h - 1) place l g) ∙ d)))

pub earliest-end : (Q : ℕ → Bool) (k : ℕ) (next : List ℕ) (h : ℕ) → h ≤ 0 → earliest Q k (chain (suc k) next h) ≡ k
earliest-end Q k next h l = ap (earliest Q k) (chain-end (suc k) next h l)
