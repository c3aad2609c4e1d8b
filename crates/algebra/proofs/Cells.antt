-- Laws of comparisons and of the count. Assumes nothing.
use Rattle.std.specs.Prelude.{if◌then◌else◌}
use Prim.Native.Nat.{ℕ, ◌+◌, ◌≤◌}
use mathlib.Core.Bool.{Bool, true, false, not}
use mathlib.Core.Logic.{◌⊎◌, inl, inr}
use mathlib.Core.Path.{◌≡◌, refl, ap, sym, ◌∙◌}
use native.Mathlib.Omega.{arith}
use lib.Dec.{eqb, ltb, leb}
use borrow.Author.Tests.{eqb-true, eqb-false, eq-eqb, ne_eqb, ltb-true, ltb-false, lt-ltb, le-ltb}
use Rattle.algebra.specs.Cells.{Comparison, eq, ne, lt, le, gt, ge, blank, off_scale, origin, is_number, is_unequal, order, compares, turn}

pub eqb-sym : (a b : ℕ) → eqb a b ≡ eqb b a
eqb-sym a b = go (eqb a b) refl
  where
    go : (t : Bool) → eqb a b ≡ t → t ≡ eqb b a
    go true e = sym (eq-eqb b a (sym (eqb-true a b e)))
    go false e = sym (ne_eqb b a (λ q. eqb-false a b e (sym q)))

-- ---- the whole table of outcomes

-- what a side of a comparison can be
pub data Side : Type 0 where
  a_number a_blank an_off_scale : Side

abbrev pub side_of : ℕ → Side
side_of x = if eqb x blank then a_blank else if eqb x off_scale then an_off_scale else a_number

-- the outcomes of the six comparisons: = ≠ < ≤ > ≥
abbrev pub six : Bool → Bool → Bool → Bool → Bool → Bool → Comparison → Bool
six equal unequal less at_most greater at_least eq = equal
six equal unequal less at_most greater at_least ne = unequal
six equal unequal less at_most greater at_least lt = less
six equal unequal less at_most greater at_least le = at_most
six equal unequal less at_most greater at_least gt = greater
six equal unequal less at_most greater at_least ge = at_least

-- the outcomes for every two sorts of side
abbrev pub table : Side → Side → ℕ → ℕ → Comparison → Bool
table a_number a_number a b = six (eqb a b) (not (eqb a b)) (ltb a b) (leb a b) (ltb b a) (leb b a)
table a_number a_blank a b = six false true false false false false
table a_number an_off_scale a b = six false false false false false false
table a_blank a_number a b = six false true false false false false
table a_blank a_blank a b = six false false false false false false
table a_blank an_off_scale a b = six false false false false false false
table an_off_scale a_number a b = six false false false false false false
table an_off_scale a_blank a b = six false false false false false false
table an_off_scale an_off_scale a b = six false false false false false false

-- an outcome for each comparison, taken as six
in_six : (f : Comparison → Bool) (c : Comparison) → f c ≡ six (f eq) (f ne) (f lt) (f le) (f gt) (f ge) c
in_six f eq = refl
in_six f ne = refl
in_six f lt = refl
in_six f le = refl
in_six f gt = refl
in_six f ge = refl

-- each cell is blank, off scale or neither
abbrev Facts : ℕ → Type 0
Facts x = (x ≡ blank) ⊎ ((x ≡ off_scale) ⊎ ((eqb x blank ≡ false) × (eqb x off_scale ≡ false)))

facts : (x : ℕ) → Facts x
facts x = go (eqb x blank) (eqb x off_scale) refl refl
  where
    go : (p q : Bool) → eqb x blank ≡ p → eqb x off_scale ≡ q → Facts x
    go true q e f = inl (eqb-true x blank e)
    go false true e f = inr (inl (eqb-true x off_scale f))
    go false false e f = inr (inr (e, f))

-- every comparison of any two cells comes out as the table says
pub compares-table : (c : Comparison) (a b : ℕ) → compares c a b ≡ table (side_of a) (side_of b) a b c
unfolding compares
compares-table c a b = go (facts a) (facts b)
  where
    go : Facts a → Facts b → compares c a b ≡ table (side_of a) (side_of b) a b c
    go (inl e) (inl f) = rw (e, f) (in_six (λ k. false) c)
    go (inl e) (inr (inl f)) = rw (e, f) (in_six (λ k. false) c)
    go (inl e) (inr (inr f)) = rw (e, f.0, f.1) (in_six is_unequal c)
    go (inr (inl e)) (inl f) = rw (e, f) (in_six (λ k. false) c)
    go (inr (inl e)) (inr (inl f)) = rw (e, f) (in_six (λ k. false) c)
    go (inr (inl e)) (inr (inr f)) = rw (e, f.0, f.1) (in_six (λ k. false) c)
    go (inr (inr e)) (inl f) = rw (e.0, e.1, f) (in_six is_unequal c)
    go (inr (inr e)) (inr (inl f)) = rw (e.0, e.1, f) (in_six (λ k. false) c)
    go (inr (inr e)) (inr (inr f)) = rw (e.0, e.1, f.0, f.1) (in_six (λ k. order k a b) c)

six-turn : (equal unequal less at_most greater at_least : Bool) (c : Comparison)
    → six equal unequal less at_most greater at_least (turn c) ≡ six equal unequal greater at_least less at_most c
six-turn equal unequal less at_most greater at_least eq = refl
six-turn equal unequal less at_most greater at_least ne = refl
six-turn equal unequal less at_most greater at_least lt = refl
six-turn equal unequal less at_most greater at_least le = refl
six-turn equal unequal less at_most greater at_least gt = refl
six-turn equal unequal less at_most greater at_least ge = refl

table-turn : (s t : Side) (c : Comparison) (a b : ℕ) → table s t a b (turn c) ≡ table t s b a c
table-turn a_number a_number c a b =
    six-turn (eqb a b) (not (eqb a b)) (ltb a b) (leb a b) (ltb b a) (leb b a) c ∙ ap (λ (e : Bool). six e (not e) (ltb b a) (leb b a) (ltb a b) (leb a b) c) (eqb-sym a b)
table-turn a_number a_blank c a b = six-turn false true false false false false c
table-turn a_number an_off_scale c a b = six-turn false false false false false false c
table-turn a_blank a_number c a b = six-turn false true false false false false c
table-turn a_blank a_blank c a b = six-turn false false false false false false c
table-turn a_blank an_off_scale c a b = six-turn false false false false false false c
table-turn an_off_scale a_number c a b = six-turn false false false false false false c
table-turn an_off_scale a_blank c a b = six-turn false false false false false false c
table-turn an_off_scale an_off_scale c a b = six-turn false false false false false false c

-- turning the sides turns the comparison
pub compares-turn : (c : Comparison) (a b : ℕ) → compares (turn c) a b ≡ compares c b a
compares-turn c a b = compares-table (turn c) a b ∙ table-turn (side_of a) (side_of b) c a b ∙ sym (compares-table c b a)

-- ---- the count

-- a count's cell compared with the number 0
number-count : (n : ℕ) → n ≤ 4096 → is_number (origin + n) ≡ true
number-count n h = rw (ne_eqb (origin + n) blank (λ e. omega arith), ne_eqb (origin + n) off_scale (λ e. omega arith))

pub count-some : (n : ℕ) → n ≤ 4096 → compares gt (origin + n) origin ≡ ltb 0 n
unfolding compares
count-some n h = rw (number-count n h) (go (ltb 0 n) refl)
  where
    go : (t : Bool) → ltb 0 n ≡ t → ltb origin (origin + n) ≡ t
    go true e = omega (arith, ltb-true, lt-ltb)
    go false e = omega (arith, ltb-false, le-ltb)

pub count_none : (n : ℕ) → n ≤ 4096 → compares eq (origin + n) origin ≡ not (ltb 0 n)
unfolding compares
count_none n h = rw (number-count n h) (go (ltb 0 n) refl)
  where
    go : (t : Bool) → ltb 0 n ≡ t → eqb (origin + n) origin ≡ not t
    go true e = ne_eqb (origin + n) origin (λ q. omega (arith, ltb-true))
    go false e = eq-eqb (origin + n) origin (omega (arith, ltb-false))
