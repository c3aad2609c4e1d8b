-- Adding a cell keeps what a tally says, and every aggregate is read off it. Assumes nothing.
use Prim.Native.Nat.{ℕ, suc, ◌+◌, ◌*◌, ◌-◌, ◌/◌, ◌%◌, ◌≤◌, ◌<◌, min, max}
use mathlib.Core.Path.{◌≡◌, refl, sym, ap, ◌∙◌, subst}
use mathlib.Core.Bool.{Bool, true, false, not, cond, ◌&&◌, ◌||◌}
use mathlib.Core.List.{List, [], ◌∷◌, ◌++◌, foldr, append-nil, append_assoc}
use native.Mathlib.Nat.{add_comm, add_assoc, min_comm, max_comm}
use native.Mathlib.Omega.{arith}
use lib.Dec.{eqb, ltb, leb}
use lib.ListN.{length, take, length-append}
use borrow.Author.Tests.{eqb-true, leb-true, ne_eqb, lt-ltb, le-leb}
use Rattle.algebra.specs.Lists.{filter, any, total}
use Rattle.algebra.specs.Cells.{Aggregate, count, over, Summary, sum, least, greatest, blank, off_scale, origin, reach, in_range, is_blank, needs_all, sum_of, summary, aggregate, aggregate_within}
use Rattle.algebra.specs.Plans.{Row}
use Rattle.algebra.proofs.Lists.{filter-length}
use Rattle.algebra.proofs.Cells.{eqb-sym}
use Rattle.algebra.proofs.Places.{next-less}
use Rattle.reading.specs.Tree.{aggregate_by}
use Rattle.reporting.specs.Sides.{side_cell, FoundInside, meets, found_cells, found_cell}
use Rattle.reporting.specs.Tallies.{not_blank, sum_in, Tallies, Bounded, lesser, added, tally_summary, tallied}
use Rattle.reporting.specs.declared.gather.Tally.{Tally}
use Rattle.reporting.specs.declared.side.Found.{Found}
use Rattle.reporting.proofs.Meets.{cells_met, cells-not_met, cells-few, cells-none}

-- ---- one element more at the end
module _ (op : ℕ → ℕ → ℕ) (assoc : (a b c : ℕ) → op (op a b) c ≡ op a (op b c)) (comm : (a b : ℕ) → op a b ≡ op b a) where
  foldr-last : (z x : ℕ) (xs : List ℕ) → foldr op z (xs ++ (x ∷ [])) ≡ op x (foldr op z xs)
  foldr-last z x [] = refl
  foldr-last z x (y ∷ xs) =
      ap (op y) (foldr-last z x xs)
      ∙ sym (assoc y x (foldr op z xs))
      ∙ ap (λ (v : ℕ). op v (foldr op z xs)) (comm y x)
      ∙ assoc x y (foldr op z xs)

module _ {A : Type 0} (p : A → Bool) where
  filter-last : (x : A) (xs : List A) → filter p (xs ++ (x ∷ [])) ≡ filter p xs ++ cond (p x) (x ∷ []) []
  filter-last x [] = refl
  filter-last x (y ∷ xs) =
      elim (p y) as (λ b. cond b (y ∷ filter p (xs ++ (x ∷ []))) (filter p (xs ++ (x ∷ []))) ≡ cond b (y ∷ filter p xs) (filter p xs) ++ cond (p x) (x ∷ []) []) [
        | true ↦ ap (λ (l : List A). y ∷ l) (filter-last x xs)
        | false ↦ filter-last x xs
      ]

or_swap : (a b c : Bool) → (a || (b || c)) ≡ (b || (a || c))
or_swap true true c = refl
or_swap true false c = refl
or_swap false b c = refl

any_last : (p : ℕ → Bool) (x : ℕ) (xs : List ℕ) → any p (xs ++ (x ∷ [])) ≡ (p x || any p xs)
any_last p x [] = refl
any_last p x (y ∷ xs) = ap (λ (b : Bool). p y || b) (any_last p x xs) ∙ or_swap (p y) (p x) (any p xs)

min_assoc : (a b c : ℕ) → min (min a b) c ≡ min a (min b c)
min_assoc a b c = omega arith

max_assoc : (a b c : ℕ) → max (max a b) c ≡ max a (max b c)
max_assoc a b c = omega arith

length_last : (x : ℕ) (xs : List ℕ) → length (xs ++ (x ∷ [])) ≡ length xs + 1
length_last x xs = length-append xs (x ∷ [])

least-last : (x : ℕ) (xs : List ℕ) → summary least (xs ++ (x ∷ [])) ≡ lesser (length xs) (summary least xs) x
least-last x [] = refl
least-last x (y ∷ xs) = rw (ne_eqb (suc (length xs)) 0 (λ e. omega arith)) (foldr-last min min_assoc min_comm y x xs)

-- ---- the two laws of a tally

-- adding a cell keeps it
pub tallies_add : (xs : List ℕ) (t : Tally) (x : ℕ) → Tallies xs t → Tallies (xs ++ (x ∷ [])) (added t x)
unfolding added
tallies_add xs t x says = record {
  counted = ap (λ (n : ℕ). n + 1) says.counted ∙ sym (length_last x xs);
  scaled = ap (λ (b : Bool). eqb off_scale x || b) says.scaled ∙ sym (any_last (eqb off_scale) x xs);
  numbered = (go (eqb x blank) refl).0;
  summed = (go (eqb x blank) refl).1;
  lowest = (go (eqb x blank) refl).2;
  highest = (go (eqb x blank) refl).3;
}
  where
    ns : List ℕ
    ns = not_blank xs

    last : List ℕ
    last = not_blank (xs ++ (x ∷ []))

    Says : Bool → Type 0
    Says b =
        (cond b t.numbers (t.numbers + 1) ≡ length last)
        × (t.low + x % 4294967296 + 4294967296 * (t.high + x / 4294967296) ≡ total last)
        × (cond b t.least (lesser t.numbers t.least x) ≡ summary least last)
        × (max x t.greatest ≡ summary greatest last)

    -- the halves of one cell more, added each to its own sum
    joined : t.low + x % 4294967296 + 4294967296 * (t.high + x / 4294967296) ≡ x + sum_in t
    joined = omega arith

    go : (b : Bool) → eqb x blank ≡ b → Says b
    go true e =
        let same : last ≡ ns = filter-last (λ y. not (eqb y blank)) x xs ∙ ap (λ (b : Bool). ns ++ cond (not b) (x ∷ []) []) e ∙ append-nil ns in
        let none : x ≡ 0 = eqb-true x blank e in (
          says.numbered ∙ sym (ap length same),
          omega (arith, joined, says.summed, ap total same),
          says.lowest ∙ sym (ap (summary least) same),
          omega (arith, says.highest, ap (summary greatest) same),
        )
    go false e =
        let more : last ≡ ns ++ (x ∷ []) = filter-last (λ y. not (eqb y blank)) x xs ∙ ap (λ (b : Bool). ns ++ cond (not b) (x ∷ []) []) e in (
          ap (λ (n : ℕ). n + 1) says.numbered ∙ sym (ap length more ∙ length_last x ns),
          joined ∙ ap (λ (s : ℕ). x + s) says.summed ∙ sym (ap total more ∙ foldr-last ◌+◌ add_assoc add_comm 0 x ns),
          (λ j. lesser (says.numbered j) (says.lowest j) x) ∙ sym (ap (summary least) more ∙ least-last x ns),
          ap (max x) says.highest ∙ sym (ap (summary greatest) more ∙ foldr-last max max_assoc max_comm blank x ns),
        )

-- a blank is only counted
pub added-blank : (t : Tally) → record { rows = t.rows + 1; numbers = t.numbers; low = t.low; high = t.high; least = t.least; greatest = t.greatest; off = t.off } ≡ added t blank
unfolding added
added-blank t =
    let l : t.low ≡ t.low + 0 % 4294967296 = omega arith in
    let h : t.high ≡ t.high + 0 / 4294967296 = omega arith in
    let g : t.greatest ≡ max 0 t.greatest = omega arith in
    λ j. record { rows = t.rows + 1; numbers = t.numbers; low = l j; high = h j; least = t.least; greatest = g j; off = t.off }

-- any other cell, with what the code finds for it
pub added-cell : (t : Tally) (x lowest highest : ℕ) (off : Bool) → (x ≡ blank → ⊥) → lowest ≡ lesser t.numbers t.least x → highest ≡ max x t.greatest → off ≡ (eqb x off_scale || t.off)
    → record { rows = t.rows + 1; numbers = t.numbers + 1; low = t.low + x % 4294967296; high = t.high + x / 4294967296; least = lowest; greatest = highest; off = off } ≡ added t x
unfolding added
added-cell t x lowest highest off h l g o =
    let n : t.numbers + 1 ≡ cond (eqb x blank) t.numbers (t.numbers + 1) = rw (ne_eqb x blank h) in
    let m : lowest ≡ cond (eqb x blank) t.least (lesser t.numbers t.least x) = rw (ne_eqb x blank h) l in
    let p : off ≡ (eqb off_scale x || t.off) = o ∙ ap (λ (b : Bool). b || t.off) (eqb-sym x off_scale) in
    λ j. record { rows = t.rows + 1; numbers = n j; low = t.low + x % 4294967296; high = t.high + x / 4294967296; least = m j; greatest = g j; off = p j }

-- there are fewer numbers than cells where one is blank
fewer-numbers : (xs : List ℕ) → ltb (length (not_blank xs)) (length xs) ≡ any is_blank xs
fewer-numbers [] = refl
fewer-numbers (x ∷ xs) =
    elim (is_blank x) as (λ b. ltb (length (cond (not b) (x ∷ not_blank xs) (not_blank xs))) (suc (length xs)) ≡ (b || any is_blank xs)) [
      | true ↦ lt-ltb (length (not_blank xs)) (suc (length xs)) (omega (arith, filter-length (λ y. not (is_blank y)) xs))
      | false ↦ sym (next-less (length (not_blank xs)) (length xs)) ∙ fewer-numbers xs
    ]

-- the sum of n numbers whose cells add up to s, by the cell that lies as far from s as one zero from n zeros
pub sum-in-range : (n s cell : ℕ) → cell + n * origin ≡ s + origin → sum_of n s ≡ cond (in_range cell) cell off_scale
sum-in-range n s cell e =
    let low : leb (n * origin) (s + reach) ≡ leb (origin - reach) cell = same_test (n * origin) (s + reach) (origin - reach) cell (λ h. omega (arith, e)) (λ h. omega (arith, e)) in
    let high : leb s (n * origin + reach) ≡ leb cell (origin + reach) = same_test s (n * origin + reach) cell (origin + reach) (λ h. omega (arith, e)) (λ h. omega (arith, e)) in
    let is : s + origin - n * origin ≡ cell = omega (arith, e) in
    λ j. cond (low j && high j) (is j) off_scale
  where
    same_test : (a b c d : ℕ) → (a ≤ b → c ≤ d) → (c ≤ d → a ≤ b) → leb a b ≡ leb c d
    same_test a b c d f g = go (leb a b) refl
      where
        go : (t : Bool) → leb a b ≡ t → t ≡ leb c d
        go true h = sym (le-leb c d (f (leb-true a b h)))
        go false h = by-other (leb c d) refl
          where
            by-other : (u : Bool) → leb c d ≡ u → false ≡ u
            by-other true k = sym h ∙ le-leb a b (g (leb-true c d k))
            by-other false k = refl

-- every aggregate is read off it
pub tallies_read : (g : Aggregate) (xs : List ℕ) (t : Tally) → Tallies xs t → aggregate g xs ≡ tallied g t
unfolding aggregate_within tallied
tallies_read count xs t says = sym (ap (λ (n : ℕ). origin + n) says.counted)
tallies_read (over k c) xs t says =
    let missing : ltb t.numbers t.rows ≡ any is_blank xs = (λ j. ltb (says.numbered j) (says.counted j)) ∙ fewer-numbers xs in
    sym (λ j. cond (says.scaled j) off_scale (cond (needs_all k && missing j) blank (summary-read k j)))
  where
    summary-read : (k : Summary) → tally_summary k t ≡ summary k (not_blank xs)
    summary-read sum = λ j. sum_of (says.numbered j) (says.summed j)
    summary-read least = says.lowest
    summary-read greatest = says.highest

-- ---- rows: what is measured of all that are met is what was added so far, and then what is measured of those that are left
pub record Tallying (f : Found) (l : Row) (all rows : List Row) (t : Tally) : Type 0 where
  pub cells : List ℕ
  pub says : Tallies cells t
  pub bounded : Bounded t
  pub so_far : found_cells f l all ≡ cells ++ found_cells f l rows

module _ (f : Found) (l : Row) (all : List Row) where
  pub tallying_start : (rows : List Row) (t : Tally) → found_cells f l all ≡ found_cells f l rows → Tallies [] t → Bounded t → Tallying f l all rows t
  tallying_start rows t e says bounded = record { cells = []; says = says; bounded = bounded; so_far = e }

  module _ (rows : List Row) (t : Tally) (p : Tallying f l all rows t) where
    tallying_count : t.rows + length (found_cells f l rows) ≤ length all
    tallying_count =
        let both : length (found_cells f l all) ≡ length p.cells + length (found_cells f l rows) = ap length p.so_far ∙ length-append p.cells (found_cells f l rows) in
        omega (arith, p.says.counted, cells-few f l all)

    -- no more rows than there are
    pub tallying_few : t.rows ≤ length all
    tallying_few = omega (arith, tallying_count)

    -- no row is left: the aggregate is read off
    pub tallying_done : rows ≡ [] → (r : ℕ) → ((column : ℕ) → r ≡ tallied (aggregate_by f.aggregate column) t) → r ≡ found_cell f l all
    tallying_done none r e =
        let whole : found_cells f l all ≡ p.cells = p.so_far ∙ ap (λ (xs : List ℕ). p.cells ++ xs) (ap (found_cells f l) none ∙ cells-none f l) ∙ append-nil p.cells in
        e 0 ∙ sym (ap (aggregate (aggregate_by f.aggregate 0)) whole ∙ tallies_read (aggregate_by f.aggregate 0) p.cells t p.says)

    -- the row at hand is met, or it is not
    module _ (w v : ℕ) (inside : FoundInside f w v) (rest : List Row) (r : Row) (first : rows ≡ take v r ∷ rest) where
      pub tallying_room : meets f l r ≡ true → t.rows < length all
      tallying_room h = omega (arith, tallying_count, ap length (cells_met f l w v inside rows rest r first h))

      pub tallying_met : meets f l r ≡ true → (t' : Tally) → t' ≡ added t (side_cell f.measured l r) → Bounded t' → Tallying f l all rest t'
      tallying_met h t' e bounded =
          let x : ℕ = side_cell f.measured l r in
          record {
            cells = p.cells ++ (x ∷ []);
            says = subst (λ (s : Tally). Tallies (p.cells ++ (x ∷ [])) s) (sym e) (tallies_add p.cells t x p.says);
            bounded = bounded;
            so_far =
                p.so_far ∙ ap (λ (xs : List ℕ). p.cells ++ xs) (cells_met f l w v inside rows rest r first h)
                ∙ sym (append_assoc p.cells (x ∷ []) (found_cells f l rest));
          }

      pub tallying_not_met : meets f l r ≡ false → (t' : Tally) → t' ≡ t → Tallying f l all rest t'
      tallying_not_met h t' e =
          subst (λ (s : Tally). Tallying f l all rest s) (sym e)
          (record {
            cells = p.cells;
            says = p.says;
            bounded = p.bounded;
            so_far = p.so_far ∙ ap (λ (xs : List ℕ). p.cells ++ xs) (cells-not_met f l w v inside rows rest r first h);
          })
