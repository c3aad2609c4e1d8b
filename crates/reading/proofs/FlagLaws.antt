-- Laws of flags and of the lists that they stand for: only the members count. Assumes nothing.
use Rattle.std.specs.Prelude.{if◌then◌else◌}
use Prim.Native.Nat.{ℕ, ◌+◌, ◌≤◌, ◌<◌}
use native.Mathlib.Omega.{arith}
use native.Mathlib.Decide.{ℕ_discrete}
use native.Mathlib.Numerals.{add-one}
use mathlib.Core.Path.{◌≡◌, refl, sym, ap, ◌∙◌}
use mathlib.Core.Bool.{Bool, true, false, not, ◌&&◌, ◌||◌, and-true, and-false}
use mathlib.Core.List.{List, [], ◌∷◌, ◌++◌, append_assoc, append-nil}
use lib.Dec.{eqb}
use lib.ListN.{length, get_or, set, length-set, take, drop, drop_of_length-le, replicate, get_or-replicate}
use lib.Seq.{get_or-set_same, get_or-set_other, take-suc, drop-cons}
use borrow.Author.Tests.{eq-eqb, ne_eqb}
use Rattle.algebra.specs.Lists.{member, minus, unique, within}
use Rattle.algebra.specs.Refusals.{list_in_view}
use Rattle.reading.specs.Flags.{Flags, Adds, Flagged, Sees, SeesOnce}

-- ---- lists with the same members

pub record SameMembers (xs ys : List ℕ) : Type 0 where
  pub at : (x : ℕ) → member x xs ≡ member x ys

or_assoc : (a b c : Bool) → (a || (b || c)) ≡ ((a || b) || c)
or_assoc true b c = refl
or_assoc false b c = refl

or_swap : (a b : Bool) → (a || b) ≡ (b || a)
or_swap true true = refl
or_swap true false = refl
or_swap false true = refl
or_swap false false = refl

pub member_append : (x : ℕ) (xs ys : List ℕ) → member x (xs ++ ys) ≡ (member x xs || member x ys)
member_append x [] ys = refl
member_append x (a ∷ xs) ys = rw (member_append x xs ys) (or_assoc (eqb x a) (member x xs) (member x ys))

pub members_same : (xs : List ℕ) → SameMembers xs xs
members_same xs = record { at = λ x. refl }

-- the order of two parts does not count
pub members_swap : (xs ys : List ℕ) → SameMembers (xs ++ ys) (ys ++ xs)
members_swap xs ys = record { at = λ x. member_append x xs ys ∙ (or_swap (member x xs) (member x ys) ∙ sym (member_append x ys xs)) }

pub members-before : (cs : List ℕ) {xs ys : List ℕ} → SameMembers xs ys → SameMembers (xs ++ cs) (ys ++ cs)
members-before cs {xs} {ys} s =
    record { at = λ x. member_append x xs cs ∙ (ap (λ b. b || member x cs) (s.at x) ∙ sym (member_append x ys cs)) }

pub flags_same : {flags xs ys : List ℕ} → Flags flags xs → SameMembers xs ys → Flags flags ys
flags_same f s = record { long = f.long; right = λ k h. f.right k h ∙ ap (λ b. if b then 1 else 0) (s.at k) }

-- ---- flags that are added

pub adds_none : (flags : List ℕ) → Adds flags [] flags
adds_none flags = record { after = λ ids f. f }

pub adds_same : {flags xs ys r : List ℕ} → Adds flags xs r → SameMembers xs ys → Adds flags ys r
adds_same a s = record { after = λ ids f. flags_same (a.after ids f) (members-before ids s) }

pub adds_then : {flags xs ys g r : List ℕ} → Adds flags xs g → Adds g ys r → Adds flags (ys ++ xs) r
adds_then {flags} {xs} {ys} a b = record { after = λ ids f. rw append_assoc (b.after (xs ++ ids) (a.after ids f)) }

-- no flag is set for no id
pub flags_none : Flags (replicate 256 0) []
flags_none = record { long = refl; right = λ k l. get_or-replicate 256 k 0 0 l }

-- the flags that were added to none
pub adds-first : {ids r : List ℕ} → Adds (replicate 256 0) ids r → Flags r ids
adds-first {ids} a = rw append-nil at (a.after [] flags_none)

-- ---- one flag

flag_0 : (b : Bool) (x : ℕ) → x ≡ (if b then 1 else 0) → (x ≡ 1 → ⊥) → b ≡ false
flag_0 true x e z = absurd (z e)
flag_0 false x e z = refl

flag_1 : (b : Bool) (x : ℕ) → x ≡ (if b then 1 else 0) → x ≡ 1 → b ≡ true
flag_1 true x e z = refl
flag_1 false x e z = absurd (omega arith)

module _ (flags ids : List ℕ) (f : Flags flags ids) (x : ℕ) (h : x < 256) where
  pub flag_absent : (get_or flags x 0 ≡ 1 → ⊥) → member x ids ≡ false
  flag_absent z = flag_0 (member x ids) _ (f.right x h) z

  pub flag_present : get_or flags x 0 ≡ 1 → member x ids ≡ true
  flag_present z = flag_1 (member x ids) _ (f.right x h) z

  flag-set : Flags (set flags x 1) (x ∷ ids)
  flag-set = record { long = length-set flags x 1 ∙ f.long; right = λ k l. at k l (ℕ_discrete k x) }
    where
      at : (k : ℕ) → k < 256 → Dec (k ≡ x) → get_or (set flags x 1) k 0 ≡ (if member k (x ∷ ids) then 1 else 0)
      at k l (yes e) = let q : x < length flags = omega (arith, f.long) in rw (e, eq-eqb x x refl, get_or-set_same flags x 1 0 q)
      at k l (no e) = rw (get_or-set_other flags x k 1 0 e, ne_eqb _ _ e) (f.right k l)

-- a flag, and whether its id is a member
pub flag_decides : (flags ids : List ℕ) → Flags flags ids → (x : ℕ) → x < 256 → eqb (get_or flags x 0) 1 ≡ member x ids
flag_decides flags ids f x h = by (member x ids) (f.right x h)
  where
    by : (b : Bool) → get_or flags x 0 ≡ (if b then 1 else 0) → eqb (get_or flags x 0) 1 ≡ b
    by true e = eq-eqb (get_or flags x 0) 1 e
    by false e = ne_eqb (get_or flags x 0) 1 (λ z. let q : ◌≡◌ {A = ℕ} 0 1 = sym e ∙ z in omega arith)

-- a flag that is set
pub flag_adds : (flags : List ℕ) (x : ℕ) → x < 256 → Adds flags (x ∷ []) (set flags x 1)
flag_adds flags x h = record { after = λ ids f. flag-set flags ids f x h }

-- ---- a flag that is taken away

pub member-minus : (k x : ℕ) (ids : List ℕ) → member k (minus ids (x ∷ [])) ≡ (not (eqb k x) && member k ids)
member-minus k x [] = sym (and-false (not (eqb k x)))
member-minus k x (y ∷ ids) = by (ℕ_discrete y x) (ℕ_discrete k y) (member-minus k x ids)
  where
    by : Dec (y ≡ x) → Dec (k ≡ y) → member k (minus ids (x ∷ [])) ≡ (not (eqb k x) && member k ids) → member k (minus (y ∷ ids) (x ∷ [])) ≡ (not (eqb k x) && member k (y ∷ ids))
    by (yes e) (yes g) r = rw (eq-eqb y x e, r, eq-eqb k x (g ∙ e))
    by (yes e) (no g) r = rw (eq-eqb y x e, r, ne_eqb k y g)
    by (no e) (yes g) r = rw (ne_eqb y x e, eq-eqb k y g, ne_eqb k x (λ q. e (sym g ∙ q)))
    by (no e) (no g) r = rw (ne_eqb y x e, ne_eqb k y g, r)

pub flag_cleared : (flags ids : List ℕ) → Flags flags ids → (x : ℕ) → x < 256 → Flags (set flags x 0) (minus ids (x ∷ []))
flag_cleared flags ids f x h = record { long = length-set flags x 0 ∙ f.long; right = λ k l. at k l (ℕ_discrete k x) }
  where
    at : (k : ℕ) → k < 256 → Dec (k ≡ x) → get_or (set flags x 0) k 0 ≡ (if member k (minus ids (x ∷ [])) then 1 else 0)
    at k l (yes e) = let q : x < length flags = omega (arith, f.long) in rw (member-minus k x ids, e, eq-eqb x x refl, get_or-set_same flags x 0 0 q)
    at k l (no e) = rw (get_or-set_other flags x k 0 0 e, member-minus k x ids, ne_eqb _ _ e) (f.right k l)

-- ---- a list in view, name by name

within-minus : (x : ℕ) (names ids : List ℕ) → within names (minus ids (x ∷ [])) ≡ (not (member x names) && within names ids)
within-minus x [] ids = refl
within-minus x (n ∷ names) ids = by (ℕ_discrete x n) (within-minus x names ids)
  where
    turn : (a b c : Bool) → (a && (b && c)) ≡ (b && (a && c))
    turn true true c = refl
    turn true false c = refl
    turn false true c = refl
    turn false false c = refl

    by : Dec (x ≡ n) → within names (minus ids (x ∷ [])) ≡ (not (member x names) && within names ids) → within (n ∷ names) (minus ids (x ∷ [])) ≡ (not (member x (n ∷ names)) && within (n ∷ names) ids)
    by (yes e) r = rw (member-minus n x ids, eq-eqb x n e, eq-eqb n x (sym e))
    by (no e) r = rw (member-minus n x ids, ne_eqb x n e, ne_eqb n x (λ q. e (sym q)), r) (turn (member n ids) (not (member x names)) (within names ids))

pub list-more : (x : ℕ) (names ids : List ℕ) → member x ids ≡ true → list_in_view (x ∷ names) ids ≡ list_in_view names (minus ids (x ∷ []))
list-more x names ids m = rw (m, within-minus x names ids) (turn (member x names) (unique names) (within names ids))
  where
    turn : (a b c : Bool) → ((not a && b) && c) ≡ (b && (not a && c))
    turn true true c = refl
    turn true false c = refl
    turn false true c = refl
    turn false false c = refl

pub list_absent : (x : ℕ) (names ids : List ℕ) → member x ids ≡ false → list_in_view (x ∷ names) ids ≡ false
list_absent x names ids m = rw (m, and-false)

-- ---- names that the flags decide

pub sees_none : (flags : List ℕ) → Sees flags [] true
sees_none flags = record { decides = λ ids f. refl }

pub sees_one : {flags : List ℕ} {id : ℕ} {r : Bool} → Flagged flags id r → Sees flags (id ∷ []) r
sees_one {flags} {id} g = record { decides = λ ids f. g.decides ids f ∙ sym (and-true (member id ids)) }

pub sees_absent : {flags : List ℕ} {id : ℕ} {r : Bool} → Flagged flags id r → r ≡ false → (names : List ℕ) → Sees flags (id ∷ names) false
sees_absent g e names = record { decides = λ ids f. rw (sym (g.decides ids f) ∙ e) }

pub sees_more : {flags names : List ℕ} {id : ℕ} {q r : Bool} → Flagged flags id q → q ≡ true → Sees flags names r → Sees flags (id ∷ names) r
sees_more g e s = record { decides = λ ids f. rw (sym (g.decides ids f) ∙ e) (s.decides ids f) }

pub sees_once-none : (flags : List ℕ) → SeesOnce flags [] true
sees_once-none flags = record { decides = λ ids f. refl }

-- ---- the first ids of a list

-- one id more
pub list-adds : {flags marks : List ℕ} (list : List ℕ) (j : ℕ) → j < length list → get_or list j 0 < 256 → Adds flags (take j list) marks
    → Adds flags (take (j + 1) list) (set marks (get_or list j 0) 1)
list-adds {flags} {marks} list j l h a =
    adds_same (adds_then a (flag_adds marks (get_or list j 0) h)) (rw (add-one j, take-suc list j 0 l) (members_swap (get_or list j 0 ∷ []) (take j list)))

-- What the flags that are left decide of the ids from place j on, as the flags given do of the whole list.
pub record ListLeft (flags list left : List ℕ) (j : ℕ) : Type 0 where
  pub decides : (ids : List ℕ) → Flags flags ids → (rest : List ℕ) × Flags left rest × (list_in_view list ids ≡ list_in_view (drop j list) rest)

pub ids_next : (list : List ℕ) (j : ℕ) → j < length list → drop j list ≡ get_or list j 0 ∷ drop (j + 1) list
ids_next list j l = rw (drop-cons list j 0 l, add-one j)

module _ {flags list left : List ℕ} {j : ℕ} (s : ListLeft flags list left j) where
  module _ (l : j < length list) (k : get_or list j 0 < 256) where
    pub left_absent : (get_or left (get_or list j 0) 0 ≡ 1 → ⊥) → SeesOnce flags list false
    left_absent z = record {
      decides = λ ids f.
          let (rest, g, e) = s.decides ids f in
          sym (e ∙ (ap (λ xs. list_in_view xs rest) (ids_next list j l) ∙ list_absent (get_or list j 0) (drop (j + 1) list) rest (flag_absent left rest g (get_or list j 0) k z)));
    }

    pub left-more : get_or left (get_or list j 0) 0 ≡ 1 → ListLeft flags list (set left (get_or list j 0) 0) (j + 1)
    left-more z = record {
      decides = λ ids f.
          let (rest, g, e) = s.decides ids f in (
            minus rest (get_or list j 0 ∷ []),
            flag_cleared left rest g (get_or list j 0) k,
            e ∙ (ap (λ xs. list_in_view xs rest) (ids_next list j l) ∙ list-more (get_or list j 0) (drop (j + 1) list) rest (flag_present left rest g (get_or list j 0) k z)),
          );
    }

  pub left_end : length list ≤ j → SeesOnce flags list true
  left_end q = record {
    decides = λ ids f.
        let (rest, g, e) = s.decides ids f in
        sym (e ∙ ap (λ xs. list_in_view xs rest) (drop_of_length-le list q));
  }
