-- Laws of introduced ids and of their flags. Assumes nothing.
use Rattle.std.specs.Prelude.{Option, if◌then◌else◌}
use Prim.Native.Nat.{ℕ, ◌+◌, ◌-◌, ◌≤◌, ◌<◌}
use native.Mathlib.Omega.{arith}
use native.Mathlib.Decide.{ℕ_discrete}
use mathlib.Core.Path.{◌≡◌, refl, sym, ap, ap₂, ◌∙◌}
use mathlib.Core.Bool.{Bool, true, false, not, ◌&&◌, ◌||◌, and-false, false≢true, and-eq-true_iff}
use mathlib.Core.List.{List, [], ◌∷◌, ◌++◌, append_assoc, append-nil}
use Rattle.std.proofs.Common.{None, Some}
use lib.ListN.{length, get_or, set, length-set}
use lib.Seq.{get_or-set_same, get_or-set_other}
use lib.Dec.{eqb}
use borrow.Author.Tests.{lt-ltb, le-ltb, eq-eqb, ne_eqb}
use Rattle.algebra.specs.Lists.{all, member, unique, upward}
use Rattle.algebra.specs.Plans.{Tables}
use Rattle.algebra.specs.Refusals.{byte, once, found}
use Rattle.algebra.proofs.Cells.{eqb-sym}
use Rattle.algebra.proofs.Lists.{all_append, unique-left}
use Rattle.reading.specs.Tree.{operator_by, operator_at}
use Rattle.reading.specs.Flags.{Flags, Marks}
use Rattle.reading.specs.Nodes.{key_of, operator_new, ids_of}
use Rattle.reading.specs.declared.kinds.Kind.{Kind}
use Rattle.reading.specs.declared.kinds.Kind.TheVariants.{Scan, Fold, Pair, Group}
use Rattle.reading.specs.declared.plan.Node.{Node}
use Rattle.reading.proofs.Operators.{each_kind}
use Rattle.reading.proofs.Places.{upward_append, upward-more, all-joined, flat_map-joined}

-- ---- members

or_swap : (a b c : Bool) → (a || (b || c)) ≡ (b || (a || c))
or_swap true true c = refl
or_swap true false c = refl
or_swap false b c = refl

-- an id between two lists of them
pub member-between : (k : ℕ) (xs : List ℕ) (x : ℕ) (ys : List ℕ) → member k (xs ++ (x ∷ ys)) ≡ (eqb k x || member k (xs ++ ys))
member-between k [] x ys = refl
member-between k (z ∷ xs) x ys = rw (member-between k xs x ys) (or_swap (eqb k z) (eqb k x) (member k (xs ++ ys)))

pub member-last : (k : ℕ) (xs : List ℕ) (x : ℕ) → member k (xs ++ (x ∷ [])) ≡ (eqb k x || member k xs)
member-last k xs x = member-between k xs x [] ∙ rw (append-nil xs)

-- one id more of a run of them
pub member-upward : (k n first : ℕ) (ids : List ℕ) → member k (upward (n + 1) first ++ ids) ≡ (eqb k (first + n) || member k (upward n first ++ ids))
member-upward k n first ids = rw (upward-more, append_assoc) (member-between k (upward n first) (first + n) ids)

-- ---- each id once

unique-step : (a b c d : Bool) → (not (c || a) && (b && not d)) ≡ ((not a && b) && not (c || d))
unique-step true b true d = refl
unique-step true b false d = refl
unique-step false b true d = sym (and-false b)
unique-step false b false d = refl

unique-last : (xs : List ℕ) (x : ℕ) → unique (xs ++ (x ∷ [])) ≡ unique xs && not (member x xs)
unique-last [] x = refl
unique-last (y ∷ xs) x = rw (member-last y xs x, unique-last xs x, eqb-sym y x) (unique-step (member y xs) (unique xs) (eqb x y) (member x xs))

-- the last id is new and at most 255, and each of the others stands once
once_last : (xs : List ℕ) (x : ℕ) → once (xs ++ (x ∷ [])) ≡ (unique xs && not (member x xs)) && (all byte xs && (byte x && true))
unfolding once
once_last xs x = ap₂ ◌&&◌ (unique-last xs x) (all-joined byte xs (x ∷ []))

pub once-fresh : (xs : List ℕ) (x : ℕ) → x < 256 → member x xs ≡ false → once xs ≡ true → once (xs ++ (x ∷ [])) ≡ true
unfolding once
once-fresh xs x h m o =
    let (u, a) = (and-eq-true_iff (unique xs) (all byte xs)).0 o in
    once_last xs x ∙ rw (u, m, a, lt-ltb _ _ h)

pub once-above : (xs : List ℕ) (x : ℕ) → 256 ≤ x → once (xs ++ (x ∷ [])) ≡ false
once-above xs x h = once_last xs x ∙ rw (le-ltb _ _ h, and-false, and-false)

pub once-twice : (xs : List ℕ) (x : ℕ) → member x xs ≡ true → once (xs ++ (x ∷ [])) ≡ false
once-twice xs x m = once_last xs x ∙ rw (m, and-false)

once-front : (xs ys : List ℕ) → once (xs ++ ys) ≡ true → once xs ≡ true
unfolding once
once-front xs ys h =
    let (u, a) = (and-eq-true_iff (unique (xs ++ ys)) (all byte (xs ++ ys))).0 h in
    (and-eq-true_iff (unique xs) (all byte xs)).1 (unique-left xs ys u, (all_append byte xs ys a).0)

-- ids that do not stand once still do not where more follow
pub once-stays : (xs ys : List ℕ) → once xs ≡ false → once (xs ++ ys) ≡ false
once-stays xs ys h = (elim (once (xs ++ ys)) as (λ b. once (xs ++ ys) ≡ b → b ≡ false) [ true ↦ λ e. absurd (false≢true (sym h ∙ once-front xs ys e)) | false ↦ λ e. refl ]) refl

-- one id more of a run
pub run_more : (ids : List ℕ) (first k : ℕ) → ids ++ upward (k + 1) first ≡ (ids ++ upward k first) ++ ((first + k) ∷ [])
run_more ids first k = rw (upward-more, append_assoc)

pub run-stays : (ids : List ℕ) (first k j : ℕ) → k ≤ j → once (ids ++ upward k first) ≡ false → once (ids ++ upward j first) ≡ false
run-stays ids first k j h o =
    let q : j ≡ k + (j - k) = omega arith in
    rw (q, upward_append, ← append_assoc) (once-stays (ids ++ upward k first) (upward (j - k) (first + k)) o)

-- ---- flags

flag_0 : (b : Bool) (x : ℕ) → x ≡ (if b then 1 else 0) → x ≡ 0 → b ≡ false
flag_0 true x e z = absurd (omega arith)
flag_0 false x e z = refl

flag_1 : (b : Bool) (x : ℕ) → x ≡ (if b then 1 else 0) → (x ≡ 0 → ⊥) → b ≡ true
flag_1 true x e z = refl
flag_1 false x e z = absurd (z e)

module _ {flags ids : List ℕ} (f : Flags flags ids) (x : ℕ) where
  pub flag_clear : x < 256 → get_or flags x 0 ≡ 0 → member x ids ≡ false
  flag_clear h z = flag_0 (member x ids) _ (f.right x h) z

  pub flag_taken : x < 256 → (get_or flags x 0 ≡ 0 → ⊥) → member x ids ≡ true
  flag_taken h z = flag_1 (member x ids) _ (f.right x h) z

  -- a flag set, for ids that have x besides
  pub flag-set : x < 256 → {more : List ℕ} → ((k : ℕ) → member k more ≡ (eqb k x || member k ids)) → Flags (set flags x 1) more
  flag-set h {more} m = record { long = length-set flags x 1 ∙ f.long; right = λ k l. rw (m k) (at k l (ℕ_discrete k x)) }
    where
      at : (k : ℕ) → k < 256 → Dec (k ≡ x) → get_or (set flags x 1) k 0 ≡ (if eqb k x || member k ids then 1 else 0)
      at k l (yes e) = let q : x < length flags = omega (arith, f.long) in rw (e, eq-eqb x x refl, get_or-set_same flags x 1 0 q)
      at k l (no e) = rw (get_or-set_other flags x k 1 0 e, ne_eqb _ _ e) (f.right k l)

  -- an id above 255 has no flag
  pub flag_above : 256 ≤ x → {more : List ℕ} → ((k : ℕ) → member k more ≡ (eqb k x || member k ids)) → Flags flags more
  flag_above h {more} m = record { long = f.long; right = λ k l. rw (m k, ne_eqb k x (λ e. omega arith)) (f.right k l) }

-- ---- marking one run of ids after another

pub marks_failed : {flags xs : List ℕ} → Marks flags xs None → (ys : List ℕ) → Marks flags (xs ++ ys) None
marks_failed {flags} {xs} m ys =
    record { after = λ ids f o. ap once (sym (append_assoc ids xs ys)) ∙ once-stays (ids ++ xs) ys (m.after ids f o) }

pub marks_joined : {flags xs marks ys : List ℕ} {q : Option (List ℕ)} → Marks flags xs (Some marks) → Marks marks ys q → Marks flags (xs ++ ys) q
marks_joined {flags} {xs} m k =
    record {
      after = λ ids f o.
          let a = m.after ids f o in
          rw (← append_assoc) (k.after (ids ++ xs) a.1 a.0);
    }

-- ---- the ids of the first nodes

module _ (T : Tables) (plan : List ℕ) where
  ids-split : (i j : ℕ) → i ≤ j → ids_of T plan j 0 ≡ ids_of T plan i 0 ++ ids_of T plan (j - i) i
  unfolding ids_of
  ids-split i j h =
      let q : j ≡ i + (j - i) = omega arith in
      let z : 0 + i ≡ i = omega arith in
      ap (λ (m : ℕ). ids_of T plan m 0) q ∙ rw (upward_append i (j - i) 0, z) (flat_map-joined (λ k. operator_new T (operator_at plan k)) (upward i 0) (upward (j - i) i))

  pub ids_more : (i : ℕ) → ids_of T plan (i + 1) 0 ≡ ids_of T plan i 0 ++ operator_new T (operator_at plan i)
  unfolding ids_of
  ids_more i =
      let q : i + 1 - i ≡ 1 = omega arith in
      ids-split i (i + 1) (omega arith)
      ∙ ap (λ (ids : List ℕ). ids_of T plan i 0 ++ ids) (ap (λ (m : ℕ). ids_of T plan m i) q ∙ append-nil (operator_new T (operator_at plan i)))

  pub ids_stay : (i j : ℕ) → i ≤ j → once (ids_of T plan i 0) ≡ false → once (ids_of T plan j 0) ≡ false
  ids_stay i j h o = ap once (ids-split i j h) ∙ once-stays (ids_of T plan i 0) (ids_of T plan (j - i) i) o

-- ---- by kind

-- Scan, Fold, Pair and Group alone introduce ids
pub new_none : (T : Tables) (node : Node) (k : Kind) → (k ≡ Scan → ⊥) → (k ≡ Fold → ⊥) → (k ≡ Pair → ⊥) → (k ≡ Group → ⊥)
    → operator_new T (operator_by k node) ≡ key_of k node ++ []
unfolding operator_by
new_none T node =
    each_kind (λ k. (k ≡ Scan → ⊥) → (k ≡ Fold → ⊥) → (k ≡ Pair → ⊥) → (k ≡ Group → ⊥) → operator_new T (operator_by k node) ≡ key_of k node ++ [])
    (λ a b c d. refl) (λ a b c d. absurd (a refl)) (λ a b c d. refl) (λ a b c d. refl) (λ a b c d. refl) (λ a b c d. refl) (λ a b c d. refl) (λ a b c d. refl)
    (λ a b c d. refl) (λ a b c d. refl) (λ a b c d. absurd (b refl)) (λ a b c d. refl) (λ a b c d. absurd (c refl)) (λ a b c d. absurd (d refl)) (λ a b c d. refl)
    (λ k a b c d. refl)

-- a Group alone introduces the id in byte 3
pub key_none : (node : Node) (k : Kind) → (k ≡ Group → ⊥) → key_of k node ≡ []
key_none node =
    each_kind (λ k. (k ≡ Group → ⊥) → key_of k node ≡ [])
    (λ a. refl) (λ a. refl) (λ a. refl) (λ a. refl) (λ a. refl) (λ a. refl) (λ a. refl) (λ a. refl)
    (λ a. refl) (λ a. refl) (λ a. refl) (λ a. refl) (λ a. refl) (λ a. absurd (a refl)) (λ a. refl) (λ k a. refl)

-- only a Scan needs a table
pub found-other : (T : Tables) (node : Node) (k : Kind) → (k ≡ Scan → ⊥) → found T (operator_by k node) ≡ true
unfolding operator_by
found-other T node =
    each_kind (λ k. (k ≡ Scan → ⊥) → found T (operator_by k node) ≡ true)
    (λ a. refl) (λ a. absurd (a refl)) (λ a. refl) (λ a. refl) (λ a. refl) (λ a. refl) (λ a. refl) (λ a. refl)
    (λ a. refl) (λ a. refl) (λ a. refl) (λ a. refl) (λ a. refl) (λ a. refl) (λ a. refl) (λ k a. refl)
