-- A stay note's two sequences have a first difference, and the length of their common beginning is its position. Assumes nothing.
use Prim.Native.Nat.{ℕ, zero, suc, ◌≤◌, ◌<◌}
use mathlib.Core.Bool.{Bool, true, false, cond, true≢false}
use mathlib.Core.Path.{◌≡◌, refl, sym, ap, ◌∙◌, subst}
use mathlib.Core.Logic.{◌⊎◌, inl, inr}
use mathlib.Core.List.{List, [], ◌∷◌}
use mathlib.Core.Option.{Option, none, some, some-ne-none, none-ne-some, some-injective}
use native.Mathlib.Omega.{arith}
use lib.ListN.{length, get_elem?}
use borrow.Author.Tests.{not-true}
use Rattle.algebra.specs.Lists.{every, same, same_rows}
use Rattle.algebra.specs.Plans.{Row, Tables, is_plain, distinct, cross, semi, quant, fold, each, pair, Plan, leaf, one, two, eval}
use Rattle.algebra.specs.Places.{modify, look}
use Rattle.algebra.specs.Refusals.{passes}
use Rattle.algebra.specs.Rules.{Top, top, Only, only, another, only_of, when, outside, bare, u3_conditions, u3, u6_conditions, u6, u7, rule_of, unnest, fresh}
use Rattle.algebra.specs.Steps.{accepted}
use Rattle.algebra.specs.StayNotes.{Sequences, nothing, sequences_of, comparing, unsequenced, stays, noted, note_at, first_difference, SmallestDifference}
use Rattle.algebra.proofs.Lists.{every_true, same_true, same_rows-true, same_self}
use Rattle.algebra.proofs.Change.{OnSome, on-when, look-root, changed}

-- ---- the first difference

-- behind one equal row more it is one further
smallest-next : (x y : Row) (xs ys : List Row) (i : ℕ) → x ≡ y → SmallestDifference xs ys i → SmallestDifference (x ∷ xs) (y ∷ ys) (suc i)
smallest-next x y xs ys i e s = record { differ = s.differ; alike_before = before }
  where
    before : (j : ℕ) → j < suc i → get_elem? (x ∷ xs) j ≡ get_elem? (y ∷ ys) j
    before zero l = ap some e
    before (suc j) l = s.alike_before j (omega arith)

-- two sequences that are not the same have it
pub smallest-first : (xs ys : List Row) → same_rows xs ys ≡ false → SmallestDifference xs ys (first_difference xs ys)
smallest-first [] [] h = absurd (true≢false h)
smallest-first [] (y ∷ ys) h = record { differ = λ e. none-ne-some _ e; alike_before = λ i l. absurd (omega arith) }
smallest-first (x ∷ xs) [] h = record { differ = λ e. some-ne-none _ e; alike_before = λ i l. absurd (omega arith) }
smallest-first (x ∷ xs) (y ∷ ys) h =
    (elim (same x y) as (λ b. same x y ≡ b → SmallestDifference (x ∷ xs) (y ∷ ys) (first_difference (x ∷ xs) (y ∷ ys))) [
      | true ↦ λ e. rw e (smallest-next x y xs ys (first_difference xs ys) (same_true x y e) (smallest-first xs ys (rw e at h)))
      | false ↦ λ e. rw e (record {
        differ = λ z. true≢false (sym (subst (λ v. same x v ≡ true) (some-injective x y z) (same_self x)) ∙ e);
        alike_before = λ i l. absurd (omega arith);
      })
    ]) refl

-- it lies within the first sequence, or at its end
pub first-within : (xs ys : List Row) → first_difference xs ys ≤ length xs
first-within [] ys = omega arith
first-within (x ∷ xs) [] = omega arith
first-within (x ∷ xs) (y ∷ ys) =
    (elim (same x y) as (λ b. same x y ≡ b → first_difference (x ∷ xs) (y ∷ ys) ≤ suc (length xs)) [
      | true ↦ λ e. rw e (let h = first-within xs ys in omega arith)
      | false ↦ λ e. rw e (omega arith)
    ]) refl

-- all of a sequence is common with itself
common-self : (xs : List Row) → first_difference xs xs ≡ length xs
common-self [] = refl
common-self (x ∷ xs) = rw (same_self x) (ap suc (common-self xs))

-- sequences are the same where the second is no longer than the first and all of the first is common
pub common-all : (xs ys : List Row) → length ys ≤ length xs → length xs ≤ first_difference xs ys → same_rows xs ys ≡ true
common-all [] [] l h = refl
common-all [] (y ∷ ys) l h = absurd (omega arith)
common-all (x ∷ xs) [] l h = absurd (omega arith)
common-all (x ∷ xs) (y ∷ ys) l h =
    (elim (same x y) as (λ b. same x y ≡ b → same_rows (x ∷ xs) (y ∷ ys) ≡ true) [
      | true ↦ λ e. rw e (let k = rw e at h in common-all xs ys (omega arith) (omega arith))
      | false ↦ λ e. let k = rw e at h in absurd (omega arith)
    ]) refl

-- and in no other case
pub common_part : (xs ys : List Row) → (length xs < length ys) ⊎ (first_difference xs ys < length xs) → same_rows xs ys ≡ false
common_part xs ys h =
    (elim (same_rows xs ys) as (λ b. same_rows xs ys ≡ b → b ≡ false) [
      | true ↦ λ e. absurd (contrary (same_rows-true xs ys e) h)
      | false ↦ λ e. refl
    ]) refl
  where
    contrary : xs ≡ ys → (length xs < length ys) ⊎ (first_difference xs ys < length xs) → ⊥
    contrary e (inl l) = omega (arith, ap length e)
    contrary e (inr l) = omega (arith, subst (λ zs. first_difference xs zs ≡ length xs) e (common-self xs))

-- ---- a note has one

abbrev Differ : Sequences → Type 0
Differ s = same_rows s.first s.second ≡ false

abbrev Noted : Sequences → Option Plan → Type 0
Noted s o = OnSome (λ q. Differ s) o

module _ (T : Tables) (c : Option ℕ) where
  noted-u3 : (c : Option ℕ) (m : Bool) (l r : ℕ) {e : Plan} (o : Only e) {f : Plan} (v : Top f)
      → Noted (record { first = eval T e outside; second = eval T (one (distinct (r ∷ [])) (bare v)) outside }) (u3 T (unsequenced T) c m l r o v)
  noted-u3 none m l r o v = tt
  noted-u3 (some c) m l r (another e) v = tt
  noted-u3 (some c) m l r (only k p) {f} v =
      let e : Plan = one (distinct (k ∷ [])) p in
      on-when _ (every (u3_conditions T (unsequenced T) k l r e f (bare v))) _ (λ h. not-true _ (every_true (u3_conditions T (unsequenced T) k l r e f (bare v)) h).1.1.1.0)

  noted-stays : (p : Plan) → Noted (sequences_of T p) (stays T c p)
  unfolding stays sequences_of rule_of unnest
  noted-stays (leaf x) = tt
  noted-stays (one u p) = tt
  noted-stays (two cross e f) = tt
  noted-stays (two (semi m l r t) e f) =
      let s : Sequences = record { first = eval T e outside; second = eval T (one (distinct (r ∷ [])) (bare (top f))) outside } in
      elim (is_plain t) as (λ b. Noted s (cond (comparing (cond b (cond m 4 3) 7)) (cond b (u3 T (unsequenced T) c m l r (only_of e) (top f)) (u7 T m l r t e f)) none)) [
        | true ↦
            elim m as (λ z. Noted s (cond (comparing (cond z 4 3)) (u3 T (unsequenced T) c z l r (only_of e) (top f)) none)) [
              | true ↦ noted-u3 c true l r (only_of e) (top f)
              | false ↦ noted-u3 c false l r (only_of e) (top f)
            ]
        | false ↦ tt
      ]
  noted-stays (two (quant true t) e f) = tt
  noted-stays (two (quant false t) e f) = tt
  noted-stays (two (fold a n t) e f) = tt
  noted-stays (two each e f) = tt
  noted-stays (two (pair a n l r k t) e f) = go (only_of e)
    where
      go : {e : Plan} (o : Only e) → Noted (record { first = eval T e outside; second = eval T (one (distinct (r ∷ [])) f) outside }) (u6 T (unsequenced T) a n l r k t o f)
      go (another e) = tt
      go (only j p) =
          let e : Plan = one (distinct (j ∷ [])) p in
          on-when _ (every (u6_conditions T (unsequenced T) j l r t e f)) _ (λ h. not-true _ (every_true (u6_conditions T (unsequenced T) j l r t e f) h).1.1.1.1.0)

  noted-modify : (p : Plan) (i : ℕ) → Noted (look (sequences_of T) nothing p i) (modify (stays T c) p i)
  unfolding look
  noted-modify =
      changed (stays T c) (λ p i q. Differ (look (sequences_of T) nothing p i)) (λ p. rw (look-root (sequences_of T) nothing p) (noted-stays p)) (λ u p j q h. h) (λ b e f j q z h. rw z h)
      (λ b e f j q z h. rw z h)

-- a note's sequences have a first difference
pub note_smallest : (T : Tables) (p : Plan) (i : ℕ) (s : Sequences) → note_at T p i ≡ some s
    → SmallestDifference s.first s.second (first_difference s.first s.second)
unfolding note_at
note_smallest T p i s e = smallest-first s.first s.second (go (modify (stays T (fresh T p)) p i) (look (sequences_of T) nothing p i) (noted-modify T (fresh T p) p i) e)
  where
    go : (o : Option Plan) (z : Sequences) → Noted z o → noted z (accepted T o) ≡ some s → Differ s
    go none z h e = absurd (none-ne-some _ e)
    go (some q) z h e =
        (elim (passes T q) as (λ b. noted z (when b q) ≡ some s → Differ s) [
          | true ↦ λ k. subst Differ (some-injective z s k) h
          | false ↦ λ k. absurd (none-ne-some _ k)
        ]) e
