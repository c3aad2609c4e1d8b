-- Digits of a word: of `|`, of `1 << k`, and the lowest that is not set. Assumes nothing.
use Prim.Native.Nat.{ℕ, zero, suc, ◌+◌, ◌-◌, ◌*◌, ◌/◌, ◌%◌, ◌^◌, ◌<◌, ◌≤◌}
use mathlib.Core.Path.{◌≡◌, refl, sym, ap, ap₂, ◌∙◌}
use mathlib.Core.Bool.{Bool, true, false, cond, ◌||◌}
use mathlib.Core.List.{List, [], ◌∷◌, ◌++◌, append_assoc}
use mathlib.Core.Option.{some}
use native.Mathlib.Omega.{arith}
use native.Mathlib.Decide.{ℕ_discrete}
use lib.ListN.{length, set, replicate}
use Rattle.std.proofs.lemmas.List.{get_or-set_other, get_or-replicate}
use Rattle.std.proofs.lemmas.Grind.{get_or-set_at}
use native.Mathlib.Nat.{pow-suc, div-one, one-mul, add_comm, add-zero, zero-add, suc-add}
use native.Mathlib.Numerals.{add-one}
use lib.Dec.{eqb, ltb, eqb-suc-zero, eqb-zero-suc, eqb-suc-suc, leb-suc-suc}
use borrow.Author.Tests.{lt-ltb, le-ltb, eq-eqb, ne_eqb, eqb-true, eqb-false}
use lib.Pow.{shr-shr, shl_exact}
use lib.Bits.{bit_or, or_shr, or_mod}
use lib.Count.{count_trailing_zeros, under}
use Rattle.algebra.specs.Lists.{member, upward}
use Rattle.algebra.specs.Rules.{lacking}
use Rattle.reading.proofs.Places.{upward-more}
use Rattle.reading.proofs.FlagLaws.{SameMembers, member_append, members_swap}
use Rattle.unnesting.specs.Ids.{bit, word, Holds, Holding, Part, Puts, Lowest, SmallestFree}
use Rattle.std.specs.Prelude.{Some, None}
use Rattle.unnesting.specs.declared.ids.IdSet.{IdSet}

-- the digit above the lowest of w is the digit of w / 2
pub bit-suc : (w k : ℕ) → bit w (suc k) ≡ bit (w / 2) k
unfolding bit
bit-suc w k = ap (λ (x : ℕ). eqb (w / 2 ^ x % 2) 1) (sym (add-one k) ∙ add_comm k 1) ∙ ap (λ (x : ℕ). eqb (x % 2) 1) (sym (shr-shr w 1 k))

bit-zero : (k : ℕ) → bit 0 k ≡ false
unfolding bit
bit-zero zero = refl
bit-zero (suc k) = bit-suc 0 k ∙ bit-zero k

even : (k : ℕ) → 2 ^ suc k % 2 ≡ 0
even k = let h = pow-suc 2 k in omega arith

half : (k : ℕ) → 2 ^ suc k / 2 ≡ 2 ^ k
half k = let h = pow-suc 2 k in omega arith

pub bit-pow : (k j : ℕ) → bit (2 ^ k) j ≡ eqb j k
unfolding bit
bit-pow zero zero = refl
bit-pow zero (suc j) = bit-suc 1 j ∙ bit-zero j ∙ sym (eqb-suc-zero j)
bit-pow (suc k) zero = ap (λ (x : ℕ). eqb x 1) (ap (λ (x : ℕ). x % 2) (div-one (2 ^ suc k)) ∙ even k) ∙ sym (eqb-zero-suc k)
bit-pow (suc k) (suc j) = bit-suc (2 ^ suc k) j ∙ ap (λ (x : ℕ). bit x j) (half k) ∙ bit-pow k j ∙ sym (eqb-suc-suc j k)

or_digit : (x y : ℕ) → x < 2 → y < 2 → eqb (bit_or x y) 1 ≡ (eqb x 1 || eqb y 1)
or_digit zero zero h k = refl
or_digit zero (suc zero) h k = refl
or_digit zero (suc (suc y)) h k = absurd (omega arith)
or_digit (suc zero) zero h k = refl
or_digit (suc zero) (suc zero) h k = refl
or_digit (suc zero) (suc (suc y)) h k = absurd (omega arith)
or_digit (suc (suc x)) y h k = absurd (omega arith)

pub bit-or : (a b j : ℕ) → bit (bit_or a b) j ≡ (bit a j || bit b j)
unfolding bit
bit-or a b j =
    ap (λ (x : ℕ). eqb (x % 2) 1) (or_shr a b j) ∙ ap (λ (x : ℕ). eqb x 1) (or_mod (a / 2 ^ j) (b / 2 ^ j) 1)
    ∙ or_digit (a / 2 ^ j % 2) (b / 2 ^ j % 2) (omega arith) (omega arith)

-- setting a digit
put-bit : (w k j : ℕ) → k < 64 → bit (bit_or w ((1 * 2 ^ k) % 18446744073709551616)) j ≡ (eqb j k || bit w j)
put-bit w k j h =
    ap (λ (x : ℕ). bit (bit_or w x) j) (shl_exact 1 k 64 (omega arith) (omega arith) ∙ one-mul (2 ^ k))
    ∙ bit-or w (2 ^ k) j ∙ ap (λ (b : Bool). bit w j || b) (bit-pow k j) ∙ or_turn (bit w j) (eqb j k)
  where
    or_turn : (a b : Bool) → (a || b) ≡ (b || a)
    or_turn true true = refl
    or_turn true false = refl
    or_turn false true = refl
    or_turn false false = refl

pub puts : (w k : ℕ) → k < 64 → Puts w k (bit_or w ((1 * 2 ^ k) % 18446744073709551616))
puts w k h = record { right = λ j. put-bit w k j h }

-- the lowest digit of the complement, and the rest of it
not_low : (k w : ℕ) → w < 2 ^ suc k → (2 ^ suc k - 1 - w) % 2 ≡ 1 - w % 2
not_low k w h = let e = pow-suc 2 k in omega arith

not-rest : (k w : ℕ) → w < 2 ^ suc k → (2 ^ suc k - 1 - w) / 2 ≡ 2 ^ k - 1 - w / 2
not-rest k w h = let e = pow-suc 2 k in omega arith

-- what a search over k digits finds: one of them at t, or goes on
abbrev Found : ℕ → ℕ → ℕ → ℕ → List ℕ → Type 0
Found k t n base ids = lacking (k + n) base ids ≡ cond (ltb t k) (some (base + t)) (lacking n (base + k) ids)

step : (d k t n base : ℕ) (ids : List ℕ) → d < 2 → eqb d 1 ≡ member base ids → (d ≡ 1 → Found k t n (suc base) ids)
    → Found (suc k) (under (1 - d) t) n base ids
step zero k t n base ids l h go = rw (suc-add, ← h, lt-ltb 0 (suc k) (omega arith), add-zero)
step (suc zero) k t n base ids l h go =
    let e : base + suc t ≡ suc base + t = omega arith in
    let f : base + suc k ≡ suc base + k = omega arith in
    rw (suc-add, ← h, leb-suc-suc (suc t) k, e, f) (go refl)
step (suc (suc d)) k t n base ids l h go = absurd (omega arith)

bit-low : (w : ℕ) → bit w 0 ≡ eqb (w % 2) 1
unfolding bit
bit-low w = ap (λ (x : ℕ). eqb (x % 2) 1) (div-one w)

lowest-free : (k w n base : ℕ) (ids : List ℕ) → w < 2 ^ k → ((i : ℕ) → i < k → bit w i ≡ member (base + i) ids)
    → Found k (count_trailing_zeros k (2 ^ k - 1 - w)) n base ids
unfolding count_trailing_zeros
lowest-free zero w n base ids l h = rw (zero-add, add-zero)
lowest-free (suc k) w n base ids l h =
    let lo : eqb (w % 2) 1 ≡ member base ids = sym (bit-low w) ∙ h 0 (omega arith) ∙ ap (λ (x : ℕ). member x ids) (add-zero base) in
    let small : w / 2 < 2 ^ k = let e = pow-suc 2 k in omega arith in
    rw (not_low k w l, not-rest k w l)
    (step (w % 2) k (count_trailing_zeros k (2 ^ k - 1 - w / 2)) n base ids (omega arith) lo (λ o.
    lowest-free k (w / 2) n (suc base) ids small (λ i j.
    let e : base + suc i ≡ suc base + i = omega arith in sym (bit-suc w i) ∙ h (suc i) (omega arith) ∙ ap (λ (x : ℕ). member x ids) e)))

pub lowest-is : (w : ℕ) → w < 18446744073709551616 → Lowest w (count_trailing_zeros 64 (18446744073709551615 - w))
lowest-is w l = record { search = λ n base ids p. lowest-free 64 w n base ids l p.right }

-- ---- what the functions on sets cite, of one word

same_test : (a b c d : ℕ) → (a ≡ b → c ≡ d) → (c ≡ d → a ≡ b) → eqb a b ≡ eqb c d
same_test a b c d f g = go (eqb a b) refl
  where
    go : (x : Bool) → eqb a b ≡ x → eqb a b ≡ eqb c d
    go true e = e ∙ sym (eq-eqb c d (f (eqb-true a b e)))
    go false e = e ∙ sym (ne_eqb c d (λ q. eqb-false a b e (g q)))

pub part-found : {w r base id : ℕ} {ids : List ℕ} (n : ℕ) → Lowest w r → Part w base ids → r < 64 → base + r ≡ id → lacking (64 + n) base ids ≡ some id
part-found {w} {r} {base} {id} {ids} n s p l q =
    s.search n base ids p ∙ ap (λ (b : Bool). cond b (some (base + r)) (lacking n (base + 64) ids)) (lt-ltb r 64 l) ∙ ap some q

pub part_full : {w r base : ℕ} {ids : List ℕ} (n : ℕ) → Lowest w r → Part w base ids → 64 ≤ r → lacking (64 + n) base ids ≡ lacking n (base + 64) ids
part_full {w} {r} {base} {ids} n s p l =
    s.search n base ids p ∙ ap (λ (b : Bool). cond b (some (base + r)) (lacking n (base + 64) ids)) (le-ltb r 64 l)

-- ---- sets, word by word

-- what stands in each word says what stands in the set
pub part-of : {s : IdSet} {ids : List ℕ} → Holds s ids → (q : ℕ) → q < 4 → Part (word s q) (64 * q) ids
part-of {s} {ids} h q l = record {
  right = λ k m.
      let e : (64 * q + k) / 64 ≡ q = omega arith in
      let f : (64 * q + k) % 64 ≡ k = omega arith in
      ap₂ (λ (x y : ℕ). bit (word s x) y) (sym e) (sym f) ∙ h.right (64 * q + k) (omega arith);
}

-- and a set whose words are those of a list's ids holds the list (cited by nothing; it is for a reader)
pub whole : {s : IdSet} {ids : List ℕ} → ((q : ℕ) → q < 4 → Part (word s q) (64 * q) ids) → Holds s ids
whole {s} {ids} p = record {
  right = λ i l.
      let e : 64 * (i / 64) + i % 64 ≡ i = omega arith in
      (p (i / 64) (omega arith)).right (i % 64) (omega arith) ∙ ap (λ (x : ℕ). member x ids) e;
}

pub holds_none : Holds (record { words = replicate 4 0 }) []
holds_none = record { right = λ i l. ap (λ (x : ℕ). bit x (i % 64)) (get_or-replicate 4 (i / 64) 0 0 (omega arith)) ∙ bit-zero (i % 64) }

-- ---- the search for an id, word by word

-- the words before the i-th have no free id
pub record Searched (s : IdSet) (i : ℕ) : Type 0 where
  pub full : (ids : List ℕ) → Holds s ids → lacking 256 0 ids ≡ lacking (64 * (4 - i)) (64 * i) ids

pub searched_none : (s : IdSet) → Searched s 0
searched_none s = record { full = λ ids h. refl }

module _ {s : IdSet} {i r : ℕ} (a : Searched s i) (l : i < 4) (p : Lowest (word s i) r) where
  here : (ids : List ℕ) → lacking (64 * (4 - i)) (64 * i) ids ≡ lacking (64 + 64 * (3 - i)) (64 * i) ids
  here ids = let e : 64 * (4 - i) ≡ 64 + 64 * (3 - i) = omega arith in ap (λ (n : ℕ). lacking n (64 * i) ids) e

  pub searched-next : 64 ≤ r → Searched s (i + 1)
  searched-next f = record {
    full = λ ids h.
        let e : 3 - i ≡ 4 - (i + 1) = omega arith in
        let b : 64 * i + 64 ≡ 64 * (i + 1) = omega arith in
        a.full ids h ∙ here ids ∙ part_full (64 * (3 - i)) p (part-of h i l) f ∙ ap₂ (λ (n m : ℕ). lacking (64 * n) m ids) e b;
  }

  pub searched-found : r < 64 → SmallestFree s (Some (64 * i + r))
  searched-found f = record { found = λ ids h. sym (a.full ids h ∙ here ids ∙ part-found (64 * (3 - i)) p (part-of h i l) f refl) }

pub searched_all : {s : IdSet} {i : ℕ} → Searched s i → i ≡ 4 → SmallestFree s None
searched_all {s} {i} a e = record { found = λ ids h. sym (a.full ids h ∙ ap (λ (n : ℕ). lacking (64 * (4 - n)) (64 * n) ids) e) }

-- only which ids below 256 stand in the list counts
pub holds_same : {s : IdSet} {xs ys : List ℕ} → ((i : ℕ) → i < 256 → member i xs ≡ member i ys) → Holds s xs → Holds s ys
holds_same e h = record { right = λ i l. h.right i l ∙ e i l }

-- ---- ids that are put into a set

-- one id more: its word has its digit set
pub holding-put : (s : IdSet) (id r : ℕ) → length s.words ≡ 4 → id < 256 → Puts (word s (id / 64)) (id % 64) r
    → Holding s (id ∷ []) (record { words = set s.words (id / 64) r })
holding-put s id r long small p = record {
  after = λ ids h. record {
    right = λ i l. elim (ℕ_discrete (i / 64) (id / 64)) [
      | yes e ↦
          ap (λ (x : ℕ). bit x (i % 64)) (get_or-set_at s.words (id / 64) (i / 64) r 0 e (omega arith)) ∙ p.right (i % 64)
          ∙ ap₂ (λ (x y : Bool). x || y) (same_test (i % 64) (id % 64) i id (λ q. omega arith) (λ q. omega arith))
          (ap (λ (x : ℕ). bit (word s x) (i % 64)) (sym e) ∙ h.right i l)
      | no d ↦
          ap (λ (x : ℕ). bit x (i % 64)) (get_or-set_other s.words (id / 64) (i / 64) r 0 d) ∙ h.right i l
          ∙ ap (λ (x : Bool). x || member i ids) (sym (ne_eqb i id (λ q. d (ap (λ (x : ℕ). x / 64) q))))
    ];
  };
}

pub holding_same : {s r : IdSet} {xs ys : List ℕ} → Holding s xs r → SameMembers xs ys → Holding s ys r
holding_same {xs = xs} {ys = ys} a e = record { after = λ ids h. holds_same (λ i l. member_append i xs ids ∙ (ap (λ b. b || member i ids) (e.at i) ∙ sym (member_append i ys ids))) (a.after ids h) }

pub holding_then : {s q r : IdSet} {xs ys : List ℕ} → Holding s xs q → Holding q ys r → Holding s (ys ++ xs) r
holding_then {xs = xs} a b = record { after = λ ids h. rw append_assoc (b.after (xs ++ ids) (a.after ids h)) }

-- one id more of a run
pub run-put : {s q r : IdSet} (first k x : ℕ) → x ≡ first + k → Holding s (upward k first) q → Holding q (x ∷ []) r → Holding s (upward (k + 1) first) r
run-put first k x e a b = holding_same (holding_then a b) (rw (upward-more, e) (members_swap ((first + k) ∷ []) (upward k first)))
