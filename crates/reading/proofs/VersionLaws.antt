-- The two versions: a word and its code, there and back; the version that a header's mark says; sizes. Assumes nothing.
use Rattle.std.specs.Prelude.{if◌then◌else◌}
use Prim.Native.Nat.{ℕ, suc, ◌+◌, ◌-◌, ◌*◌, ◌/◌, ◌%◌, ◌^◌, ◌≤◌, ◌<◌}
use native.Mathlib.Omega.{arith}
use native.Mathlib.Decide.{ℕ_discrete}
use native.Mathlib.Nat.{mul-suc, mul-le-mul_left}
use mathlib.Core.Path.{◌≡◌, refl, ap, ◌∙◌}
use mathlib.Core.Bool.{Bool, true, false, ◌||◌, and-eq-true_iff, false≢true}
use mathlib.Core.List.{List, [], ◌∷◌, ◌++◌}
use lib.ListN.{length, drop}
use lib.Dec.{eqb, leb}
use borrow.Author.Tests.{leb-true, le-leb, eqb-true, eq-eqb, ne_eqb}
use Rattle.algebra.specs.Cells.{blank, off_scale, origin, reach, within_reach, in_range}
use Rattle.reading.specs.Bytes.{byte_at, u16_at, starts_with}
use Rattle.reading.specs.Versions.{version_number, version_of, cell_size, node_size, test_size, reach_of, word_of, unsigned_code}
use Rattle.reading.specs.TableSet.{cell_allowed}
use Rattle.reading.specs.declared.version.Version.{Version}
use Rattle.reading.specs.declared.version.Version.TheVariants.{First, Second}

-- ---- numbers in a version's range

module _ (most w : ℕ) (h : within_reach most w ≡ true) where
  pub reach-low : origin - most ≤ w
  reach-low = leb-true _ _ ((and-eq-true_iff (leb (origin - most) w) (leb w (origin + most))).0 h).0

  pub reach-high : w ≤ origin + most
  reach-high = leb-true _ _ ((and-eq-true_iff (leb (origin - most) w) (leb w (origin + most))).0 h).1

-- a number of either version is one of version 2
pub reach_in : (v : Version) (w : ℕ) → within_reach (reach_of v) w ≡ true → in_range w ≡ true
reach_in First w h =
    let l = reach-low 2000000000 w h in
    let g = reach-high 2000000000 w h in
    rw (le-leb (origin - reach) w (omega arith), le-leb w (origin + reach) (omega arith))
reach_in Second w h = h

-- it is an allowed cell
pub number-allowed : (v : Version) (w : ℕ) → within_reach (reach_of v) w ≡ true → cell_allowed v w ≡ true
number-allowed v w h = rw h (or_all (eqb w blank) (eqb w off_scale))
  where
    or_all : (a b : Bool) → (a || (b || true)) ≡ true
    or_all true b = refl
    or_all false true = refl
    or_all false false = refl

-- ---- a word and its code

pub code-bound : (v : Version) (w : ℕ) → unsigned_code v w < 256 ^ cell_size v
code-bound First w = by (eqb w blank) (eqb w off_scale)
  where
    by : (a b : Bool) → (if a then 2147483648 else if b then 2147483647 else (w + 2 ^ 32 - origin) % 2 ^ 32) < 256 ^ 4
    by true b = omega arith
    by false true = omega arith
    by false false = omega arith
code-bound Second w = omega arith

-- every code is its word's
pub code-word : (v : Version) (x : ℕ) → x < 256 ^ cell_size v → unsigned_code v (word_of v x) ≡ x
code-word First x h = elim (ℕ_discrete x 2147483648) [
  | yes e ↦ rw e
  | no n ↦ elim (ℕ_discrete x 2147483647) [
    | yes e ↦ rw e
    | no m ↦
        let w : ℕ = (x + 2 ^ 31) % 2 ^ 32 + (origin - 2 ^ 31) in
        let b : w ≡ blank → ⊥ = λ e. omega arith in
        let o : w ≡ off_scale → ⊥ = λ e. omega arith in
        rw (ne_eqb x 2147483648 n, ne_eqb x 2147483647 m, ne_eqb w blank b, ne_eqb w off_scale o) (omega arith)
  ]
]
code-word Second x h = omega arith

-- the word of a code of 32 bits, case by case
module _ (x : ℕ) where
  pub word_blank : x ≡ 2147483648 → word_of First x ≡ blank
  word_blank e = rw (eq-eqb x 2147483648 e)

  pub word_off : x ≡ 2147483647 → word_of First x ≡ off_scale
  word_off e = rw e

  module _ (n : x ≡ 2147483648 → ⊥) (m : x ≡ 2147483647 → ⊥) where
    pub word_number : word_of First x ≡ (x + 2 ^ 31) % 2 ^ 32 + (origin - 2 ^ 31)
    word_number = rw (ne_eqb x 2147483648 n, ne_eqb x 2147483647 m)

-- an allowed cell is its code's word
pub word-code : (v : Version) (w : ℕ) → cell_allowed v w ≡ true → word_of v (unsigned_code v w) ≡ w
word-code First w h = elim (ℕ_discrete w blank) [
  | yes e ↦ rw e
  | no n ↦ elim (ℕ_discrete w off_scale) [
    | yes e ↦ rw e
    | no m ↦
        let r : within_reach 2000000000 w ≡ true = rw (ne_eqb w blank n, ne_eqb w off_scale m) at h in
        let l = reach-low 2000000000 w r in
        let g = reach-high 2000000000 w r in
        let x : ℕ = (w + 2 ^ 32 - origin) % 2 ^ 32 in
        let b : x ≡ 2147483648 → ⊥ = λ e. omega arith in
        let o : x ≡ 2147483647 → ⊥ = λ e. omega arith in
        rw (ne_eqb w blank n, ne_eqb w off_scale m, ne_eqb x 2147483648 b, ne_eqb x 2147483647 o) (omega arith)
  ]
]
word-code Second w h = elim (ℕ_discrete w blank) [
  | yes e ↦ rw e
  | no n ↦ elim (ℕ_discrete w off_scale) [
    | yes e ↦ rw e
    | no m ↦
        let r : within_reach reach w ≡ true = rw (ne_eqb w blank n, ne_eqb w off_scale m) at h in
        let g = reach-high reach w r in
        omega arith
  ]
]

-- ---- a header's mark says its version

number-version : (v : Version) → version_of (version_number v + 256 * 0) ≡ v
number-version First = refl
number-version Second = refl

pub starts_take : (mark s : List ℕ) → starts_with mark s ≡ true → s ≡ mark ++ drop (length mark) s
unfolding starts_with
starts_take [] s h = refl
starts_take (m ∷ mark) [] h = absurd (false≢true h)
starts_take (m ∷ mark) (b ∷ s) h =
    let (p, q) = (and-eq-true_iff (eqb b m) (starts_with mark s)).0 h in
    rw (eqb-true b m p) (ap (◌∷◌ m) (starts_take mark s q))

pub marked-version : (a b c : ℕ) (v : Version) (s : List ℕ) → starts_with (a ∷ b ∷ c ∷ version_number v ∷ 0 ∷ []) s ≡ true → version_of (u16_at s 3) ≡ v
marked-version a b c v s h = ap (λ (t : List ℕ). version_of (u16_at t 3)) (starts_take (a ∷ b ∷ c ∷ version_number v ∷ 0 ∷ []) s h) ∙ number-version v

-- the version by its two bytes
module _ (s : List ℕ) where
  pub version-first : byte_at s 3 ≡ 1 → byte_at s 4 ≡ 0 → version_of (u16_at s 3) ≡ First
  version-first e f = rw (e, f)

  pub version_low : (byte_at s 3 ≡ 1 → ⊥) → version_of (u16_at s 3) ≡ Second
  version_low n = rw (ne_eqb (u16_at s 3) 1 (λ e. n (omega arith)))

  pub version-high : (byte_at s 4 ≡ 0 → ⊥) → version_of (u16_at s 3) ≡ Second
  version-high n = rw (ne_eqb (u16_at s 3) 1 (λ e. n (omega arith)))

pub number_small : (v : Version) → version_number v < 256
number_small First = omega arith
number_small Second = omega arith

-- ---- sizes

pub node_least : (v : Version) → 24 ≤ node_size v
node_least First = omega arith
node_least Second = omega arith

pub node_next : (z k : ℕ) → 6 + z * k + z ≡ 6 + z * suc k
node_next z k = omega (arith, mul-suc z k)

pub node_room : (z i n : ℕ) → i < n → z * i + z ≤ z * n
node_room z i n h = omega (arith, mul-suc z i, mul-le-mul_left z h)

pub test-room : (v : Version) → 8 ≤ test_size v
test-room First = omega arith
test-room Second = omega arith

-- where node i of n bytes is whole, and where it is not
pub node-fits : (v : Version) (n i : ℕ) → i < n / node_size v → node_size v * i + node_size v ≤ n
node-fits First n i h = omega arith
node-fits Second n i h = omega arith

pub node_past : (v : Version) (n i : ℕ) → n / node_size v ≤ i → n < 6 + node_size v * i + node_size v
node_past First n i h = omega arith
node_past Second n i h = omega arith
