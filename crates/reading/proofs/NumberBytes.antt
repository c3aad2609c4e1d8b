-- A number and its bytes, low byte first, there and back, for any number of bytes. Assumes nothing.
use Prim.Native.Nat.{ℕ, zero, suc, ◌+◌, ◌*◌, ◌/◌, ◌%◌, ◌^◌, ◌≤◌, ◌<◌}
use native.Mathlib.Omega.{arith}
use native.Mathlib.Nat.{add_assoc, pow-succ'}
use native.Mathlib.Numerals.{add-one}
use mathlib.Core.Path.{◌≡◌, refl}
use mathlib.Core.List.{List, [], ◌∷◌, ◌++◌}
use lib.ListN.{length, take, drop}
use lib.Seq.{get_or-drop}
use Rattle.reading.specs.Bytes.{byte_at, unsigned_at}
use Rattle.reading.specs.Encoding.{low_bytes}

-- a place behind the first byte
pub unsigned_next : (n b : ℕ) (s : List ℕ) (i : ℕ) → unsigned_at n (b ∷ s) (i + 1) ≡ unsigned_at n s i
unsigned_next zero b s i = refl
unsigned_next (suc n) b s i = rw (unsigned_next n b s (i + 1), add-one i)

-- four bytes of a list, read one by one, and eight
pub unsigned_four : (s : List ℕ) (i : ℕ) → unsigned_at 4 (byte_at s i ∷ byte_at s (i + 1) ∷ byte_at s (i + 2) ∷ byte_at s (i + 3) ∷ []) 0 ≡ unsigned_at 4 s i
unsigned_four s i = simp add_assoc

pub unsigned_eight : (s : List ℕ) (i : ℕ)
    → unsigned_at 8 (byte_at s i ∷ byte_at s (i + 1) ∷ byte_at s (i + 2) ∷ byte_at s (i + 3) ∷ byte_at s (i + 4) ∷ byte_at s (i + 5) ∷ byte_at s (i + 6) ∷ byte_at s (i + 7) ∷ []) 0 ≡ unsigned_at 8 s i
unsigned_eight s i = simp add_assoc

-- the number at a place, and that of the bytes from there on
pub unsigned_drop : (n : ℕ) (s : List ℕ) (k i : ℕ) → unsigned_at n (drop k s) i ≡ unsigned_at n s (k + i)
unsigned_drop zero s k i = refl
unsigned_drop (suc n) s k i = rw (get_or-drop k s i 0, unsigned_drop n s k (i + 1), add_assoc k i 1)

-- n bytes are a number below 256 ^ n
pub unsigned_bound : (n : ℕ) (s : List ℕ) (i : ℕ) → ((k : ℕ) → i ≤ k → k < i + n → byte_at s k ≤ 255) → unsigned_at n s i < 256 ^ n
unsigned_bound zero s i h = omega arith
unsigned_bound (suc n) s i h =
    let r = unsigned_bound n s (i + 1) (λ k p q. h k (omega arith) (omega arith)) in
    omega (arith, h i (omega arith) (omega arith), pow-succ' 256 n)

-- the number of a number's n low bytes, whatever follows them
pub low_value : (n x : ℕ) (more : List ℕ) → x < 256 ^ n → unsigned_at n (low_bytes n x ++ more) 0 ≡ x
low_value zero x more h = omega arith
low_value (suc n) x more h =
    let r = low_value n (x / 256) more (omega (arith, pow-succ' 256 n)) in
    rw (unsigned_next n (x % 256) (low_bytes n (x / 256) ++ more) 0, r) (omega arith)

-- the n low bytes of the number of a list's first n bytes
pub value_low : (n : ℕ) (s : List ℕ) → n ≤ length s → ((k : ℕ) → k < n → byte_at s k ≤ 255) → low_bytes n (unsigned_at n s 0) ≡ take n s
value_low zero s l h = refl
value_low (suc n) [] l h = absurd (omega arith)
value_low (suc n) (b ∷ s) l h =
    let r = value_low n s (omega arith) (λ k p. h (suc k) (omega arith)) in
    let v = h 0 (omega arith) in
    let p : (b + 256 * unsigned_at n s 0) % 256 ≡ b = omega arith in
    let q : (b + 256 * unsigned_at n s 0) / 256 ≡ unsigned_at n s 0 = omega arith in
    rw (unsigned_next n b s 0, p, q, r)
