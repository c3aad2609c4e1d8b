-- Fields of a list of bytes, low byte first (docs/DEFINITION.md, "Words for lists"). Past the end a byte is 0. Definitions only.
use Rattle.std.specs.Prelude.{ℕ, zero, suc, ◌+◌, ◌*◌, Bool, true, false, ◌&&◌, List, [], ◌∷◌, get_or, eqb}

-- the byte at a place
abbrev pub byte_at : List ℕ → ℕ → ℕ
byte_at s i = get_or s i 0

-- the 16-bit number at a place
abbrev pub u16_at : List ℕ → ℕ → ℕ
u16_at s i = byte_at s i + 256 * byte_at s (i + 1)

-- the number of n bytes at a place, without its sign
abbrev pub unsigned_at : ℕ → List ℕ → ℕ → ℕ
unsigned_at zero s i = 0
unsigned_at (suc n) s i = byte_at s i + 256 * unsigned_at n s (i + 1)

-- s starts with the bytes of a mark
unfoldable pub starts_with : List ℕ → List ℕ → Bool
starts_with [] s = true
starts_with (m ∷ mark) [] = false
starts_with (m ∷ mark) (b ∷ s) = eqb b m && starts_with mark s

-- the test p holds of every number below n
unfoldable pub all_below : ℕ → (ℕ → Bool) → Bool
all_below zero p = true
all_below (suc n) p = all_below n p && p n
