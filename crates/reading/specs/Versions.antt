-- The two versions of a set's tables and of a plan: what differs between them (docs/DEFINITION.md, "Cells", "The set of tables" and "The
-- plan's bytes"). Everything else that is read is the same in both. Definitions only.
use Rattle.std.specs.Prelude.{ℕ, ◌+◌, ◌-◌, ◌%◌, ◌^◌, eqb, if◌then◌else◌}
use Rattle.algebra.specs.Cells.{blank, off_scale, origin, reach}
use Rattle.reading.specs.declared.version.Version.{Version}
use Rattle.reading.specs.declared.version.Version.TheVariants.{First, Second}

-- the number in a header
abbrev pub version_number : Version → ℕ
version_number First = 1
version_number Second = 2

-- the version that a header's number says. Any other number is looked at as version 2; no table and no plan with it is read.
abbrev pub version_of : ℕ → Version
version_of number = if eqb number 1 then First else Second

-- the bytes of a cell, and of the number of a test
abbrev pub cell_size : Version → ℕ
cell_size First = 4
cell_size Second = 8

-- the bytes of a plan's node
abbrev pub node_size : Version → ℕ
node_size First = 24
node_size Second = 32

-- the bytes of a node's test, from byte 16 on
abbrev pub test_size : Version → ℕ
test_size v = node_size v - 16

-- the largest number
abbrev pub reach_of : Version → ℕ
reach_of First = 2000000000
reach_of Second = reach

-- The word that holds a cell is the same in both versions: its number plus 2 ^ 63, 0 for blank, 2 ^ 64 - 1 for off scale. So words are
-- ordered as codes are. x is the cell's code, of 32 or of 64 bits, without its sign: blank is the least code and off scale the greatest.
abbrev pub word_of : Version → ℕ → ℕ
word_of First x =
    if eqb x 2147483648 then blank else
    if eqb x 2147483647 then off_scale else
    (x + 2 ^ 31) % 2 ^ 32 + (origin - 2 ^ 31)
word_of Second x = (x + 2 ^ 63) % 2 ^ 64

-- the way back: the code of a word, without its sign
abbrev pub unsigned_code : Version → ℕ → ℕ
unsigned_code First w =
    if eqb w blank then 2147483648 else
    if eqb w off_scale then 2147483647 else
    (w + 2 ^ 32 - origin) % 2 ^ 32
unsigned_code Second w = (w + 2 ^ 63) % 2 ^ 64
