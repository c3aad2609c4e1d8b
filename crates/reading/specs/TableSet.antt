-- The set of tables, and the refusals 1 to 5 (docs/DEFINITION.md, "Cells" and "The set of tables").
-- A set is a list of bytes: 0 to 8 tables, one after another. A table is looked at as the bytes from its first one on, and its header says its
-- version. A set is read as one of the two versions, v: all its tables have it. Definitions only.
use Rattle.std.specs.Prelude.{ℕ, zero, suc, ◌+◌, ◌*◌, ◌/◌, Bool, ◌&&◌, ◌||◌, not, List, [], ◌∷◌, map, length, take, drop, leb, ltb, eqb, if◌then◌else◌, Result, Ok, Err}
use Rattle.algebra.specs.Lists.{upward}
use Rattle.algebra.specs.Cells.{blank, off_scale, within_reach}
use Rattle.algebra.specs.Plans.{Row, Tables}
use Rattle.reading.specs.Bytes.{byte_at, u16_at, unsigned_at, starts_with, all_below}
use Rattle.reading.specs.Versions.{version_number, version_of, cell_size, reach_of, word_of}
use Rattle.reading.specs.declared.version.Version.{Version}
use Rattle.reading.specs.declared.version.Version.TheVariants.{Second}
use Rattle.reading.specs.declared.refusal.Refusal.{Refusal}
use Rattle.reading.specs.declared.refusal.Refusal.TheVariants.{TableShort, TableMark, TableSize, CellCode, SetLong}

-- ---- A table's header: 8 bytes

-- letters TBL, 16-bit version
abbrev pub table_mark : Version → List ℕ
table_mark v = 84 ∷ 66 ∷ 76 ∷ version_number v ∷ 0 ∷ []

abbrev pub table_version : List ℕ → Version
table_version table = version_of (u16_at table 3)

abbrev pub columns_of : List ℕ → ℕ
columns_of table = byte_at table 5

abbrev pub rows_of : List ℕ → ℕ
rows_of table = u16_at table 6

-- 1 to 16 columns, 0 to 1,000 rows
abbrev pub size_allowed : List ℕ → Bool
size_allowed table = leb 1 (columns_of table) && (leb (columns_of table) 16 && leb (rows_of table) 1000)

-- ---- Its cells, row by row

abbrev pub cell_bytes : List ℕ → ℕ
cell_bytes table = cell_size (table_version table) * (columns_of table * rows_of table)

unfoldable pub cells_of : List ℕ → List ℕ
cells_of table = take (cell_bytes table) (drop 8 table)

-- the word of cell i of a table's cells; past the last cell it is blank
abbrev pub cell_at : Version → List ℕ → ℕ → ℕ
cell_at v cells i = if ltb i (length cells / cell_size v) then word_of v (unsigned_at (cell_size v) cells (cell_size v * i)) else blank

-- blank, off scale, or a number in the version's range
abbrev pub cell_allowed : Version → ℕ → Bool
cell_allowed v w = eqb w blank || (eqb w off_scale || within_reach (reach_of v) w)

unfoldable pub cells_allowed : Version → List ℕ → Bool
cells_allowed v cells = all_below (length cells / cell_size v) (λ i. cell_allowed v (cell_at v cells i))

-- ---- Reading one table, and the set

-- One table: how many bytes it has, or the refusal. In the order 1 (header), 2, 3, 1 (cells), 4.
unfoldable pub read_table : Version → List ℕ → Result ℕ Refusal
read_table v table =
    if ltb (length table) 8 then Err TableShort else
    if not (starts_with (table_mark v) table) then Err TableMark else
    if not (size_allowed table) then Err TableSize else
    if ltb (length table) (8 + cell_bytes table) then Err TableShort else
    if not (cells_allowed v (cells_of table)) then Err CellCode else
    Ok (8 + cell_bytes table)

abbrev pub after_table : Result ℕ Refusal → (ℕ → Result ℕ Refusal) → Result ℕ Refusal
after_table (Err refusal) next = Err refusal
after_table (Ok bytes) next = next bytes

-- The tables from here on, where `found` were read before and at most `left` may follow. 5 is met first.
unfoldable pub read_from : Version → ℕ → ℕ → List ℕ → Result ℕ Refusal
read_from v zero found s = if eqb (length s) 0 then Ok found else Err SetLong
read_from v (suc left) found s =
    if eqb (length s) 0 then Ok found else
    after_table (read_table v s) (λ bytes. read_from v left (found + 1) (drop bytes s))

unfoldable pub read_set_as : Version → List ℕ → Result ℕ Refusal
unfolding read_from
read_set_as v set = read_from v 8 0 set

-- what the calls read
abbrev pub read_set : List ℕ → Result ℕ Refusal
read_set set = read_set_as Second set

-- ---- Finding table t of a set that was read

-- The set from table t on. Past the last table nothing is left.
unfoldable pub table_from : ℕ → List ℕ → List ℕ
table_from zero s = s
table_from (suc t) s = table_from t (drop (8 + cell_bytes s) s)

-- ---- The tables of a set, as the plans' meaning speaks of them

-- cell c of row r of a table
abbrev pub table_cell : List ℕ → ℕ → ℕ → ℕ
table_cell table r c = cell_at (table_version table) (cells_of table) (columns_of table * r + c)

unfoldable pub table_rows : List ℕ → List Row
table_rows table = map (λ r. map (table_cell table r) (upward (columns_of table) 0)) (upward (rows_of table) 0)

-- how many tables were read
abbrev pub amount_of : Result ℕ Refusal → ℕ
amount_of (Ok n) = n
amount_of (Err refusal) = 0

-- the tables of a set that is known to have so many
abbrev pub known_tables : ℕ → List ℕ → Tables
known_tables known set = record { amount = known; width = λ t. columns_of (table_from t set); rows = λ t. table_rows (table_from t set) }

-- the tables of a set that is read as version v
abbrev pub tables_as : Version → List ℕ → Tables
tables_as v set = known_tables (amount_of (read_set_as v set)) set

abbrev pub tables_of : List ℕ → Tables
tables_of set = tables_as Second set
