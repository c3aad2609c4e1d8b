-- A set and a plan written in another version, and which of them can be (docs/DEFINITION.md, "The converter"). Definitions only.
use Rattle.std.specs.Prelude.{ℕ, ◌*◌, Bool, List, ◌++◌, map, take, drop}
use Rattle.algebra.specs.Lists.{all, flat_map, upward}
use Rattle.algebra.specs.Places.{flatten}
use Rattle.reading.specs.TableSet.{table_mark, table_version, columns_of, rows_of, cells_of, cell_at, cell_allowed, table_from}
use Rattle.reading.specs.Tree.{plan_of}
use Rattle.reading.specs.Encoding.{number_bytes, operator_within, plan_bytes_as}
use Rattle.reading.specs.declared.version.Version.{Version}

-- ---- tables

-- the words of a table's cells, in their order
abbrev pub table_words : List ℕ → List ℕ
table_words table = map (cell_at (table_version table) (cells_of table)) (upward (columns_of table * rows_of table) 0)

-- a table in version v: letters TBL and the version, its columns and rows as they are, and its cells
unfoldable pub table_bytes : Version → List ℕ → List ℕ
table_bytes v table = table_mark v ++ (take 3 (drop 5 table) ++ flat_map (number_bytes v) (table_words table))

-- the n tables of a set in version v, one after another
unfoldable pub set_bytes : Version → ℕ → List ℕ → List ℕ
set_bytes v n set = flat_map (λ t. table_bytes v (table_from t set)) (upward n 0)

-- every cell of every table, scanned or not, can be written in version v: blank and off scale always can
unfoldable pub set_fits : Version → ℕ → List ℕ → Bool
set_fits v n set = all (λ t. all (cell_allowed v) (table_words (table_from t set))) (upward n 0)

-- ---- plans

-- the plan's tree in version v
abbrev pub plan_in : Version → List ℕ → List ℕ
plan_in v plan = plan_bytes_as v (plan_of plan)

-- the number of every test can be written in version v
unfoldable pub plan_fits : Version → List ℕ → Bool
plan_fits v plan = all (operator_within v) (flatten (plan_of plan))
