-- Rows written among cells: what one row of a node gives. Private contracts speak of them. Definitions only.
use Rattle.std.specs.Prelude.{ℕ, ◌+◌, max, ◌≡◌, List, ◌++◌, map, length, take, drop}
use Rattle.algebra.specs.Plans.{Row, Env, each, cut, emit}
use Rattle.reporting.specs.Positions.{picked}
use Rattle.reporting.specs.Rows.{row_at, rows_from, Gives, env_of}

-- after a row of w cells was written at a place: what stands before the place and behind the row is as it was
pub record Written (at w : ℕ) (row : Row) (entry exit : List ℕ) : Type 0 where
  pub before : take at exit ≡ take at entry
  pub here : take w (drop at exit) ≡ row
  pub behind : drop (at + w) exit ≡ drop (at + w) entry

-- after rows were written at dst: what stands before them and from `rest` on is as it was
pub record Emitted (rows : List Row) (w most r dst rest : ℕ) (entry exit : List ℕ) : Type 0 where
  pub gives : Gives rows w most r (drop dst exit)
  pub before : take dst exit ≡ take dst entry
  pub behind : drop rest exit ≡ drop rest entry

-- ---- what one row gives; the row, of columns cs or of w cells, stands at src, and what it gives is written at dst

-- the row cut to a list of ids
abbrev pub CutWritten : List ℕ → List ℕ → List ℕ → ℕ → ℕ → List ℕ → List ℕ → Type 0
CutWritten ids cs words src dst entry exit = Written dst (length ids) (cut ids cs (env_of words) (row_at src (length cs) entry)) entry exit

-- the row's cells at these positions
abbrev pub PickWritten : List ℕ → ℕ → ℕ → List ℕ → List ℕ → Type 0
PickWritten positions src dst entry exit = Written dst (length positions) (picked positions (drop src entry)) entry exit

-- the row joined to each right row
abbrev pub joined_rows : Row → List Row → List Row
joined_rows l rs = map (λ r. l ++ r) rs

abbrev pub JoinGiven : ℕ → ℕ → ℕ → ℕ → ℕ → ℕ → List ℕ → List ℕ → Type 0
JoinGiven src w dst behind k v entry exit = Emitted (joined_rows (row_at src w entry) (rows_from behind k v entry)) (w + v) k k dst (src + w) entry exit

-- .. with no right row, once, with blanks
abbrev pub EachGiven : List ℕ → ℕ → ℕ → ℕ → ℕ → ℕ → List ℕ → ℕ → List ℕ → Type 0
EachGiven ds src w dst behind k entry r exit =
    (env : Env) → Emitted (emit each ds (row_at src w entry) env (rows_from behind k (length ds) entry)) (w + length ds) (max 1 k) r dst (src + w) entry exit
