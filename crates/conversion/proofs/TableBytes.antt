-- The bytes of tables and sets in a version, and their sizes. Assumes nothing.
use Rattle.std.specs.Prelude.{if◌then◌else◌, Result, Ok, Err}
use Prim.Native.Nat.{ℕ, zero, suc, ◌+◌, ◌*◌, ◌≤◌, ◌<◌}
use native.Mathlib.Omega.{arith}
use mathlib.Core.Path.{◌≡◌, refl, sym, ap, ap₂, ◌∙◌}
use mathlib.Core.Bool.{Bool, true, false}
use mathlib.Core.List.{List, [], ◌++◌}
use lib.Dec.{eqb}
use lib.ListN.{length, take, drop, length-append, length-drop}
use lib.Seq.{length-take-le}
use Rattle.algebra.specs.Lists.{all, flat_map, upward}
use Rattle.algebra.proofs.Lists.{all_map}
use Rattle.reading.specs.Bytes.{all_below}
use Rattle.reading.specs.Versions.{cell_size}
use Rattle.reading.specs.TableSet.{table_mark, table_version, columns_of, rows_of, cells_of, cell_at, cell_allowed, read_table, read_from, read_set_as, after_table, table_from}
use Rattle.reading.specs.Encoding.{number_bytes}
use Rattle.reading.specs.declared.version.Version.{Version}
use Rattle.reading.specs.declared.version.Version.TheVariants.{First, Second}
use Rattle.reading.specs.declared.refusal.Refusal.{Refusal}
use Rattle.reading.specs.declared.refusal.Refusal.TheVariants.{SetLong}
use Rattle.reading.proofs.Laws.{err-ok, ok-is, accepted-table, all-at}
use Rattle.reading.proofs.Places.{all-upward, flat_map-map}
use Rattle.conversion.specs.Bytes.{table_words, table_bytes, set_bytes, set_fits}
use Rattle.conversion.specs.Helpers.{bytes_written, cell_room, Headed}
use Rattle.conversion.proofs.Writing.{three-written, flat_more, flat_next, flat_long, flat_room, flat_written}

-- ---- a number

pub number-long : (v : Version) (w : ℕ) → length (number_bytes v w) ≡ cell_size v
number-long First w = refl
number-long Second w = refl

-- ---- one table

-- word i of a table
abbrev pub word_in : List ℕ → ℕ → ℕ
word_in table i = cell_at (table_version table) (cells_of table) i

-- .. as it is read
pub word_at : (table cells : List ℕ) (v : Version) (i w : ℕ) → v ≡ table_version table → cells ≡ cells_of (table_from 0 table) → w ≡ cell_at v cells i → w ≡ word_in table i
unfolding table_from
word_at table cells v i w p q r = r ∙ ap₂ (λ (v : Version) (s : List ℕ). cell_at v s i) p q

module _ (v : Version) (table : List ℕ) where
  abbrev n : ℕ
  n = columns_of table * rows_of table

  -- a test of every word, place by place
  pub words-all : all (cell_allowed v) (table_words table) ≡ all_below n (λ i. cell_allowed v (word_in table i))
  words-all = all_map (cell_allowed v) (word_in table) (upward n 0) ∙ all-upward (λ i. cell_allowed v (word_in table i)) n

  pub words-bytes : flat_map (number_bytes v) (table_words table) ≡ flat_map (λ i. number_bytes v (word_in table i)) (upward n 0)
  words-bytes = flat_map-map (number_bytes v) (word_in table) (upward n 0)

  pub word_fits : all (cell_allowed v) (table_words table) ≡ true → (i : ℕ) → i < n → cell_allowed v (word_in table i) ≡ true
  word_fits h = all-at n (λ i. cell_allowed v (word_in table i)) (sym words-all ∙ h)

  -- the bytes of the first i cells
  pub part-long : (i : ℕ) → length (flat_map (λ i. number_bytes v (word_in table i)) (upward i 0)) ≡ cell_size v * i
  part-long i = flat_long (λ i. number_bytes v (word_in table i)) (cell_size v) i (λ k l. number-long v (word_in table k))

  -- the bytes of one cell more
  pub part-next : (i : ℕ) → length (flat_map (λ i. number_bytes v (word_in table i)) (upward (i + 1) 0)) ≡ length (flat_map (λ i. number_bytes v (word_in table i)) (upward i 0)) + cell_size v
  part-next i = flat_next (λ i. number_bytes v (word_in table i)) i ∙ ap (λ (k : ℕ). length (flat_map (λ i. number_bytes v (word_in table i)) (upward i 0)) + k) (number-long v (word_in table i))

  pub part_room : (i : ℕ) → i < n → length (flat_map (λ i. number_bytes v (word_in table i)) (upward i 0)) + cell_size v ≤ cell_room v table
  part_room i h = omega (arith, flat_room (λ i. number_bytes v (word_in table i)) i n h, number-long v (word_in table i), part-long n)

  pub cells-long : length (flat_map (number_bytes v) (table_words table)) ≡ cell_room v table
  cells-long = ap length words-bytes ∙ part-long n

  pub table-long : 8 ≤ length table → length (table_bytes v table) ≡ 8 + cell_room v table
  unfolding table_bytes
  table-long h =
      let l : length (take 3 (drop 5 table)) ≡ 3 = length-take-le 3 (drop 5 table) (omega (arith, length-drop 5 table)) in
      omega (arith, length-append (take 3 (drop 5 table)) (flat_map (number_bytes v) (table_words table)), l, cells-long)

  -- the mark, the columns and rows, and the cells
  pub table-written : (at : ℕ) (out first second third mark size : List ℕ) → 8 ≤ length table → at + 8 ≤ length out → mark ≡ table_mark v → size ≡ take 3 (drop 5 table)
      → first ≡ bytes_written out at mark → second ≡ bytes_written first (at + 5) size → third ≡ bytes_written second (at + 8) (flat_map (number_bytes v) (table_words table))
      → third ≡ bytes_written out at (table_bytes v table)
  unfolding table_bytes
  table-written at out first second third mark size h g p q e f r =
      let l : length mark ≡ 5 = ap length p in
      let m : length size ≡ 3 = ap length q ∙ length-take-le 3 (drop 5 table) (omega (arith, length-drop 5 table)) in
      three-written out at (at + 5) (at + 8) mark size (flat_map (number_bytes v) (table_words table)) first second third e f r (omega arith) (omega arith) (omega arith)
      ∙ ap₂ (λ (a b : List ℕ). bytes_written out at (a ++ (b ++ flat_map (number_bytes v) (table_words table)))) p q

-- ---- a set

module _ (v : Version) (set : List ℕ) where
  pub set-none : set_bytes v 0 set ≡ []
  unfolding set_bytes
  set-none = refl

  pub set_more : (t : ℕ) → set_bytes v (t + 1) set ≡ set_bytes v t set ++ table_bytes v (table_from t set)
  unfolding set_bytes
  set_more t = flat_more (λ t. table_bytes v (table_from t set)) t

  pub set-written : (out : List ℕ) (t place : ℕ) → length (set_bytes v t set) ≤ length out → place ≡ length (set_bytes v t set)
      → bytes_written (bytes_written out 0 (set_bytes v t set)) place (table_bytes v (table_from t set)) ≡ bytes_written out 0 (set_bytes v (t + 1) set)
  unfolding set_bytes
  set-written out t place h e = flat_written (λ t. table_bytes v (table_from t set)) out 0 t place (omega arith) (omega arith)

  pub set_room_lem : (t n : ℕ) → t < n → length (set_bytes v t set) + length (table_bytes v (table_from t set)) ≤ length (set_bytes v n set)
  unfolding set_bytes
  set_room_lem t n h = flat_room (λ t. table_bytes v (table_from t set)) t n h

  pub set_all : (n : ℕ) → set_fits v n set ≡ all_below n (λ t. all (cell_allowed v) (table_words (table_from t set)))
  unfolding set_fits
  set_all n = all-upward (λ t. all (cell_allowed v) (table_words (table_from t set))) n

  pub table_of : (n : ℕ) → set_fits v n set ≡ true → (t : ℕ) → t < n → all (cell_allowed v) (table_words (table_from t set)) ≡ true
  table_of n h = all-at n (λ t. all (cell_allowed v) (table_words (table_from t set))) (sym (set_all n) ∙ h)

-- ---- a set that was read

few-from : (v : Version) (left found : ℕ) (s : List ℕ) (m : ℕ) → read_from v left found s ≡ Ok m → m ≤ found + left
unfolding read_from
few-from v zero found s m e = by (eqb (length s) 0) e
  where
    by : (b : Bool) → (if b then Ok found else Err SetLong) ≡ Ok m → m ≤ found + 0
    by true q = omega (arith, ok-is found m q)
    by false q = err-ok SetLong m q
few-from v (suc left) found s m e = by (eqb (length s) 0) (read_table v s) e (λ n p. few-from v left (found + 1) (drop n s) m p)
  where
    by : (b : Bool) (r : Result ℕ Refusal) → (if b then Ok found else after_table r (λ bytes. read_from v left (found + 1) (drop bytes s))) ≡ Ok m
        → ((n : ℕ) → read_from v left (found + 1) (drop n s) ≡ Ok m → m ≤ found + 1 + left) → m ≤ found + suc left
    by true r q go = omega (arith, ok-is found m q)
    by false (Err k) q go = err-ok k m q
    by false (Ok n) q go = omega (arith, go n q)

module _ (v : Version) (set : List ℕ) (n : ℕ) (e : read_set_as v set ≡ Ok n) where
  -- a set has at most 8 tables
  pub tables-few : n ≤ 8
  unfolding read_set_as
  tables-few = few-from v 8 0 set n e

  pub tables_headed : Headed n set
  tables_headed = record { long = λ t l. omega (arith, (accepted-table v set n t e l).fits) }
