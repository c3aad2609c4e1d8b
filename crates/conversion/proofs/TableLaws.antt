-- What a table holds, whatever its version: its bytes in a version are read as a table that holds it, and a table that is read is the bytes of
-- what it holds. Assumes nothing.
use Rattle.std.specs.Prelude.{if◌then◌else◌, Ok, Err}
use Prim.Native.Nat.{ℕ, zero, suc, ◌+◌, ◌*◌, ◌/◌, ◌≤◌, ◌<◌}
use native.Mathlib.Omega.{arith}
use native.Mathlib.Nat.{add-zero, mul-zero, mul-suc}
use native.Mathlib.Decide.{dec_lt}
use mathlib.Core.Path.{◌≡◌, refl, sym, ap, ap₂, ◌∙◌, fun_ext}
use mathlib.Core.Bool.{Bool, true, false, ◌&&◌, and-eq-true_iff}
use mathlib.Core.List.{List, [], ◌∷◌, ◌++◌, map, map-map}
use lib.ListN.{length, get_or, take, drop, length-append, length-drop, length-map, take-append-drop, drop_of_length-le, get_or-eq_default}
use lib.Dec.{leb, ltb}
use lib.Seq.{drop-cons, drop-drop, drop-nil, take_at, drop_at, get_or-drop, length-take-le}
use borrow.Author.Tests.{lt-ltb, le-ltb, eq-eqb}
use Rattle.algebra.specs.Lists.{all, flat_map, upward}
use Rattle.algebra.specs.Cells.{blank}
use Rattle.algebra.specs.Plans.{Row}
use Rattle.algebra.proofs.Lists.{all_map}
use Rattle.reading.specs.Bytes.{byte_at, unsigned_at, starts_with, all_below}
use Rattle.reading.specs.Versions.{version_number, cell_size, word_of, unsigned_code}
use Rattle.reading.specs.TableSet.{table_mark, table_version, columns_of, rows_of, cell_bytes, cells_of, cell_at, cell_allowed, cells_allowed, read_table, table_rows}
use Rattle.reading.specs.Encoding.{low_bytes, number_bytes}
use Rattle.reading.specs.declared.version.Version.{Version}
use Rattle.reading.specs.declared.version.Version.TheVariants.{First, Second}
use Rattle.reading.specs.declared.refusal.Refusal.TheVariants.{TableMark}
use Rattle.reading.proofs.VersionLaws.{code-bound, code-word, word-code, starts_take, marked-version, node_room}
use Rattle.reading.proofs.NumberBytes.{unsigned_drop, unsigned_bound, low_value, value_low}
use Rattle.reading.proofs.Laws.{all-holds, read-mark, read_whole, WholeTable, whole-table}
use Rattle.reading.proofs.Places.{upward-length, flat_map-map, all-upward}
use Rattle.reading.proofs.FieldBytes.{Bytes}
use Rattle.conversion.specs.Bytes.{table_words, table_bytes}

-- ---- lists

-- numbers from one place higher
pub upward-next : (n k : ℕ) → upward n (suc k) ≡ map suc (upward n k)
upward-next zero k = refl
upward-next (suc n) k = ap (◌∷◌ (suc k)) (upward-next n (suc k))

-- a list by its places
entries : (xs : List ℕ) → map (λ i. get_or xs i 0) (upward (length xs) 0) ≡ xs
entries [] = refl
entries (x ∷ xs) =
    ap (◌∷◌ x) (ap (map (λ i. get_or (x ∷ xs) i 0)) (upward-next (length xs) 0)
    ∙ (map-map (λ i. get_or (x ∷ xs) i 0) suc (upward (length xs) 0) ∙ entries xs))

-- what all of a list and 0 pass, it passes at every place, also past the last
all_entry : (p : ℕ → Bool) → p 0 ≡ true → (xs : List ℕ) → all p xs ≡ true → (i : ℕ) → p (get_or xs i 0) ≡ true
all_entry p o [] h i = o
all_entry p o (x ∷ xs) h zero = ((and-eq-true_iff (p x) (all p xs)).0 h).0
all_entry p o (x ∷ xs) h (suc i) = all_entry p o xs ((and-eq-true_iff (p x) (all p xs)).0 h).1 i

-- parts of bytes are bytes
pub drop-small : (n : ℕ) (s : List ℕ) → Bytes s → Bytes (drop n s)
drop-small n s h k = rw (get_or-drop n s k 0) (h (n + k))

take-small : (n : ℕ) (s : List ℕ) → Bytes s → Bytes (take n s)
take-small zero s h k = omega arith
take-small (suc n) [] h k = omega arith
take-small (suc n) (x ∷ s) h zero = h 0
take-small (suc n) (x ∷ s) h (suc k) = take-small n s (λ j. h (suc j)) k

-- ---- words and their bytes

-- n low bytes are n bytes
low-length : (n x : ℕ) → length (low_bytes n x) ≡ n
low-length zero x = refl
low-length (suc n) x = ap suc (low-length n (x / 256))

-- the bytes of n cells are n cells
cells_count : (v : Version) (n : ℕ) → cell_size v * n / cell_size v ≡ n
cells_count First n = omega arith
cells_count Second n = omega arith

module _ (v : Version) where
  abbrev z : ℕ
  z = cell_size v

  abbrev cells : List ℕ → List ℕ
  cells ws = flat_map (number_bytes v) ws

  -- so many bytes
  cells-long : (ws : List ℕ) → length (cells ws) ≡ z * length ws
  cells-long [] = sym (mul-zero z)
  cells-long (w ∷ ws) = length-append (number_bytes v w) (cells ws) ∙ omega (arith, low-length z (unsigned_code v w), cells-long ws, mul-suc z (length ws))

  -- the cells from number i on
  cells-from : (ws : List ℕ) (i : ℕ) → drop (z * i) (cells ws) ≡ cells (drop i ws)
  cells-from ws zero = rw (mul-zero z)
  cells-from [] (suc i) = drop-nil (z * suc i)
  cells-from (w ∷ ws) (suc i) =
      let q : z * suc i ≡ z + z * i = omega (arith, mul-suc z i) in
      ap (λ (j : ℕ). drop j (cells (w ∷ ws))) q
      ∙ (sym (drop-drop (z * i) z (cells (w ∷ ws)))
      ∙ (ap (drop (z * i)) (drop_at (number_bytes v w) (cells ws) z (low-length z (unsigned_code v w))) ∙ cells-from ws i))

  -- the word at any place is allowed: past the last it is blank
  entry_allowed : (ws : List ℕ) → all (cell_allowed v) ws ≡ true → (i : ℕ) → cell_allowed v (get_or ws i 0) ≡ true
  entry_allowed ws h i = all_entry (cell_allowed v) refl ws h i

  -- cell i of these words is the word at place i, also past the last
  cell-word : (ws : List ℕ) → all (cell_allowed v) ws ≡ true → (i : ℕ) → cell_at v (cells ws) i ≡ get_or ws i 0
  cell-word ws h i = rw (cells-long ws, cells_count v (length ws)) (by (dec_lt i (length ws)))
    where
      code_at : i < length ws → unsigned_at z (cells ws) (z * i) ≡ unsigned_code v (get_or ws i 0)
      code_at l =
          ap (unsigned_at z (cells ws)) (sym (add-zero (z * i)))
          ∙ (sym (unsigned_drop z (cells ws) (z * i) 0)
          ∙ (ap (λ (s : List ℕ). unsigned_at z s 0) (cells-from ws i ∙ ap cells (drop-cons ws i 0 l))
          ∙ low_value z (unsigned_code v (get_or ws i 0)) (cells (drop (suc i) ws)) (code-bound v (get_or ws i 0))))

      by : Dec (i < length ws) → (if ltb i (length ws) then word_of v (unsigned_at z (cells ws) (z * i)) else blank) ≡ get_or ws i 0
      by (yes l) = rw (lt-ltb i (length ws) l) (ap (word_of v) (code_at l) ∙ word-code v (get_or ws i 0) (entry_allowed ws h i))
      by (no l) = let g : length ws ≤ i = omega arith in rw (le-ltb i (length ws) g) (sym (get_or-eq_default ws 0 g))

  -- allowed words are allowed cells
  cells-allowed : (ws : List ℕ) → all (cell_allowed v) ws ≡ true → cells_allowed v (cells ws) ≡ true
  unfolding cells_allowed
  cells-allowed ws h =
      all-holds (length (cells ws) / z) (λ i. cell_allowed v (cell_at v (cells ws) i)) (λ i l. ap (cell_allowed v) (cell-word ws h i) ∙ entry_allowed ws h i)

  -- n cells
  module _ (s : List ℕ) (n : ℕ) (long : length s ≡ z * n) (bytes : Bytes s) where
    -- cell i's word has cell i's bytes
    cell-bytes : (i : ℕ) → i < n → number_bytes v (cell_at v s i) ≡ take z (drop (z * i) s)
    cell-bytes i l =
        let x : ℕ = unsigned_at z s (z * i) in
        let y : List ℕ = drop (z * i) s in
        let small : (k : ℕ) → k < z → byte_at y k ≤ 255 = λ k g. omega (arith, bytes (z * i + k), get_or-drop (z * i) s k 0) in
        let place : x ≡ unsigned_at z y 0 = ap (unsigned_at z s) (sym (add-zero (z * i))) ∙ sym (unsigned_drop z s (z * i) 0) in
        let room : z ≤ length y = omega (arith, length-drop (z * i) s, long, node_room z i n l) in
        rw (long, cells_count v n, lt-ltb i n l)
        (ap (low_bytes z) (code-word v x (unsigned_bound z s (z * i) (λ k p q. omega (arith, bytes k))) ∙ place) ∙ value_low z y room small)

    -- the words from cell k on have the bytes from there on
    words-from : (m k : ℕ) → k + m ≡ n → flat_map (λ i. number_bytes v (cell_at v s i)) (upward m k) ≡ drop (z * k) s
    words-from zero k e =
        let short : length s ≤ z * k = omega (arith, long, ap (λ (j : ℕ). z * j) (add-zero k), ap (λ (j : ℕ). z * j) e) in
        sym (drop_of_length-le s short)
    words-from (suc m) k e =
        let next : drop (z * suc k) s ≡ drop z (drop (z * k) s) = ap (λ (j : ℕ). drop j s) (mul-suc z k) ∙ sym (drop-drop z (z * k) s) in
        ap₂ ◌++◌ (cell-bytes k (omega arith)) (words-from m (suc k) (omega arith) ∙ next) ∙ take-append-drop z (drop (z * k) s)

    -- the cells' words have the cells' bytes
    words-cells : cells (map (cell_at v s) (upward n 0)) ≡ s
    words-cells = flat_map-map (number_bytes v) (cell_at v s) (upward n 0) ∙ (words-from n 0 (omega arith) ∙ ap (λ (j : ℕ). drop j s) (mul-zero z))

-- ---- what a table holds

-- its columns, the two bytes of its rows, and the words of its cells, row by row
pub record Content : Type 0 where
  pub columns : ℕ
  pub low : ℕ
  pub high : ℕ
  pub words : List ℕ

abbrev pub rows_in : Content → ℕ
rows_in c = c.low + 256 * c.high

-- in version v
abbrev pub content_bytes : Version → Content → List ℕ
content_bytes v c = table_mark v ++ (c.columns ∷ c.low ∷ c.high ∷ flat_map (number_bytes v) c.words)

-- its size is a table's, and it has so many words
pub record Sized (c : Content) : Type 0 where
  pub size : leb 1 c.columns && (leb c.columns 16 && leb (rows_in c) 1000) ≡ true
  pub long : length c.words ≡ c.columns * rows_in c

-- its words can be written in version v
abbrev pub fitting : Version → Content → Bool
fitting v c = all (cell_allowed v) c.words

-- the rows of its words
abbrev pub content_rows : Content → List Row
content_rows c = map (λ r. map (λ j. get_or c.words (c.columns * r + j) 0) (upward c.columns 0)) (upward (rows_in c) 0)

-- ---- what is read from its bytes, whatever follows them

-- a mark, whatever follows it
starts_mark : (v : Version) (s : List ℕ) → starts_with (table_mark v) (table_mark v ++ s) ≡ true
unfolding starts_with
starts_mark v s = rw (eq-eqb (version_number v) (version_number v) refl)

module _ (v : Version) (c : Content) (sized : Sized c) (fits : fitting v c ≡ true) (rest : List ℕ) where
  abbrev bytes : List ℕ
  bytes = content_bytes v c ++ rest

  version_of_lem : table_version bytes ≡ v
  version_of_lem = marked-version 84 66 76 v bytes (starts_mark v _)

  -- the bytes of its cells are those of its words
  bytes_of : cell_bytes bytes ≡ length (flat_map (number_bytes v) c.words)
  bytes_of = rw version_of_lem (ap (λ (n : ℕ). cell_size v * n) (sym sized.long) ∙ sym (cells-long v c.words))

  cells-of : cells_of bytes ≡ flat_map (number_bytes v) c.words
  unfolding cells_of
  cells-of = take_at (flat_map (number_bytes v) c.words) rest (cell_bytes bytes) (sym bytes_of)

  -- cell i is its word at place i, also past the last
  cell-of : cell_at (table_version bytes) (cells_of bytes) ≡ (λ i. get_or c.words i 0)
  cell-of = rw (version_of_lem, cells-of) (fun_ext (cell-word v c.words fits))

  -- its words, and its rows
  pub words_of : table_words bytes ≡ c.words
  words_of = rw (cell-of, ← sized.long) (entries c.words)

  pub rows-of : table_rows bytes ≡ content_rows c
  unfolding table_rows
  rows-of = ap (λ (f : ℕ → ℕ). map (λ r. map (λ j. f (c.columns * r + j)) (upward c.columns 0)) (upward (rows_in c) 0)) cell-of

  -- the way to another version
  pub table_to : (w : Version) → table_bytes w bytes ≡ content_bytes w c
  unfolding table_bytes
  table_to w = rw words_of

  -- what follows it
  pub table-rest : drop (8 + cell_bytes bytes) bytes ≡ rest
  table-rest = sym (drop-drop (cell_bytes bytes) 8 bytes) ∙ drop_at (flat_map (number_bytes v) c.words) rest (cell_bytes bytes) (sym bytes_of)

  -- it is read whole
  pub table-read : read_table v bytes ≡ Ok (8 + cell_bytes bytes)
  table-read =
      let room : 8 + cell_bytes bytes ≤ length bytes = omega (arith, bytes_of, length-append (flat_map (number_bytes v) c.words) rest) in
      read_whole v bytes (omega arith) (starts_mark v _) sized.size room (rw cells-of (cells-allowed v c.words fits))

-- ---- a table that is read is the bytes of what it holds

-- a table of n bytes in front of a list is the bytes of a content that can be written in version v
pub record Held (v : Version) (t : List ℕ) (n : ℕ) : Type 0 where
  pub content : Content
  pub sized : Sized content
  pub fits : fitting v content ≡ true
  pub is : t ≡ content_bytes v content ++ drop n t

module _ (v : Version) (t : List ℕ) (n : ℕ) (e : read_table v t ≡ Ok n) (small : Bytes t) where
  whole : WholeTable v t n
  whole = whole-table v t n e

  -- without its mark it would have been refused
  marked : starts_with (table_mark v) t ≡ true
  marked = by (starts_with (table_mark v) t) refl
    where
      by : (b : Bool) → starts_with (table_mark v) t ≡ b → b ≡ true
      by true q = refl
      by false q =
          let bad : read_table v t ≡ Err TableMark = read-mark v t (omega (arith, whole.fits)) q in
          let zero_one : ◌≡◌ {A = ℕ} 0 1 = cc in
          absurd (omega arith)

  abbrev cells_in : ℕ
  cells_in = columns_of t * rows_of t

  -- its cells: how many bytes they have, that these are bytes, and that they are its words' bytes
  cells_are_lem : cell_bytes t ≡ cell_size v * cells_in
  cells_are_lem = rw whole.version

  cells-length : length (cells_of t) ≡ cell_size v * cells_in
  unfolding cells_of
  cells-length = length-take-le (cell_bytes t) (drop 8 t) (omega (arith, length-drop 8 t, whole.fits)) ∙ cells_are_lem

  cells-small : Bytes (cells_of t)
  unfolding cells_of
  cells-small = take-small (cell_bytes t) (drop 8 t) (drop-small 8 t small)

  cells-back : flat_map (number_bytes v) (table_words t) ≡ cells_of t
  cells-back = rw whole.version (words-cells v (cells_of t) cells_in cells-length cells-small)

  -- its words are allowed
  words-fit : all (cell_allowed v) (table_words t) ≡ true
  unfolding cells_allowed
  words-fit =
      let p : ℕ → Bool = λ i. cell_allowed v (cell_at v (cells_of t) i) in
      let count : length (cells_of t) / cell_size v ≡ cells_in = rw cells-length (cells_count v cells_in) in
      rw whole.version
      (all_map (cell_allowed v) (cell_at v (cells_of t)) (upward cells_in 0)
      ∙ (all-upward p cells_in ∙ (ap (λ (m : ℕ). all_below m p) (sym count) ∙ whole.codes)))

  -- it is its header, then its words' bytes, then what follows it
  header : t ≡ table_mark v ++ (columns_of t ∷ byte_at t 6 ∷ byte_at t 7 ∷ drop 8 t)
  header =
      let l : 7 < length t = omega (arith, whole.fits) in
      starts_take (table_mark v) t marked ∙ ap (λ (s : List ℕ). table_mark v ++ s)
      (drop-cons t 5 0 (omega arith) ∙ (ap (◌∷◌ (columns_of t)) (drop-cons t 6 0 (omega arith))
      ∙ ap (λ (s : List ℕ). columns_of t ∷ byte_at t 6 ∷ s) (drop-cons t 7 0 l)))

  cells-end : drop 8 t ≡ flat_map (number_bytes v) (table_words t) ++ drop n t
  unfolding cells_of
  cells-end =
      sym (take-append-drop (cell_bytes t) (drop 8 t))
      ∙ ap₂ ◌++◌ (sym cells-back) (drop-drop (cell_bytes t) 8 t ∙ ap (λ (j : ℕ). drop j t) (sym whole.bytes))

  pub held : Held v t n
  held =
      record {
        content = record { columns = columns_of t; low = byte_at t 6; high = byte_at t 7; words = table_words t };
        sized = record { size = whole.size; long = length-map (upward cells_in 0) _ ∙ upward-length cells_in 0 };
        fits = words-fit;
        is = header ∙ ap (λ (s : List ℕ). table_mark v ++ (columns_of t ∷ byte_at t 6 ∷ byte_at t 7 ∷ s)) cells-end;
      }
