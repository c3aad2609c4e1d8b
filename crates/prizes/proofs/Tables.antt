-- The table of players and pence: one row more, and a run of rows written behind those that stand. Assumes nothing.
use Rattle.std.specs.Prelude.{if◌then◌else◌}
use Prim.Native.Nat.{ℕ, zero, suc, ◌+◌, ◌*◌, ◌-◌, ◌≤◌, ◌<◌}
use native.Mathlib.Omega.{arith}
use native.Mathlib.Nat.{add-mul, zero-mul}
use native.Mathlib.Numerals.{add-one}
use mathlib.Core.Bool.{Bool, true, false}
use mathlib.Core.Path.{◌≡◌, refl, sym, ap, ap₂, ◌∙◌}
use mathlib.Core.List.{List, [], ◌∷◌, ◌++◌, map, map-append, append_assoc}
use lib.IntN.{ℤ, pos}
use lib.ListN.{length, take, drop, get_or, set, length-drop, take-append-drop}
use lib.Seq.{take_all, drop-drop, drop-cons, paste, take-paste}
use borrow.Rule.Slice.PartMut.{put_mid}
use Rattle.algebra.specs.Lists.{all, total}
use Rattle.algebra.specs.Cells.{is_number}
use Rattle.reporting.specs.Rows.{chunk}
use Rattle.reporting.specs.Report.{code_of}
use Rattle.reporting.proofs.Chunks.{mono, chunk_add, paste-rest}
use Rattle.reporting.proofs.Lent.{tail_part, tail_length, lent_back}
use Rattle.prizes.specs.Payments.{pool, split, payments}
use Rattle.prizes.specs.Prize.{player_of, table_codes}
use Rattle.prizes.specs.Helpers.{Scored, players_in, scores_in, first_run}
use Rattle.prizes.proofs.Amounts.{split-length, total-take, total-drop}
use Rattle.prizes.proofs.Runs.{run-few, paid-from}
use Rattle.prizes.proofs.RowsInCells.{players-length, scores-length}

-- ---- the codes of rows

pub table-length : (players pence : List ℕ) → length players ≡ length pence → length (table_codes players pence) ≡ 2 * length players
table-length [] pence e = refl
table-length (p ∷ players) [] e = absurd (omega arith)
table-length (p ∷ players) (q ∷ pence) e = omega (arith, table-length players pence (omega arith))

table_append : (players later pence pence' : List ℕ) → length players ≡ length pence
    → table_codes (players ++ later) (pence ++ pence') ≡ table_codes players pence ++ table_codes later pence'
table_append [] later [] pence' e = refl
table_append [] later (q ∷ pence) pence' e = absurd (omega arith)
table_append (p ∷ players) later [] pence' e = absurd (omega arith)
table_append (p ∷ players) later (q ∷ pence) pence' e = ap (λ (l : List ℤ). code_of p ∷ pos q ∷ l) (table_append players later pence pence' (omega arith))

-- the first i rows are written, at j the player of the next one, and its pence behind
next : (players pence : List ℕ) (out : List ℤ) (i j : ℕ) → j ≡ 2 * i → i < length players → i < length pence → suc j < length out
    → set (set (table_codes (take i players) (take i pence) ++ drop j out) j (code_of (get_or players i 0))) (suc j) (pos (get_or pence i 0))
    ≡ table_codes (take (suc i) players) (take (suc i) pence) ++ drop (suc (suc j)) out
next [] pence out i j e h k room = absurd (omega arith)
next (p ∷ players) [] out i j e h k room = absurd (omega arith)
next (p ∷ players) (q ∷ pence) [] i j e h k room = absurd (omega arith)
next (p ∷ players) (q ∷ pence) (x ∷ []) i j e h k room = absurd (omega arith)
next (p ∷ players) (q ∷ pence) (x ∷ y ∷ out) zero zero e h k room = refl
next (p ∷ players) (q ∷ pence) (x ∷ y ∷ out) zero (suc j) e h k room = absurd (omega arith)
next (p ∷ players) (q ∷ pence) (x ∷ y ∷ out) (suc i) zero e h k room = absurd (omega arith)
next (p ∷ players) (q ∷ pence) (x ∷ y ∷ out) (suc i) (suc zero) e h k room = absurd (omega arith)
next (p ∷ players) (q ∷ pence) (x ∷ y ∷ out) (suc i) (suc (suc j)) e h k room =
    ap (λ (l : List ℤ). code_of p ∷ pos q ∷ l) (next players pence out i j (omega arith) (omega arith) (omega arith) (omega arith))

pub table-next : (players pence : List ℕ) (out : List ℤ) (i : ℕ) → i < length players → i < length pence → 2 * i + 1 < length out
    → set (set (table_codes (take i players) (take i pence) ++ drop (2 * i) out) (2 * i) (code_of (get_or players i 0))) (2 * i + 1) (pos (get_or pence i 0))
    ≡ table_codes (take (i + 1) players) (take (i + 1) pence) ++ drop (2 * (i + 1)) out
table-next players pence out i h k room =
    let two : 2 * (i + 1) ≡ suc (suc (2 * i)) = omega arith in
    rw (two, add-one (2 * i), add-one i) (next players pence out i (2 * i) refl h k (omega arith))

-- ---- the rows of a run, as a part of the cells

players_add : (k j w : ℕ) (cells : List ℕ) → players_in (k + j) w cells ≡ players_in k w cells ++ players_in j w (drop (k * w) cells)
unfolding players_in
players_add k j w cells = ap (λ rows. map player_of rows) (chunk_add k j w cells) ∙ map-append player_of (chunk k w cells) (chunk j w (drop (k * w) cells))

pub scored_part : (rows w : ℕ) (cells : List ℕ) (i n : ℕ) → Scored rows w cells → i + n ≤ rows → Scored n w (take (length cells - i * w) (drop (i * w) cells))
scored_part rows w cells i n c h =
    let room : n * w ≤ length (take (length cells - i * w) (drop (i * w) cells)) = omega (arith, c.in_cells.inside, mono (i + n) rows w h, add-mul i n w, tail_length (i * w) cells) in
    record { in_cells = record { inside = room; few = omega (arith, c.in_cells.few); narrow = c.in_cells.narrow }; wide = c.wide }

-- ---- a run's end and its pool

run-some : (scores : List ℕ) (i : ℕ) → i < length scores → 0 < first_run (drop i scores)
run-some scores i h = rw (drop-cons scores i 0 h) (omega arith)

pub run_ends : (rows w : ℕ) (cells : List ℕ) (i end : ℕ) → i < rows → end ≡ i + first_run (drop i (scores_in rows w cells)) → (i < end) × (end ≤ rows)
run_ends rows w cells i end h e =
    let scores = scores_in rows w cells in
    let many = scores-length rows w cells in
    (omega (arith, run-some scores i (omega arith)), omega (arith, run-few (drop i scores), length-drop i scores))

pub pool-most : (run pence : List ℕ) (i : ℕ) → pool run (drop i pence) ≤ total pence
pool-most run pence i = by (all is_number run)
  where
    by : (b : Bool) → (if b then total (take (length run) (drop i pence)) else 0) ≤ total pence
    by true = omega (arith, total-take (length run) (drop i pence), total-drop i pence)
    by false = omega arith

-- ---- a part to the end of the output, lent to write m codes, and back

written_back : (k m : ℕ) (out codes : List ℤ) → length codes ≡ m
    → put_mid k (length out - k) out (codes ++ drop m (take (length out - k) (drop k out))) ≡ paste out k codes m
written_back k m out codes e =
    lent_back k out (codes ++ drop m (take (length out - k) (drop k out))) ∙ rw (tail_part k out, drop-drop, take_all m codes (omega arith), append_assoc)

-- ---- the table as it comes to stand: the first i rows as the output has them, the others as they are to be written

module _ (rows w : ℕ) (cells pence : List ℕ) where
  abbrev scores : List ℕ
  scores = scores_in rows w cells

  -- the rows from i on
  abbrev left : ℕ → List ℤ
  left i = table_codes (players_in (rows - i) w (drop (i * w) cells)) (payments (drop i scores) (drop i pence))

  abbrev pub finished : ℕ → List ℤ → List ℤ
  finished i out = take (2 * i) out ++ (left i ++ drop (2 * rows) out)

  pub finished-first : (out : List ℤ) → finished 0 out ≡ table_codes (players_in rows w cells) (payments scores pence) ++ drop (2 * rows) out
  finished-first out = let all : rows - 0 ≡ rows = omega arith in rw (zero-mul, all)

  pub finished-last : (out : List ℤ) → finished rows out ≡ out
  unfolding players_in chunk
  finished-last out = let none : rows - rows ≡ 0 = omega arith in rw none (take-append-drop (2 * rows) out)

  -- n rows from i on: their pool and their codes
  abbrev pool_at : ℕ → ℕ → ℕ
  pool_at i n = pool (take n (drop i scores)) (drop i pence)

  abbrev written : ℕ → ℕ → List ℤ
  written i n = table_codes (players_in n w (drop (i * w) cells)) (split n (pool_at i n))

  -- .. where they are a run
  module _ (i n : ℕ) (h : i < rows) (e : n ≡ first_run (drop i scores)) where
    fit : i + n ≤ rows
    fit = (run_ends rows w cells i (i + n) h (ap (λ (m : ℕ). i + m) e)).1

    players-left : players_in (rows - i) w (drop (i * w) cells) ≡ players_in n w (drop (i * w) cells) ++ players_in (rows - (i + n)) w (drop ((i + n) * w) cells)
    players-left =
        let rest : rows - i ≡ n + (rows - (i + n)) = omega (arith, fit) in
        let behind : drop (n * w) (drop (i * w) cells) ≡ drop ((i + n) * w) cells = drop-drop (n * w) (i * w) cells ∙ ap (λ (m : ℕ). drop m cells) (sym (add-mul i n w)) in
        ap (λ (m : ℕ). players_in m w (drop (i * w) cells)) rest
        ∙ (players_add n (rows - (i + n)) w (drop (i * w) cells) ∙ ap (λ (l : List ℕ). players_in n w (drop (i * w) cells) ++ players_in (rows - (i + n)) w l) behind)

    paid-left : payments (drop i scores) (drop i pence) ≡ split n (pool_at i n) ++ payments (drop (i + n) scores) (drop (i + n) pence)
    paid-left =
        paid-from scores pence i n (omega (arith, scores-length rows w cells)) e
        ∙ ap₂ (λ (s p : List ℕ). split n (pool_at i n) ++ payments s p) (drop-drop n i scores) (drop-drop n i pence)

    left-next : left i ≡ written i n ++ left (i + n)
    left-next =
        ap₂ table_codes players-left paid-left
        ∙ table_append (players_in n w (drop (i * w) cells)) _ (split n (pool_at i n)) _ (players-length n w (drop (i * w) cells) ∙ sym (split-length n (pool_at i n)))

    written-length : length (written i n) ≡ 2 * n
    written-length =
        let many = players-length n w (drop (i * w) cells) in
        table-length (players_in n w (drop (i * w) cells)) (split n (pool_at i n)) (many ∙ sym (split-length n (pool_at i n))) ∙ ap (λ (m : ℕ). 2 * m) many

    finished-next : (out : List ℤ) → 2 * rows ≤ length out → finished (i + n) (paste out (2 * i) (written i n) (2 * n)) ≡ finished i out
    finished-next out room =
        let two : 2 * (i + n) ≡ 2 * i + 2 * n = omega arith in
        let front : take (2 * (i + n)) (paste out (2 * i) (written i n) (2 * n)) ≡ take (2 * i) out ++ written i n =
        ap (λ (m : ℕ). take m (paste out (2 * i) (written i n) (2 * n))) two
        ∙ (take-paste out (2 * i) (written i n) (2 * n) (omega arith) (omega (arith, written-length)) ∙ ap (λ (l : List ℤ). take (2 * i) out ++ l) (take_all (2 * n) (written i n) (omega (arith, written-length)))) in
        let behind : drop (2 * rows) (paste out (2 * i) (written i n) (2 * n)) ≡ drop (2 * rows) out =
        paste-rest out (2 * i) (written i n) (2 * n) (omega arith) (omega (arith, written-length)) (2 * rows) (omega (arith, fit)) in
        ap₂ (λ (f b : List ℤ). f ++ (left (i + n) ++ b)) front behind
        ∙ (append_assoc (take (2 * i) out) (written i n) (left (i + n) ++ drop (2 * rows) out)
        ∙ ap (λ (l : List ℤ). take (2 * i) out ++ l) (sym (append_assoc (written i n) (left (i + n)) (drop (2 * rows) out)) ∙ ap (λ (l : List ℤ). l ++ drop (2 * rows) out) (sym left-next)))

  -- the run from i to `end` is written to the part of the output from its first row on
  pub run-written : (i end p : ℕ) (out last : List ℤ) → i < rows → end ≡ i + first_run (drop i scores) → p ≡ pool_at i (end - i) → 2 * rows ≤ length out
      → last ≡ table_codes (players_in (end - i) w (take (length cells - i * w) (drop (i * w) cells))) (split (end - i) p) ++ drop (2 * (end - i)) (take (length out - 2 * i) (drop (2 * i) out))
      → finished end (put_mid (2 * i) (length out - 2 * i) out last) ≡ finished i out
  run-written i end p out last h e q room is =
      let n : ℕ = end - i in
      let run : n ≡ first_run (drop i scores) = omega (arith, e) in
      let whole : end ≡ i + n = omega (arith, e) in
      let codes : table_codes (players_in n w (take (length cells - i * w) (drop (i * w) cells))) (split n p) ≡ written i n =
      ap₂ (λ (l : List ℕ) (m : ℕ). table_codes (players_in n w l) (split n m)) (tail_part (i * w) cells) q in
      let back : put_mid (2 * i) (length out - 2 * i) out last ≡ paste out (2 * i) (written i n) (2 * n) =
      ap (put_mid (2 * i) (length out - 2 * i) out) (is ∙ ap (λ (l : List ℤ). l ++ drop (2 * n) (take (length out - 2 * i) (drop (2 * i) out))) codes)
      ∙ written_back (2 * i) (2 * n) out (written i n) (written-length i n h run) in
      ap₂ finished whole back ∙ finished-next i n h run out room
