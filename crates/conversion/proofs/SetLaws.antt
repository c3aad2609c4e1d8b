-- What a set holds, whatever its version: its bytes in a version are read as a set that holds it, and a set that is read is the bytes of what
-- it holds. So a set is converted by writing what it holds in the other version. Assumes nothing.
use Rattle.std.specs.Prelude.{if◌then◌else◌, Result, Ok, Err}
use Prim.Native.Nat.{ℕ, zero, suc, ◌+◌, ◌≤◌}
use native.Mathlib.Omega.{arith}
use native.Mathlib.Nat.{add-zero}
use mathlib.Core.Path.{◌≡◌, refl, sym, ap, ap₂, ◌∙◌}
use mathlib.Core.Bool.{Bool, true, false, and-eq-true_iff}
use mathlib.Core.List.{List, [], ◌∷◌, ◌++◌, map, map-map}
use lib.ListN.{length, drop, drop_of_length-le}
use lib.Dec.{eqb}
use lib.Seq.{drop-nil}
use borrow.Author.Tests.{eqb-true}
use Rattle.algebra.specs.Lists.{all, flat_map, upward}
use Rattle.algebra.specs.Plans.{Tables}
use Rattle.algebra.proofs.Lists.{all_map}
use Rattle.reading.specs.TableSet.{columns_of, cell_bytes, cell_allowed, read_table, read_from, read_set_as, after_table, table_from, table_rows, amount_of, tables_as}
use Rattle.reading.specs.declared.version.Version.{Version}
use Rattle.reading.specs.declared.refusal.Refusal.{Refusal}
use Rattle.reading.specs.declared.refusal.Refusal.TheVariants.{SetLong}
use Rattle.reading.proofs.Laws.{err-ok, ok-is, from_end, from-whole}
use Rattle.reading.proofs.Places.{flat_map-map}
use Rattle.reading.proofs.FieldBytes.{Bytes}
use Rattle.conversion.specs.Bytes.{table_words, table_bytes, set_bytes, set_fits}
use Rattle.conversion.proofs.TableLaws.{upward-next, drop-small, Content, content_bytes, Sized, fitting, content_rows, words_of, rows-of, table_to, table-rest, table-read, Held, held}

-- ---- what a set holds: what each of its tables does

-- in version v
abbrev pub contents_bytes : Version → List Content → List ℕ
contents_bytes v cs = flat_map (content_bytes v) cs

-- every table's size is allowed
abbrev pub AllSized : List Content → Type 0
AllSized [] = Unit {0}
AllSized (c ∷ cs) = Sized c × AllSized cs

-- every word can be written in version v
abbrev pub all_fitting : Version → List Content → Bool
all_fitting v cs = all (fitting v) cs

-- what the first table of these holds, and d where there is none
abbrev first : {A : Type 0} → (Content → A) → A → List Content → A
first h d [] = d
first h d (c ∷ cs) = h c

-- as the plans' meaning speaks of them: no version is named. Past the last table stands a table of no column and no row.
abbrev pub content_tables : List Content → Tables
content_tables cs = record { amount = length cs; width = λ t. first (λ c. c.columns) 0 (drop t cs); rows = λ t. first content_rows [] (drop t cs) }

-- ---- what is read from its bytes

-- nothing follows nothing
nothing-from : (t : ℕ) → table_from t [] ≡ []
unfolding table_from
nothing-from zero = refl
nothing-from (suc t) = ap (table_from t) (drop-nil (8 + cell_bytes [])) ∙ nothing-from t

module _ (v : Version) where
  module _ (c : Content) (cs : List Content) (f : all_fitting v (c ∷ cs) ≡ true) where
    fits-first : fitting v c ≡ true
    fits-first = ((and-eq-true_iff (fitting v c) (all_fitting v cs)).0 f).0

    fits-rest : all_fitting v cs ≡ true
    fits-rest = ((and-eq-true_iff (fitting v c) (all_fitting v cs)).0 f).1

  -- what a table gives by its content only
  module _ {A : Type 0} (g : List ℕ → A) (h : Content → A)
      (same : (c : Content) → Sized c → fitting v c ≡ true → (rest : List ℕ) → g (content_bytes v c ++ rest) ≡ h c) where
    -- of table t
    one_table : (t : ℕ) (cs : List Content) → AllSized cs → all_fitting v cs ≡ true
        → g (table_from t (contents_bytes v cs)) ≡ first h (g []) (drop t cs)
    unfolding table_from
    one_table zero [] s f = refl
    one_table zero (c ∷ cs) s f = same c s.0 (fits-first c cs f) (contents_bytes v cs)
    one_table (suc t) [] s f = ap g (nothing-from (suc t))
    one_table (suc t) (c ∷ cs) s f =
        ap (λ (r : List ℕ). g (table_from t r)) (table-rest v c s.0 (fits-first c cs f) (contents_bytes v cs)) ∙ one_table t cs s.1 (fits-rest c cs f)

    -- of all tables, in their order
    each-table : (cs : List Content) → AllSized cs → all_fitting v cs ≡ true
        → map (λ t. g (table_from t (contents_bytes v cs))) (upward (length cs) 0) ≡ map h cs
    unfolding table_from
    each-table [] s f = refl
    each-table (c ∷ cs) s f =
        let one : fitting v c ≡ true = fits-first c cs f in
        let rest : List ℕ = contents_bytes v cs in
        ap₂ (λ (x : A) (xs : List A). x ∷ xs) (same c s.0 one rest)
        (ap (map (λ t. g (table_from t (content_bytes v c ++ rest)))) (upward-next (length cs) 0)
        ∙ (map-map (λ t. g (table_from t (content_bytes v c ++ rest))) suc (upward (length cs) 0)
        ∙ (ap (λ (r : List ℕ). map (λ t. g (table_from t r)) (upward (length cs) 0)) (table-rest v c s.0 one rest)
        ∙ each-table cs s.1 (fits-rest c cs f))))

  -- they are read one after another
  read-from : (left found : ℕ) (cs : List Content) → AllSized cs → all_fitting v cs ≡ true → length cs ≤ left
      → read_from v left found (contents_bytes v cs) ≡ Ok (found + length cs)
  read-from left found [] s f l = from_end v left found [] refl ∙ ap Ok (sym (add-zero found))
  read-from zero found (c ∷ cs) s f l = absurd (omega arith)
  read-from (suc left) found (c ∷ cs) s f l =
      let one : fitting v c ≡ true = fits-first c cs f in
      let rest : List ℕ = contents_bytes v cs in
      let bytes : List ℕ = content_bytes v c ++ rest in
      from-whole v left found (8 + cell_bytes bytes) bytes (λ e. omega arith) (table-read v c s.0 one rest)
      ∙ (ap (read_from v left (found + 1)) (table-rest v c s.0 one rest)
      ∙ (read-from left (found + 1) cs s.1 (fits-rest c cs f) (omega arith) ∙ ap Ok (omega arith)))

  module _ (cs : List Content) (s : AllSized cs) (f : all_fitting v cs ≡ true) where
    -- the way to another version
    pub contents-to : (w : Version) → set_bytes w (length cs) (contents_bytes v cs) ≡ contents_bytes w cs
    unfolding set_bytes
    contents-to w =
        sym (flat_map-map (λ x. x) (λ t. table_bytes w (table_from t (contents_bytes v cs))) (upward (length cs) 0))
        ∙ (ap (flat_map (λ x. x)) (each-table (table_bytes w) (content_bytes w) (λ c s f rest. table_to v c s f rest w) cs s f)
        ∙ flat_map-map (λ x. x) (content_bytes w) cs)

    -- whether there is one
    pub contents-fit : (w : Version) → set_fits w (length cs) (contents_bytes v cs) ≡ all_fitting w cs
    unfolding set_fits
    contents-fit w =
        sym (all_map (all (cell_allowed w)) (λ t. table_words (table_from t (contents_bytes v cs))) (upward (length cs) 0))
        ∙ (ap (all (all (cell_allowed w))) (each-table (λ t. table_words t) (λ c. c.words) (λ c s f rest. words_of v c s f rest) cs s f)
        ∙ all_map (all (cell_allowed w)) (λ c. c.words) cs)

    module _ (few : length cs ≤ 8) where
      -- it is read, with so many tables
      pub contents-read : read_set_as v (contents_bytes v cs) ≡ Ok (length cs)
      unfolding read_set_as
      contents-read = read-from 8 0 cs s f few ∙ ap Ok (omega arith)

      -- its tables, in which no version is named
      pub contents-tables : tables_as v (contents_bytes v cs) ≡ content_tables cs
      unfolding table_rows
      contents-tables i =
          record {
            amount = ap amount_of contents-read i;
            width = λ t. one_table (λ r. columns_of r) (λ c. c.columns) (λ c s f rest. refl) t cs s f i;
            rows = λ t. one_table table_rows content_rows (λ c s f rest. rows-of v c s f rest) t cs s f i;
          }

-- ---- a set that is read is the bytes of what it holds

-- where `found` tables were read before, at most `left` may follow and there are m in all
pub record Contents (v : Version) (left found : ℕ) (s : List ℕ) (m : ℕ) : Type 0 where
  pub contents : List Content
  pub sized : AllSized contents
  pub fits : all_fitting v contents ≡ true
  pub few : length contents ≤ left
  pub count : found + length contents ≡ m
  pub is : s ≡ contents_bytes v contents

-- nothing is left
no-contents : (v : Version) (left found : ℕ) (s : List ℕ) (m : ℕ) → length s ≡ 0 → found ≡ m → Contents v left found s m
no-contents v left found s m z e =
    record { contents = []; sized = tt; fits = refl; few = omega arith; count = omega arith; is = drop_of_length-le s {i = 0} (omega arith) }

-- a table that is read, and what follows it
more-contents : (v : Version) (left found : ℕ) (s : List ℕ) (m n : ℕ) → Held v s n
    → Contents v left (found + 1) (drop n s) m → Contents v (suc left) found s m
more-contents v left found s m n h r =
    record {
      contents = h.content ∷ r.contents;
      sized = (h.sized, r.sized);
      fits = rw (h.fits, r.fits);
      few = omega (arith, r.few);
      count = omega (arith, r.count);
      is = h.is ∙ ap (λ (l : List ℕ). content_bytes v h.content ++ l) r.is;
    }

-- table by table
contents-from : (v : Version) (left found : ℕ) (s : List ℕ) (m : ℕ) → Bytes s → read_from v left found s ≡ Ok m → Contents v left found s m
unfolding read_from
contents-from v zero found s m b e = by (eqb (length s) 0) refl e
  where
    by : (c : Bool) → eqb (length s) 0 ≡ c → (if c then Ok found else Err SetLong) ≡ Ok m → Contents v zero found s m
    by true z q = no-contents v zero found s m (eqb-true (length s) 0 z) (ok-is found m q)
    by false z q = err-ok SetLong m q
contents-from v (suc left) found s m b e =
    by (eqb (length s) 0) refl (read_table v s) refl e (λ n q. contents-from v left (found + 1) (drop n s) m (drop-small n s b) q)
  where
    by : (c : Bool) → eqb (length s) 0 ≡ c → (r : Result ℕ Refusal) → read_table v s ≡ r
        → (if c then Ok found else after_table r (λ bytes. read_from v left (found + 1) (drop bytes s))) ≡ Ok m
        → ((n : ℕ) → read_from v left (found + 1) (drop n s) ≡ Ok m → Contents v left (found + 1) (drop n s) m) → Contents v (suc left) found s m
    by true z r p q go = no-contents v (suc left) found s m (eqb-true (length s) 0 z) (ok-is found m q)
    by false z (Err k) p q go = err-ok k m q
    by false z (Ok n) p q go = more-contents v left found s m n (held v s n p b) (go n q)

-- A set of bytes that is read as version v is the bytes of what it holds.
pub contents_of : (v : Version) (s : List ℕ) (m : ℕ) → Bytes s → read_set_as v s ≡ Ok m → Contents v 8 0 s m
unfolding read_set_as
contents_of v s m b e = contents-from v 8 0 s m b e
