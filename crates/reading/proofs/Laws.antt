-- Laws of the definitions of specs/, over plain lists and numbers, which the functions' proofs cite. Assumes nothing.
use Rattle.std.specs.Prelude.{if◌then◌else◌, Result, Ok, Err}
use Prim.Native.Nat.{ℕ, zero, suc, ◌+◌, ◌-◌, ◌/◌, ◌≤◌, ◌<◌}
use native.Mathlib.Omega.{arith}
use native.Mathlib.Nat.{le_refl}
use native.Mathlib.Decide.{dec_lt}
use mathlib.Core.Path.{◌≡◌, refl, sym, ap, ◌∙◌}
use mathlib.Core.Bool.{Bool, true, false, ◌&&◌, and-false, not, false≢true}
use mathlib.Core.List.{List, [], ◌∷◌}
use lib.ListN.{length, take, drop, length-drop}
use lib.Dec.{ltb, eqb}
use lib.Seq.{take_all, drop-drop}
use borrow.Author.Tests.{eqb-true, eq-eqb, ne_eqb}
use Rattle.std.specs.Cmp.Lexicographic.{pointwise}
use Rattle.algebra.proofs.Cells.{eqb-sym}
use Rattle.reading.specs.Bytes.{all_below}
use borrow.Author.Tests.{lt-ltb, le-ltb, ltb-false, not-false}
use Rattle.reading.specs.Bytes.{starts_with}
use Rattle.reading.specs.Versions.{cell_size}
use Rattle.reading.specs.TableSet.{table_mark, table_version, size_allowed, cell_bytes, cells_of, cell_at, cell_allowed, cells_allowed, read_table, read_from, read_set_as, read_set, after_table, table_from}
use Rattle.reading.specs.declared.version.Version.{Version}
use Rattle.reading.specs.declared.version.Version.TheVariants.{Second}
use Rattle.reading.specs.declared.refusal.Refusal.{Refusal}
use Rattle.reading.specs.declared.refusal.Refusal.TheVariants.{TableShort, TableMark, TableSize, CellCode, SetLong}
use Rattle.reading.proofs.VersionLaws.{marked-version}

-- ---- results

-- an error is no value
pub err-ok : {A E C : Type 0} (r : E) (x : A) → ◌≡◌ {A = Result A E} (Err r) (Ok x) → C
err-ok r x e = let z : ◌≡◌ {A = ℕ} 0 1 = cc in absurd (omega arith)

pub ok-is : {A E : Type 0} (x y : A) → ◌≡◌ {A = Result A E} (Ok x) (Ok y) → x ≡ y
ok-is x y e = cc

-- ---- parts of a list

-- the part of a slice from a place to its end
pub rest-is : (a : ℕ) (s : List ℕ) → take (length s - a) (drop a s) ≡ drop a s
rest-is a s = take_all (length s - a) (drop a s) (simp length-drop (le_refl _))

-- the cells of the table that starts at a place, as the part of the set that they are
pub cells_are_lem : (s : List ℕ) (at n : ℕ) → n ≡ cell_bytes (take (length s - at) (drop at s))
    → take (at + (8 + n) - (at + 8)) (drop (at + 8) s) ≡ cells_of (take (length s - at) (drop at s))
unfolding cells_of
cells_are_lem s at n e =
    let q : at + (8 + n) - (at + 8) ≡ n = omega arith in
    rw (q, ← drop-drop 8 at s, ← e, rest-is at s)

-- ---- a mark

-- as the library's `starts_with` compares
pub starts_same : (mark s : List ℕ) → pointwise eqb mark (take (length mark) s) ≡ starts_with mark s
unfolding starts_with
starts_same [] s = refl
starts_same (m ∷ mark) [] = refl
starts_same (m ∷ mark) (b ∷ s) = rw (eqb-sym m b, starts_same mark s)

-- ---- a test of every number below a bound

pub all-holds : (n : ℕ) (p : ℕ → Bool) → ((k : ℕ) → k < n → p k ≡ true) → all_below n p ≡ true
unfolding all_below
all-holds zero p h = refl
all-holds (suc n) p h = rw (all-holds n p (λ k l. h k (omega arith)), h n (le_refl _))

pub all-fails : (n : ℕ) (p : ℕ → Bool) (k : ℕ) → k < n → p k ≡ false → all_below n p ≡ false
unfolding all_below
all-fails zero p k h e = absurd (omega arith)
all-fails (suc n) p k h e = last (dec_lt k n) (λ l. all-fails n p k l e)
  where
    last : Dec (k < n) → (k < n → all_below n p ≡ false) → (all_below n p && p n) ≡ false
    last (yes l) r = rw (r l)
    last (no l) r = let q : k ≡ n = omega arith in rw (← q, e, and-false)

-- ---- reading one table: a law for each way out

module _ (v : Version) (t : List ℕ) where
  pub read_short : length t < 8 → read_table v t ≡ Err TableShort
  unfolding read_table
  read_short h = rw (lt-ltb _ _ h)

  pub read-mark : 8 ≤ length t → starts_with (table_mark v) t ≡ false → read_table v t ≡ Err TableMark
  unfolding read_table
  read-mark h m = rw (le-ltb _ _ h, m)

  pub read-size : 8 ≤ length t → starts_with (table_mark v) t ≡ true → size_allowed t ≡ false → read_table v t ≡ Err TableSize
  unfolding read_table
  read-size h m z = rw (le-ltb _ _ h, m, z)

  pub read-cut : 8 ≤ length t → starts_with (table_mark v) t ≡ true → size_allowed t ≡ true → length t < 8 + cell_bytes t → read_table v t ≡ Err TableShort
  unfolding read_table
  read-cut h m z l = rw (le-ltb _ _ h, m, z, lt-ltb _ _ l)

  pub read-code : 8 ≤ length t → starts_with (table_mark v) t ≡ true → size_allowed t ≡ true → 8 + cell_bytes t ≤ length t → cells_allowed v (cells_of t) ≡ false → read_table v t ≡ Err CellCode
  unfolding read_table
  read-code h m z l a = rw (le-ltb _ _ h, m, z, le-ltb _ _ l, a)

  pub read_whole : 8 ≤ length t → starts_with (table_mark v) t ≡ true → size_allowed t ≡ true → 8 + cell_bytes t ≤ length t → cells_allowed v (cells_of t) ≡ true → read_table v t ≡ Ok (8 + cell_bytes t)
  unfolding read_table
  read_whole h m z l a = rw (le-ltb _ _ h, m, z, le-ltb _ _ l, a)

-- where five tests lead to `Ok`, each of them failed
tests_failed : (b₁ b₂ b₃ b₄ b₅ : Bool) (m n : ℕ)
    → (if b₁ then Err TableShort else if b₂ then Err TableMark else if b₃ then Err TableSize else if b₄ then Err TableShort else if b₅ then Err CellCode else Ok m) ≡ Ok n
    → (b₁ ≡ false) × (b₂ ≡ false) × (b₃ ≡ false) × (b₄ ≡ false) × (b₅ ≡ false) × (m ≡ n)
tests_failed true b₂ b₃ b₄ b₅ m n e = err-ok TableShort n e
tests_failed false true b₃ b₄ b₅ m n e = err-ok TableMark n e
tests_failed false false true b₄ b₅ m n e = err-ok TableSize n e
tests_failed false false false true b₅ m n e = err-ok TableShort n e
tests_failed false false false false true m n e = err-ok CellCode n e
tests_failed false false false false false m n e = (refl, refl, refl, refl, refl, ok-is m n e)

-- what is known of a table that was read as a version's
pub record WholeTable (v : Version) (t : List ℕ) (n : ℕ) : Type 0 where
  pub version : table_version t ≡ v
  pub size : size_allowed t ≡ true
  pub bytes : n ≡ 8 + cell_bytes t
  pub fits : 8 + cell_bytes t ≤ length t
  pub codes : cells_allowed v (cells_of t) ≡ true

pub whole-table : (v : Version) (t : List ℕ) (n : ℕ) → read_table v t ≡ Ok n → WholeTable v t n
unfolding read_table
whole-table v t n e =
    let f = tests_failed (ltb (length t) 8) (not (starts_with (table_mark v) t)) (not (size_allowed t)) (ltb (length t) (8 + cell_bytes t)) (not (cells_allowed v (cells_of t))) (8 + cell_bytes t) n e in
    record {
      version = marked-version 84 66 76 v t (not-false _ f.1);
      size = not-false _ f.2;
      bytes = sym f.5;
      fits = ltb-false _ _ f.3;
      codes = not-false _ f.4;
    }

-- ---- reading the set: a law for each step

pub from_end : (v : Version) (left found : ℕ) (s : List ℕ) → length s ≡ 0 → read_from v left found s ≡ Ok found
unfolding read_from
from_end v zero found s h = rw (eq-eqb _ _ h)
from_end v (suc left) found s h = rw (eq-eqb _ _ h)

pub from-five : (v : Version) (found : ℕ) (s : List ℕ) → (length s ≡ 0 → ⊥) → read_from v 0 found s ≡ Err SetLong
unfolding read_from
from-five v found s h = rw (ne_eqb _ _ h)

pub from_bad : (v : Version) (left found : ℕ) (k : Refusal) (s : List ℕ) → (length s ≡ 0 → ⊥) → read_table v s ≡ Err k → read_from v (suc left) found s ≡ Err k
unfolding read_from
from_bad v left found k s h e = rw (ne_eqb _ _ h, e)

pub from-whole : (v : Version) (left found n : ℕ) (s : List ℕ) → (length s ≡ 0 → ⊥) → read_table v s ≡ Ok n → read_from v (suc left) found s ≡ read_from v left (found + 1) (drop n s)
unfolding read_from
from-whole v left found n s h e = rw (ne_eqb _ _ h, e)

-- the place after a table that was read, and what follows it
module _ (v : Version) (s : List ℕ) (at found n : ℕ) (h : at < length s) (f : found < 8) (e : read_table v (drop at s) ≡ Ok n) where
  pub next_place : at + n ≤ length s
  next_place = let w = whole-table v (drop at s) n e in omega (arith, length-drop at s, w.bytes, w.fits)

  pub next-tables : read_from v (8 - found) found (drop at s) ≡ read_from v (8 - (found + 1)) (found + 1) (drop (at + n) s)
  next-tables =
      let q : 8 - found ≡ suc (8 - (found + 1)) = omega arith in
      rw (q, from-whole v (8 - (found + 1)) found n (drop at s) (λ z. omega (arith, length-drop at s)) e, drop-drop n at s)

pub refused-table : (v : Version) (s : List ℕ) (at found : ℕ) (k : Refusal) → at < length s → found < 8 → read_table v (drop at s) ≡ Err k
    → read_from v (8 - found) found (drop at s) ≡ Err k
refused-table v s at found k h f e =
    let q : 8 - found ≡ suc (8 - (found + 1)) = omega arith in
    rw (q, from_bad v (8 - (found + 1)) found k (drop at s) (λ z. omega (arith, length-drop at s)) e)

-- ---- finding a table

pub table-next : (t : ℕ) (s : List ℕ) → table_from (suc t) s ≡ table_from t (drop (8 + cell_bytes s) s)
unfolding table_from
table-next t s = refl

-- ---- what an upper layer may use of a set that was read

-- a choice whose outcome is known: by which way it came
if_came : {A C : Type 0} (b : Bool) (x y z : A) → (if b then x else y) ≡ z → (b ≡ true → x ≡ z → C) → (b ≡ false → y ≡ z → C) → C
if_came true x y z e f g = f refl e
if_came false x y z e f g = g refl e

-- each table of a set that was read is whole
accepted-from : (v : Version) (left found : ℕ) (s : List ℕ) (m t : ℕ) → read_from v left found s ≡ Ok m → found + t < m
    → (n : ℕ) × (read_table v (table_from t s) ≡ Ok n)
unfolding read_from table_from
accepted-from v zero found s m t e h =
    if_came (eqb (length s) 0) _ _ _ e
    (λ _ q. absurd (omega (arith, ok-is found m q)))
    (λ _ q. err-ok SetLong m q)
accepted-from v (suc left) found s m t e h =
    if_came (eqb (length s) 0) _ _ _ e
    (λ _ q. absurd (omega (arith, ok-is found m q)))
    (λ _ q. by (read_table v s) refl q t h (λ n t' p l. accepted-from v left (found + 1) (drop n s) m t' p l))
  where
    by : (r : Result ℕ Refusal) → read_table v s ≡ r → after_table r (λ bytes. read_from v left (found + 1) (drop bytes s)) ≡ Ok m → (t : ℕ) → found + t < m
        → ((n t' : ℕ) → read_from v left (found + 1) (drop n s) ≡ Ok m → found + 1 + t' < m → (x : ℕ) × (read_table v (table_from t' (drop n s)) ≡ Ok x))
        → (x : ℕ) × (read_table v (table_from t s) ≡ Ok x)
    by (Err k) w q t h go = err-ok k m q
    by (Ok n) w q zero h go = (n, w)
    by (Ok n) w q (suc t) h go = rw (← (whole-table v s n w).bytes) (go n t q (omega arith))

pub accepted-table : (v : Version) (s : List ℕ) (m t : ℕ) → read_set_as v s ≡ Ok m → t < m → WholeTable v (table_from t s) (8 + cell_bytes (table_from t s))
unfolding read_set_as
accepted-table v s m t e h =
    let a = accepted-from v 8 0 s m t e (omega arith) in
    let w = whole-table v (table_from t s) a.0 a.1 in
    record { version = w.version; size = w.size; bytes = refl; fits = w.fits; codes = w.codes }

pub all-at : (n : ℕ) (p : ℕ → Bool) → all_below n p ≡ true → (k : ℕ) → k < n → p k ≡ true
unfolding all_below
all-at zero p e k h = absurd (omega arith)
all-at (suc n) p e k h = last (dec_lt k n) (all_below n p) (p n) refl refl e (λ b. all-at n p b k)
  where
    last : Dec (k < n) → (a b : Bool) → all_below n p ≡ a → p n ≡ b → (a && b) ≡ true → (all_below n p ≡ true → k < n → p k ≡ true) → p k ≡ true
    last d true true pa pb q go = near d
      where
        near : Dec (k < n) → p k ≡ true
        near (yes l) = go pa l
        near (no l) = let z : k ≡ n = omega arith in rw z pb
    last d true false pa pb q go = absurd (false≢true q)
    last d false b pa pb q go = absurd (false≢true q)

-- each word of a table that was read is blank, off scale or a number, also past the last cell
pub accepted-cell : (v : Version) (s : List ℕ) (m t i : ℕ) → read_set_as v s ≡ Ok m → t < m → cell_allowed v (cell_at v (cells_of (table_from t s)) i) ≡ true
unfolding cells_allowed
accepted-cell v s m t i e h = at (dec_lt i (length (cells_of (table_from t s)) / cell_size v))
  where
    at : Dec (i < length (cells_of (table_from t s)) / cell_size v) → cell_allowed v (cell_at v (cells_of (table_from t s)) i) ≡ true
    at (yes l) = all-at _ _ (accepted-table v s m t e h).codes i l
    at (no l) = let k : length (cells_of (table_from t s)) / cell_size v ≤ i = omega arith in rw (le-ltb _ _ k)

-- each table of a set that is read as version v has that version
pub accepted-version : (v : Version) (s : List ℕ) (m t : ℕ) → read_set_as v s ≡ Ok m → t < m → table_version (table_from t s) ≡ v
accepted-version v s m t e h = (accepted-table v s m t e h).version

-- nothing follows the last table
past_end : (t : ℕ) (s : List ℕ) → length s ≡ 0 → table_from t s ≡ []
unfolding table_from
past_end zero [] h = refl
past_end zero (x ∷ s) h = absurd (omega arith)
past_end (suc t) s h = past_end t (drop (8 + cell_bytes s) s) (length-drop (8 + cell_bytes s) s ∙ omega arith)

found-most : (v : Version) (left found : ℕ) (s : List ℕ) (m : ℕ) → read_from v left found s ≡ Ok m → found ≤ m
unfolding read_from
found-most v zero found s m e =
    if_came (eqb (length s) 0) _ _ _ e
    (λ _ q. omega (arith, ok-is found m q))
    (λ _ q. err-ok SetLong m q)
found-most v (suc left) found s m e =
    if_came (eqb (length s) 0) _ _ _ e
    (λ _ q. omega (arith, ok-is found m q))
    (λ _ q. by (read_table v s) q (λ n p. found-most v left (found + 1) (drop n s) m p))
  where
    by : (r : Result ℕ Refusal) → after_table r (λ bytes. read_from v left (found + 1) (drop bytes s)) ≡ Ok m
        → ((n : ℕ) → read_from v left (found + 1) (drop n s) ≡ Ok m → found + 1 ≤ m) → found ≤ m
    by (Err k) q go = err-ok k m q
    by (Ok n) q go = omega (arith, go n q)

past-from : (v : Version) (left found : ℕ) (s : List ℕ) (m t : ℕ) → read_from v left found s ≡ Ok m → m ≤ found + t → table_from t s ≡ []
unfolding read_from table_from
past-from v zero found s m t e h =
    if_came (eqb (length s) 0) _ _ _ e
    (λ z _. past_end t s (eqb-true _ _ z))
    (λ _ q. err-ok SetLong m q)
past-from v (suc left) found s m t e h =
    if_came (eqb (length s) 0) _ _ _ e
    (λ z _. past_end t s (eqb-true _ _ z))
    (λ _ q. by (read_table v s) refl q t h (λ n t' p l. past-from v left (found + 1) (drop n s) m t' p l))
  where
    by : (r : Result ℕ Refusal) → read_table v s ≡ r → after_table r (λ bytes. read_from v left (found + 1) (drop bytes s)) ≡ Ok m → (t : ℕ) → m ≤ found + t
        → ((n t' : ℕ) → read_from v left (found + 1) (drop n s) ≡ Ok m → m ≤ found + 1 + t' → table_from t' (drop n s) ≡ []) → table_from t s ≡ []
    by (Err k) w q t h go = err-ok k m q
    by (Ok n) w q zero h go = absurd (omega (arith, found-most v left (found + 1) (drop n s) m q))
    by (Ok n) w q (suc t) h go = rw (← (whole-table v s n w).bytes) (go n t q (omega arith))

-- every table of a set that is read as version 2 is looked at as version 2, also past the last one
pub second-version : (s : List ℕ) (m t : ℕ) → read_set s ≡ Ok m → table_version (table_from t s) ≡ Second
unfolding read_set_as
second-version s m t e = elim (dec_lt t m) [
  | yes l ↦ accepted-version Second s m t e l
  | no l ↦ ap table_version (past-from Second 8 0 s m t e (omega arith))
]
