-- A table's cells, row by row, are its rows. Assumes nothing.
use Prim.Native.Nat.{ℕ, zero, suc, ◌+◌, ◌*◌, ◌/◌, ◌≤◌, ◌<◌}
use mathlib.Core.Logic.{◌⊎◌}
use mathlib.Core.Path.{◌≡◌, refl, sym, ap, ap₂, subst, ◌∙◌}
use mathlib.Core.List.{List, [], ◌∷◌, ◌++◌, map, map-append}
use native.Mathlib.Nat.{add-zero, zero-add, suc-add, add-suc, mul-suc, mul-zero}
use native.Mathlib.Numerals.{add-one}
use native.Mathlib.Omega.{arith}
use borrow.Author.Tests.{lt-ltb}
use lib.ListN.{length, take, drop, set, length-map}
use lib.Seq.{take_at, drop_at, take-take, take-nil, take-suc-set}
use Rattle.algebra.specs.Lists.{upward}
use Rattle.algebra.specs.Plans.{Row}
use Rattle.reading.specs.Bytes.{unsigned_at}
use Rattle.reading.specs.Versions.{word_of}
use Rattle.reading.specs.TableSet.{table_version, columns_of, rows_of, cells_of, cell_at, table_from, table_rows, tables_of}
use Rattle.reading.specs.Tree.{operator_by, operator_of}
use Rattle.reading.specs.declared.kinds.Kind.{Kind}
use Rattle.reading.specs.declared.kinds.Kind.TheVariants.{Unit, Scan, Other}
use Rattle.reading.specs.declared.plan.Node.{Node}
use Rattle.reading.specs.declared.version.Version.{Version}
use Rattle.reading.specs.declared.version.Version.TheVariants.{Second}
use Rattle.reading.proofs.BoundLaws.{length-rows}
use Rattle.reading.proofs.Operators.{each_kind, one_of, just_other}
use Rattle.reading.proofs.Places.{upward_append, upward-more, upward-length}
use Rattle.reporting.specs.Rows.{chunk, Gives}
use Rattle.reporting.specs.Evaluation.{leaf_given, leaf_width, leaf_most}
use Rattle.reporting.proofs.Chunks.{times_suc}

-- the cells behind the first w of w + n
behind : (w n : ℕ) (l : List ℕ) → drop w (take (w + n) l) ≡ take n (drop w l)
behind zero n l = rw zero-add
behind (suc w) n [] = rw (suc-add, take-nil)
behind (suc w) n (x ∷ l) = rw suc-add (behind w n l)

-- one more cell is written to the front
pub next-cell : (f : ℕ → ℕ) (cells : List ℕ) (i : ℕ) → take i cells ≡ map f (upward i 0) → i < length cells → take (i + 1) (set cells i (f i)) ≡ map f (upward (i + 1) 0)
next-cell f cells i e h =
    let z : 0 + i ≡ i = omega arith in
    rw add-one (take-suc-set cells i (f i) h)
    ∙ ap (λ (l : List ℕ). l ++ (f i ∷ [])) e
    ∙ sym (ap (map f) (upward-more i 0) ∙ map-append f (upward i 0) ((0 + i) ∷ []) ∙ rw z)

-- a cell that the table has is the word of its bytes
pub cell-word : (from : List ℕ) (i : ℕ) → i < length from / 8 → word_of Second (unsigned_at 8 from (8 * i)) ≡ cell_at Second from i
cell-word from i h = simp (lt-ltb _ _ h)

-- numbers counted from a
from : (f : ℕ → ℕ) (n a b : ℕ) → map f (upward n (a + b)) ≡ map (λ c. f (a + c)) (upward n b)
from f zero a b = refl
from f (suc n) a b = ap (λ (l : List ℕ). f (a + b) ∷ l) (rw (← add-suc a b) (from f n a (suc b)))

module _ (f : ℕ → ℕ) (w : ℕ) where
  -- row r of the cells that f gives
  abbrev row_at : ℕ → Row
  row_at r = map (λ c. f (w * r + c)) (upward w 0)

  rows-upward : (k r : ℕ) (cells : List ℕ) → take (k * w) cells ≡ map f (upward (k * w) (w * r)) → chunk k w cells ≡ map row_at (upward k r)
  unfolding chunk
  rows-upward zero r cells e = refl
  rows-upward (suc k) r cells e =
      let front : List ℕ = map f (upward w (w * r)) in
      let long : length front ≡ w = length-map (upward w (w * r)) f ∙ upward-length w (w * r) in
      let both : take (w + k * w) cells ≡ front ++ map f (upward (k * w) (w * r + w)) =
      ap (λ (n : ℕ). take n cells) (sym (times_suc k w)) ∙ e ∙ ap (λ (n : ℕ). map f (upward n (w * r))) (times_suc k w)
      ∙ ap (map f) (upward_append w (k * w) (w * r)) ∙ map-append f (upward w (w * r)) (upward (k * w) (w * r + w)) in
      let first : take w cells ≡ row_at r = sym (take-take w (w + k * w) cells (omega arith)) ∙ ap (take w) both ∙ take_at front _ w long ∙ ap (λ (n : ℕ). map f (upward w n)) (sym (add-zero (w * r))) ∙ from f w (w * r) 0 in
      let rest : take (k * w) (drop w cells) ≡ map f (upward (k * w) (w * suc r)) = sym (behind w (k * w) cells) ∙ ap (drop w) both ∙ drop_at front _ w long ∙ ap (λ (n : ℕ). map f (upward (k * w) n)) (sym (mul-suc w r)) in
      ap₂ (λ (x : Row) (l : List Row). x ∷ l) first (rows-upward k (suc r) (drop w cells) rest)

pub table-rows : (table cells : List ℕ) → take (rows_of table * columns_of table) cells ≡ map (cell_at (table_version table) (cells_of table)) (upward (rows_of table * columns_of table) 0)
    → chunk (rows_of table) (columns_of table) cells ≡ table_rows table
unfolding table_rows
table-rows table cells e =
    rows-upward (cell_at (table_version table) (cells_of table)) (columns_of table) (rows_of table) 0 cells (rw (mul-zero (columns_of table)) e)

-- the cells of a table that were written to the front are its rows
pub table-gives : (table cells from : List ℕ) (v : Version) (r n : ℕ) → v ≡ table_version table → r ≡ rows_of table → n ≡ rows_of table * columns_of table → from ≡ cells_of table
    → take n cells ≡ map (cell_at v from) (upward n 0) → Gives (table_rows table) (columns_of table) (rows_of table) r cells
table-gives table cells from v r n o e m f t = record {
  is = ap (λ (k : ℕ). chunk k (columns_of table) cells) e ∙ table-rows table cells (rw (← o, ← m, ← f) t);
  few = omega arith;
}

-- ---- a node with no children, by its kind

module _ (set : List ℕ) (node : Node) (r : ℕ) (cells : List ℕ) where
  abbrev Gives-leaf : Kind → Type 0
  Gives-leaf k = Gives (leaf_given (tables_of set) (operator_by k node)) (leaf_width (tables_of set) (operator_by k node)) (leaf_most (tables_of set) (operator_by k node)) r cells

  abbrev table : List ℕ
  table = table_from node.arg set

  pub scan-gives : node.kind ≡ Scan → Gives (table_rows table) (columns_of table) (rows_of table) r cells → Gives-leaf node.kind
  unfolding operator_by
  scan-gives e g = subst Gives-leaf (sym e) (rw (upward-length (columns_of table) node.id, length-rows table) g)

pub unit-gives : (set : List ℕ) (node : Node) (cells : List ℕ) → (node.kind ≡ Unit) ⊎ ((byte : ℕ) × (node.kind ≡ Other byte)) → Gives-leaf set node 1 cells node.kind
unfolding operator_by chunk
unit-gives set node cells =
    one_of (Gives-leaf set node 1 cells) (record { is = refl; few = omega arith }) (just_other (Gives-leaf set node 1 cells) (λ byte. record { is = refl; few = omega arith }))

pub none-gives : (set : List ℕ) (node : Node) (cells : List ℕ) → (node.kind ≡ Scan → ⊥) → (node.kind ≡ Unit → ⊥) → ((byte : ℕ) → node.kind ≡ Other byte → ⊥) → Gives-leaf set node 0 cells node.kind
unfolding operator_by chunk
none-gives set node cells =
    each_kind (λ k. (k ≡ Scan → ⊥) → (k ≡ Unit → ⊥) → ((byte : ℕ) → k ≡ Other byte → ⊥) → Gives-leaf set node 0 cells k)
    (λ a b c. absurd (b refl)) (λ a b c. absurd (a refl)) none none none none none none none none none none none none none
    (λ k a b c. absurd (c k refl)) node.kind
  where
    none : {A B C : Type 0} → A → B → C → Gives [] 0 0 0 cells
    none a b c = record { is = refl; few = omega arith }

-- the room that a Scan asks for
pub scan-room : (set : List ℕ) (node : Node) (n : ℕ) → node.kind ≡ Scan → leaf_most (tables_of set) (operator_of node) * leaf_width (tables_of set) (operator_of node) ≤ n
    → rows_of (table_from node.arg set) * columns_of (table_from node.arg set) ≤ n
unfolding operator_by
scan-room set node n e h =
    let t : List ℕ = table_from node.arg set in
    let g : length (table_rows t) * length (upward (columns_of t) node.id) ≤ n = subst (λ k. leaf_most (tables_of set) (operator_by k node) * leaf_width (tables_of set) (operator_by k node) ≤ n) e h in
    rw (length-rows t, upward-length (columns_of t) node.id) at g
