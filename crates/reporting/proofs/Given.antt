-- A report's rows, as `rows_at` of a whole plan leaves them at the front of scratch, for the layers above. Assumes nothing.
use Rattle.std.specs.Prelude.{Ok}
use Prim.Native.Nat.{ℕ, ◌+◌, ◌*◌, ◌-◌, ◌≤◌}
use mathlib.Core.Path.{◌≡◌, refl, sym, ap, ap₂, ◌∙◌}
use mathlib.Core.List.{List, ◌∷◌, ◌++◌, append_assoc}
use native.Mathlib.Omega.{arith}
use lib.ListN.{length, take, drop, replicate, length-append}
use lib.Seq.{take_at, drop_at}
use borrow.Author.Tests.{le-ltb}
use Rattle.algebra.specs.Lists.{flat_map}
use Rattle.algebra.specs.Plans.{Row, Tables, Plan}
use Rattle.algebra.specs.Refusals.{need}
use Rattle.algebra.specs.Rules.{outside}
use Rattle.reading.specs.TableSet.{tables_of}
use Rattle.reading.specs.Tree.{plan_of}
use Rattle.reporting.specs.Rows.{chunk}
use Rattle.reporting.specs.Report.{report_rows, row_count, column_count, tree_cells, rows_number, RowsGiven}
use Rattle.reporting.specs.declared.answer.Report.{Report}
use Rattle.reporting.proofs.Reports.{accepted-few}
use Rattle.reporting.proofs.Subplans.{not-turned}
use Rattle.reporting.proofs.Widths.{Wide, nothing, more, eval-wide, table-wide, cells_count}

-- rows of w cells, one after another, are read back
pub chunk_flat : {w : ℕ} {rs : List Row} → Wide w rs → (rest : List ℕ) → chunk (length rs) w (flat_map (λ (r : Row). r) rs ++ rest) ≡ rs
unfolding chunk
chunk_flat nothing rest = refl
chunk_flat {w} (more {r = r} {rs = rs} e h) rest =
    let cells : List ℕ = flat_map (λ (r : Row). r) rs ++ rest in
    ap (λ (l : List ℕ). take w l ∷ chunk (length rs) w (drop w l)) (append_assoc r (flat_map (λ (r : Row). r) rs) rest)
    ∙ ap₂ (λ (row : Row) (l : List ℕ). row ∷ chunk (length rs) w l) (take_at r cells w e) (drop_at r cells w e)
    ∙ ap (λ (l : List Row). r ∷ l) (chunk_flat h rest)

-- the report's rows at the front of cells
pub record Standing (set plan : List ℕ) (rows w : ℕ) (cells : List ℕ) : Type 0 where
  pub are : chunk rows w cells ≡ report_rows set plan
  pub count : rows ≡ row_count set plan
  pub width : w ≡ column_count set plan
  pub inside : rows * w ≤ length cells
  pub few : rows ≤ 4096
  pub thin : w ≤ 32

pub standing : (set plan scratch scratch' : List ℕ) (r : Report) → RowsGiven set plan (plan_of plan) scratch scratch' (Ok r)
    → Standing set plan r.rows r.columns scratch'
unfolding rows_number
standing set plan scratch scratch' r g =
    let T : Tables = tables_of set in
    let p : Plan = plan_of plan in
    let (a, h) = not-turned set plan scratch (sym g.number) in
    let l = le-ltb (length scratch) (need T p) h in
    let m : r.rows ≡ row_count set plan = rw (a, l) at g.rows in
    let w : r.columns ≡ column_count set plan = rw (a, l) at g.columns in
    let rest : List ℕ = replicate (length scratch - length (tree_cells set p)) 0 in
    let c : scratch' ≡ tree_cells set p ++ rest = rw (a, l) at g.cells in
    let wide : Wide (column_count set plan) (report_rows set plan) = eval-wide T (table-wide set) p outside in
    let long : length (tree_cells set p) ≡ row_count set plan * column_count set plan = cells_count (λ (row : Row). row) (λ row. refl) (column_count set plan) wide in
    let all : length scratch' ≡ length (tree_cells set p) + length rest = ap length c ∙ length-append (tree_cells set p) rest in
    let used : r.rows * r.columns ≡ row_count set plan * column_count set plan = ap₂ ◌*◌ m w in
    let small = accepted-few set plan a in
    record {
      are = (λ i. chunk (m i) (w i) (c i)) ∙ chunk_flat wide rest;
      count = m;
      width = w;
      inside = omega (arith, long, all, used);
      few = omega (arith, m, small.0);
      thin = omega (arith, w, small.1);
    }
