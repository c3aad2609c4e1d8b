use borrow.Author.Count.{below_more}
use Prim.Native.Nat.{ℕ, ◌*◌, ◌<◌}
use native.Mathlib.Omega.{arith}
use mathlib.Core.Path.{◌≡◌, sym, ap, ap₂, ◌∙◌}
use Rattle.reading.specs.TableSet.{columns_of, rows_of, cell_allowed}
use Rattle.reading.proofs.Laws.{all-holds, all-fails}
use Rattle.conversion.proofs.TableBytes.{word_in, word_at, words-all}
use Rattle.conversion.proofs.tables.table_fits.Goals as goal
use Rattle.conversion.proofs.tables.table_fits.Goals.{After-cell_allowed}

tested : (c : After-cell_allowed) → c.cell_allowed.result ≡ cell_allowed c.args.version (word_in c.args.table.now c.loop-i.i)
tested c = c.cell_allowed.ensures ∙ ap (cell_allowed c.args.version) (word_at c.args.table.now _ _ c.loop-i.i _ c.version_at-from.ensures c.table_cells-cells.ensures c.cell.ensures)

pub returns-then-not-cell_allowed : goal.returns-then-not-cell_allowed
returns-then-not-cell_allowed c =
    let a = c.args in
    let l = c.loop-i in
    let h : l.i < columns_of a.table.now * rows_of a.table.now = omega (arith, ap₂ (λ (x y : ℕ). x * y) c.columns_of.ensures.value c.rows_of.ensures.value) in
    sym (words-all a.version a.table.now ∙ all-fails _ _ l.i h (sym (tested (goal.at.returns-then-not-cell_allowed c).After-cell_allowed) ∙ c.if-not-cell_allowed.true))

pub loop-i-preserved : goal.loop-i-preserved
loop-i-preserved c =
    let l = c.loop-i in
    below_more _ _ l.invariant (sym (tested (goal.at.loop-i-preserved c).After-cell_allowed) ∙ c.if-not-cell_allowed.false)

pub returns : goal.returns
returns c =
    let a = c.args in
    let l = c.loop-i in
    sym (words-all a.version a.table.now ∙ all-holds _ _ (λ k h. l.invariant k (omega (arith, ap₂ (λ (x y : ℕ). x * y) c.columns_of.ensures.value c.rows_of.ensures.value))))
