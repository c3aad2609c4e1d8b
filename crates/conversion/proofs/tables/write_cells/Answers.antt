use Prim.Native.Nat.{ℕ, ◌*◌}
use native.Mathlib.Omega.{arith}
use mathlib.Core.Path.{◌≡◌, sym, ap, ap₂, ◌∙◌}
use mathlib.Core.List.{List}
use Rattle.algebra.specs.Lists.{flat_map, upward}
use Rattle.reading.specs.TableSet.{columns_of, rows_of, cell_allowed}
use Rattle.reading.specs.Encoding.{number_bytes}
use Rattle.conversion.specs.Helpers.{bytes_written}
use Rattle.conversion.proofs.Writing.{flat_written}
use Rattle.conversion.proofs.TableBytes.{word_in, word_at, word_fits, words-bytes, part-next, part_room}
use Rattle.conversion.proofs.tables.write_cells.Goals as goal
use Rattle.conversion.proofs.tables.write_cells.Goals.{After-cell}

word-is : (c : After-cell) → c.cell.result ≡ word_in c.args.table.now c.loop-i.i
word-is c = word_at c.args.table.now _ _ c.loop-i.i _ c.version_at-from.ensures c.table_cells-cells.ensures c.cell.ensures

count-is : (c : After-cell) → c.columns_of.result * c.rows_of.result ≡ columns_of c.args.table.now * rows_of c.args.table.now
count-is c = ap₂ (λ (x y : ℕ). x * y) c.columns_of.ensures.value c.rows_of.ensures.value

pub write_number-requires : goal.write_number-requires
write_number-requires c =
    let a = c.args in
    let l = c.loop-i in (
      ap (cell_allowed a.version) (word-is ((goal.at.write_number-requires c).After-cell)) ∙ word_fits a.version a.table.now c.requires.0 l.i (omega (arith, count-is (goal.at.write_number-requires c).After-cell)),
      omega (arith, c.requires.1, part_room a.version a.table.now l.i (omega (arith, count-is (goal.at.write_number-requires c).After-cell))),
    )

pub loop-i-preserved : goal.loop-i-preserved
loop-i-preserved c =
    let a = c.args in
    let l = c.loop-i in
    let room = part_room a.version a.table.now l.i (omega (arith, count-is (goal.at.loop-i-preserved c).After-cell)) in
    let f : ℕ → List ℕ = λ k. number_bytes a.version (word_in a.table.now k) in (
      omega (arith, part-next a.version a.table.now l.i, c.cell_size-size.ensures.value),
      c.write_number.ensures ∙ (ap₂ (λ (s : List ℕ) (w : ℕ). bytes_written s l.place (number_bytes a.version w)) l.invariant.1 (word-is (goal.at.loop-i-preserved c).After-cell)
          ∙ flat_written f a.out.now a.at l.i l.place (omega (arith, c.requires.1)) l.invariant.0),
    )

pub returns : goal.returns
returns c =
    let a = c.args in
    let l = c.loop-i in
    let q : l.i ≡ columns_of a.table.now * rows_of a.table.now = omega (arith, ap₂ (λ (x y : ℕ). x * y) c.columns_of.ensures.value c.rows_of.ensures.value) in
    l.invariant.1 ∙ ap (bytes_written a.out.now a.at) (ap (λ (k : ℕ). flat_map (λ k. number_bytes a.version (word_in a.table.now k)) (upward k 0)) q ∙ sym (words-bytes a.version a.table.now))
