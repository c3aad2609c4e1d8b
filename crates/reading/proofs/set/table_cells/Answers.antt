use mathlib.Core.Path.{◌∙◌}
use Rattle.reading.specs.TableSet.{cells_of}
use Rattle.reading.proofs.set.table_cells.Goals as goal

pub returns : goal.returns
unfolding cells_of
returns c =
    let e = c.table_from-table.ensures in
    c.head.ensures ∙ rw (← e, c.cell_bytes-size.ensures.value, c.tail.ensures)
