use Prim.Native.Nat.{◌*◌}
use mathlib.Core.Path.{ap, ap₂, ◌∙◌}
use Rattle.reading.specs.TableSet.{table_version, columns_of, rows_of, table_from}
use Rattle.reporting.proofs.TableRows.{table-gives}
use Rattle.reporting.proofs.leaf.scan.Goals as goal

pub returns : goal.returns
returns c =
    let a = c.args in
    let table = c.table_from-table.ensures in
    let rows = c.rows_of-rows.ensures.value ∙ ap rows_of table in
    table-gives (table_from a.t a.set.now) _ _ c.version_at.result _ _ (c.version_at.ensures ∙ ap table_version table)
    rows (ap₂ ◌*◌ rows (c.columns_of.ensures.value ∙ ap columns_of table)) c.table_cells.ensures c.cells_in.ensures
