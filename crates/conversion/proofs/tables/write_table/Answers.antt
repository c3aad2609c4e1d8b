use native.Mathlib.Omega.{arith}
use mathlib.Core.Path.{refl, ap}
use lib.ListN.{length, length-take}
use Rattle.conversion.proofs.TableBytes.{table-long, table-written}
use Rattle.conversion.proofs.tables.write_table.Goals as goal

pub write_bytes-requires : goal.write_bytes-requires
write_bytes-requires c = omega (arith, c.requires.2, table-long c.args.version c.args.table.now c.requires.0, ap length c.table_mark-mark.ensures)

pub write_bytes-requires-2 : goal.write_bytes-requires-2
write_bytes-requires-2 c = simp length-take (omega (arith, c.requires.2, table-long c.args.version c.args.table.now c.requires.0, c.write_bytes.auto.out))

pub write_cells-requires : goal.write_cells-requires
write_cells-requires c = (c.requires.1, omega (arith, c.requires.2, table-long c.args.version c.args.table.now c.requires.0, c.write_bytes.auto.out, c.write_bytes-2.auto.out))

pub returns : goal.returns
returns c =
    let a = c.args in
    table-written a.version a.table.now a.at a.out.now _ _ _ _ _ c.requires.0 (omega (arith, c.requires.2, table-long a.version a.table.now c.requires.0))
    c.table_mark-mark.ensures refl c.write_bytes.ensures c.write_bytes-2.ensures c.write_cells.ensures
