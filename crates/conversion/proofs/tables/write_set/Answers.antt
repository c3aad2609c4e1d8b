use Prim.Native.Nat.{ℕ}
use native.Mathlib.Omega.{arith}
use mathlib.Core.Path.{◌≡◌, sym, ap, ap₂, ◌∙◌}
use mathlib.Core.List.{List}
use lib.ListN.{length, length-append}
use Rattle.reading.specs.TableSet.{table_from}
use Rattle.conversion.specs.Bytes.{table_bytes, set_bytes}
use Rattle.conversion.specs.Helpers.{bytes_written}
use Rattle.conversion.proofs.Writing.{written_none}
use Rattle.conversion.proofs.TableBytes.{set-none, set_more, set_room_lem, set-written, table_of}
use Rattle.conversion.proofs.tables.write_set.Goals as goal
use Rattle.conversion.proofs.tables.write_set.Goals.{After-table_from-table}

size_is : (c : After-table_from-table) → length (table_bytes c.args.version c.table_from-table.result.now) ≡ length (table_bytes c.args.version (table_from c.loop-t.t c.args.set.now))
size_is c = ap (λ (s : List ℕ). length (table_bytes c.args.version s)) c.table_from-table.ensures

pub loop-t-init : goal.loop-t-init
loop-t-init c =
    let a = c.args in
    let e = set-none a.version a.set.now in
    (sym (ap length e), written_none a.out.now 0 ∙ sym (ap (bytes_written a.out.now 0) e))

pub write_table-requires : goal.write_table-requires
write_table-requires c =
    let a = c.args in
    let l = c.loop-t in (
      rw c.table_from-table.ensures (c.requires.0.long l.t (omega arith)),
      rw c.table_from-table.ensures (table_of a.version a.set.now a.tables c.requires.1 l.t (omega arith)),
      omega (arith, size_is (goal.at.write_table-requires c).After-table_from-table, set_room_lem a.version a.set.now l.t a.tables (omega arith), c.requires.2),
    )

pub table_size-at-requires : goal.table_size-at-requires
table_size-at-requires c = rw c.table_from-table.ensures (c.requires.0.long c.loop-t.t (omega arith))

pub loop-t-preserved : goal.loop-t-preserved
loop-t-preserved c =
    let a = c.args in
    let l = c.loop-t in
    let e = ap length (set_more a.version a.set.now l.t) ∙ length-append (set_bytes a.version l.t a.set.now) (table_bytes a.version (table_from l.t a.set.now)) in (
      omega (arith, e, size_is (goal.at.loop-t-preserved c).After-table_from-table, c.table_size-at.ensures.0),
      c.write_table.ensures ∙ (ap₂ (λ (s r : List ℕ). bytes_written s l.at (table_bytes a.version r)) l.invariant.1 c.table_from-table.ensures
          ∙ set-written a.version a.set.now a.out.now l.t l.at (omega (arith, set_room_lem a.version a.set.now l.t a.tables (omega arith), c.requires.2)) l.invariant.0),
    )
