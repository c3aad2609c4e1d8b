use mathlib.Core.Path.{sym, ap, ◌∙◌}
use native.Mathlib.Omega.{arith}
use lib.Dec.{eqb}
use borrow.Author.Tests.{ne_eqb}
use Rattle.reporting.specs.Tallies.{added}
use Rattle.reporting.proofs.Tallies.{added-blank, added-cell}
use Rattle.reporting.proofs.gather.Tally.add.Goals as goal

pub returns-then-cell-eq0 : goal.returns-then-cell-eq0
returns-then-cell-eq0 c =
    let t = c.args.self in
    let e = c.if-cell-eq0.true in
    (added-blank t ∙ sym (ap (added t) e), record { few = omega arith; lower = omega arith; upper = omega arith })

pub returns-then-cell-eq18446744073709551615 : goal.returns-then-cell-eq18446744073709551615
returns-then-cell-eq18446744073709551615 c =
    let t = c.args.self in
    let x = c.args.cell in (
      added-cell t x c.lesser_cell.result c.max.result (eqb x 18446744073709551615) c.if-cell-eq0.false c.lesser_cell.ensures c.max.ensures (rw c.if-cell-eq18446744073709551615.true),
      record { few = omega arith; lower = omega arith; upper = omega (arith, c.ranges.cell) },
    )

pub returns-else-cell-eq18446744073709551615 : goal.returns-else-cell-eq18446744073709551615
returns-else-cell-eq18446744073709551615 c =
    let t = c.args.self in
    let x = c.args.cell in (
      added-cell t x c.lesser_cell.result c.max.result t.off c.if-cell-eq0.false c.lesser_cell.ensures c.max.ensures (rw (ne_eqb x 18446744073709551615 c.if-cell-eq18446744073709551615.false)),
      record { few = omega arith; lower = omega arith; upper = omega (arith, c.ranges.cell) },
    )
