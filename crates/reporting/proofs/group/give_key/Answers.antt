use native.Mathlib.Omega.{arith}
use lib.ListN.{length}
use Rattle.reporting.proofs.Groups.{key-written}
use Rattle.reporting.proofs.group.give_key.Goals as goal

pub returns : goal.returns
returns c =
    let a = c.args in
    key-written a.found.now a.cells.now a.dst a.rows.at a.rows.count (length a.rows.columns.now) a.key c.requires.0 c.requires.1 (omega (arith, c.requires)) c.gather-value.result c.gather-value.ensures
