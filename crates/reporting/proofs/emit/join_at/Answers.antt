use native.Mathlib.Omega.{arith}
use lib.ListN.{length}
use Rattle.reporting.proofs.Emits.{joined_at}
use Rattle.reporting.proofs.emit.join_at.Goals as goal

pub returns : goal.returns
returns c =
    let a = c.args in
    let p = c.requires in
    let j = c.join_rows in
    joined_at a.cells.now j.new.cells a.src a.w a.dst a.right.at a.right.count (length a.right.columns.now) (omega arith) (omega arith) (omega arith) j.ensures.gives j.ensures.cells_unchanged
