use Rattle.reading.proofs.FlagLaws.{adds_none, adds_then}
use Rattle.reading.proofs.free.add_test.Goals as goal

pub returns-in-Always : goal.returns-in-Always
returns-in-Always c = rw c.in-Always.is (adds_none _)

pub returns-in-Columns : goal.returns-in-Columns
returns-in-Columns c = rw c.in-Columns.is (adds_then c.add_id.ensures c.add_id-in-Columns.ensures)

pub returns-in-Number : goal.returns-in-Number
returns-in-Number c = rw c.in-Number.is c.add_id-in-Number.ensures
