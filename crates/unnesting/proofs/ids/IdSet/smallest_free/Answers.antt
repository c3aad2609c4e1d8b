use native.Mathlib.Omega.{arith}
use Rattle.unnesting.proofs.BitLaws.{searched_none, searched-next, searched-found, searched_all}
use Rattle.unnesting.proofs.ids.IdSet.smallest_free.Goals as goal

pub loop-i-init : goal.loop-i-init
loop-i-init c = searched_none _

pub returns-then-free-lt64 : goal.returns-then-free-lt64
returns-then-free-lt64 c = searched-found c.loop-i.invariant (omega arith) c.lowest-free.ensures c.if-free-lt64.true

pub loop-i-preserved : goal.loop-i-preserved
loop-i-preserved c = searched-next c.loop-i.invariant (omega arith) c.lowest-free.ensures (omega arith)

pub returns : goal.returns
returns c = searched_all c.loop-i.invariant (omega arith)
