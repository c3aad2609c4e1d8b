use mathlib.Core.Path.{refl}
use Rattle.unnesting.proofs.BitLaws.{run-put}
use Rattle.unnesting.proofs.ids.IdSet.put_run.Goals as goal

pub loop-k-preserved : goal.loop-k-preserved
loop-k-preserved c = run-put c.args.first c.loop-k.k _ refl c.loop-k.invariant c.put.ensures
