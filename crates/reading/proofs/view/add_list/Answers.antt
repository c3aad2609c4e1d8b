use borrow.Author.Rules.{rules}
use Prim.Native.Nat.{◌<◌}
use lib.ListN.{get_or}
use Rattle.reading.proofs.FlagLaws.{list-adds}
use Rattle.reading.proofs.view.add_list.Goals as goal

pub loop-id-preserved : goal.loop-id-preserved
loop-id-preserved c =
    let e = c.as_slice-id-items.ensures in
    let b : get_or c.as_slice-id-items.result.now c.loop-id.id-index 0 < 256 = search rules in
    (search rules, rw e (list-adds _ c.loop-id.id-index (rw e at c.loop-id-test.true) (rw e at b) c.loop-id.invariant.1))
