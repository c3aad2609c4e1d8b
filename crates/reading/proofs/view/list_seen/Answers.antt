use borrow.Author.Rules.{rules}
use Prim.Native.Nat.{◌<◌}
use lib.ListN.{get_or}
use Rattle.reading.proofs.FlagLaws.{left_absent, left-more, left_end}
use Rattle.reading.proofs.view.list_seen.Goals as goal

pub returns-then-left-at-ne1 : goal.returns-then-left-at-ne1
returns-then-left-at-ne1 c =
    let e = c.as_slice-id-items.ensures in
    let b : get_or c.as_slice-id-items.result.now c.loop-id.id-index 0 < 256 = search rules in
    left_absent c.loop-id.invariant.1 (rw e at c.loop-id-test.true) (rw e at b) (rw e at c.if-left-at-ne1.true)

pub loop-id-preserved : goal.loop-id-preserved
loop-id-preserved c =
    let e = c.as_slice-id-items.ensures in
    let b : get_or c.as_slice-id-items.result.now c.loop-id.id-index 0 < 256 = search rules in
    (search rules, rw e (left-more c.loop-id.invariant.1 (rw e at c.loop-id-test.true) (rw e at b) (rw e at c.if-left-at-ne1.false)))

pub returns : goal.returns
returns c = left_end c.loop-id.invariant.1 (rw c.as_slice-id-items.ensures at c.loop-id-test.false)
