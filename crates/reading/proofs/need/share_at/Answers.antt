use native.Mathlib.Omega.{arith}
use mathlib.Core.Path.{◌≡◌}
use Prim.Native.Nat.{◌*◌}
use Rattle.reading.specs.TableSet.{tables_of}
use Rattle.reading.specs.Tree.{plan_at}
use Rattle.reading.specs.Nodes.{capped_share}
use Rattle.reading.proofs.Places.{root-at}
use Rattle.reading.proofs.NeedLaws.{capped_share-most}
use Rattle.reading.proofs.need.share_at.Goals as goal
use Rattle.reading.proofs.need.share_at.Goals.{After-columns_at}

-- the product of what was read is what the node counts: the node that was read is the tree's root
share-here : (c : After-columns_at) → c.counted_rows-rows.result * c.columns_at.result ≡ capped_share (tables_of c.args.set.now) (plan_at c.args.plan.now c.args.i)
share-here c =
    let a = c.args in
    rw (c.counted_rows-rows.ensures, c.node_at.ensures, c.bound_at.ensures, c.columns_at.ensures, root-at a.plan.now a.i c.requires)

pub overflow_mul-result : goal.overflow_mul-result
overflow_mul-result c =
    let a = c.args in
    omega (arith, share-here (goal.at.overflow_mul-result c).After-columns_at, capped_share-most (tables_of a.set.now) (plan_at a.plan.now a.i))

pub returns : goal.returns
returns c = share-here (goal.at.returns c).After-columns_at
