use Rattle.algebra.specs.Places.{size}
use Rattle.reading.specs.Plan.{nodes_of}
use Rattle.reading.specs.Tree.{whole_tree, plan_of}
use Rattle.reading.proofs.Ends.{whole-end}
use Rattle.reading.proofs.tree.whole_tree.Goals as goal

pub returns : goal.returns
unfolding whole_tree
returns c =
    let plan = c.args.plan.now in
    rw (c.tree_end.ensures, c.nodes_of-n.ensures.0) (whole-end (size (plan_of plan)) (nodes_of plan))
