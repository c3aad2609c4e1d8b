use Rattle.unnesting.proofs.JoinLaws.{unprojected-below, unprojected-same}
use Rattle.unnesting.proofs.join.unprojected_at.Goals as goal

pub returns-in-Project : goal.returns-in-Project
returns-in-Project c = unprojected-below c.args.plan.now c.args.f c.requires.1 c.node_at.result c.node_at.ensures c.requires.0 c.in-Project.is

pub returns-in_default : goal.returns-in_default
returns-in_default c = unprojected-same c.args.plan.now c.args.f c.requires.1 c.node_at.result c.node_at.ensures c.in_default.not-Project
