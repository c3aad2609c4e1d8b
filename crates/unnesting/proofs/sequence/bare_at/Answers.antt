use Rattle.unnesting.proofs.SequenceLaws.{bare-select, bare-same}
use Rattle.unnesting.proofs.sequence.bare_at.Goals as goal

pub returns-in-Select : goal.returns-in-Select
returns-in-Select c = bare-select c.args.plan.now c.args.f c.node_at-node.result c.requires.1 c.node_at-node.ensures c.requires.0 c.in-Select.is

pub returns-in_default : goal.returns-in_default
returns-in_default c = bare-same c.args.plan.now c.args.f c.node_at-node.result c.requires.1 c.node_at-node.ensures c.in_default.not-Select
