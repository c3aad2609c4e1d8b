use mathlib.Core.Path.{◌∙◌}
use borrow.Author.Tests.{ne_eqb}
use Rattle.unnesting.proofs.CountLaws.{only-other, only-more, only-first}
use Rattle.unnesting.proofs.count.only_key.Goals as goal

pub returns-in_default : goal.returns-in_default
returns-in_default c = only-other c.args.plan.now c.args.e c.requires c.args.key c.node_at-node.result c.node_at-node.ensures c.in_default.not-Distinct

pub returns-then-node-eq1 : goal.returns-then-node-eq1
returns-then-node-eq1 c = only-first c.args.plan.now c.args.e c.requires c.args.key c.node_at-node.result c.node_at-node.ensures c.in-Distinct.is c.if-node-eq1.true

pub returns-else-node-eq1 : goal.returns-else-node-eq1
returns-else-node-eq1 c = ne_eqb _ 1 c.if-node-eq1.false ∙ only-more c.args.plan.now c.args.e c.requires c.args.key c.node_at-node.result c.node_at-node.ensures c.in-Distinct.is c.if-node-eq1.false
