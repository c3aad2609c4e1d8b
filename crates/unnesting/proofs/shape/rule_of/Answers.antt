use Rattle.unnesting.proofs.RuleLaws.{no-rule}
use Rattle.reading.specs.Tree.{operator_by}
use Rattle.unnesting.proofs.shape.rule_of.Goals as goal

pub returns-in-Semi : goal.returns-in-Semi
unfolding operator_by
returns-in-Semi c = rw (c.in-Semi.is, ← c.if-is_plain.ensures)

pub returns-in-Anti : goal.returns-in-Anti
unfolding operator_by
returns-in-Anti c = rw (c.in-Anti.is, ← c.if-is_plain-2.ensures)

pub returns-in-Semi-2 : goal.returns-in-Semi-2
unfolding operator_by
returns-in-Semi-2 c = rw (c.in-Semi.is, ← c.if-is_plain.ensures)

pub returns-in-Semi-2-2 : goal.returns-in-Semi-2-2
unfolding operator_by
returns-in-Semi-2-2 c = rw (c.in-Anti.is, ← c.if-is_plain-2.ensures)

pub returns-in-Some : goal.returns-in-Some
unfolding operator_by
returns-in-Some c = rw c.in-Some.is

pub returns-in-Every : goal.returns-in-Every
unfolding operator_by
returns-in-Every c = rw c.in-Every.is

pub returns-in-Fold : goal.returns-in-Fold
unfolding operator_by
returns-in-Fold c = rw c.in-Fold.is

pub returns-in-Each : goal.returns-in-Each
unfolding operator_by
returns-in-Each c = rw c.in-Each.is

pub returns-in-Pair : goal.returns-in-Pair
unfolding operator_by
returns-in-Pair c = rw c.in-Pair.is

pub returns-in_default : goal.returns-in_default
returns-in_default c =
    let d = c.in_default in
    no-rule c.args.node c.args.node.kind d.not-Semi d.not-Anti d.not-Some d.not-Every d.not-Fold d.not-Each d.not-Pair
