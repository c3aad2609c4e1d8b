use mathlib.Core.Path.{◌∙◌}
use Rattle.reading.specs.TableSet.{tables_of}
use Rattle.reading.specs.Tree.{plan_at}
use Rattle.reading.proofs.NeedLaws.{capped-part}
use Rattle.reporting.proofs.columns.tree_part.Goals as goal

pub returns : goal.returns
returns c =
    let a = c.args in
    let s = c.requires in
    c.part_at.ensures ∙ capped-part (tables_of a.set.now) (plan_at a.plan.now a.i) s.narrow_all s.low_all
