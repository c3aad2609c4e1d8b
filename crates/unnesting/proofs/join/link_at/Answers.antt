use mathlib.Core.Path.{◌∙◌}
use Rattle.reading.proofs.FlagLaws.{adds-first}
use Rattle.reading.proofs.PlanBytes.{PlanPassed, plan_passed}
use Rattle.unnesting.proofs.AllowedNodes.{allowed_node}
use Rattle.unnesting.proofs.Demand3.{input-parts}
use Rattle.unnesting.proofs.JoinLaws.{link-other, link-select}
use Rattle.unnesting.proofs.join.link_at.Goals as goal
use Rattle.unnesting.proofs.join.link_at.Goals.{Start}

passed : (c : Start) → PlanPassed c.args.set.now c.args.plan.now
passed c = plan_passed _ _ (input-parts _ _ c.requires.plan_value).1

pub returns-in_default-clause-result_value : goal.returns-in_default-clause-result_value
returns-in_default-clause-result_value c = link-other _ _ _ _ c.requires.f_bound _ c.node_at-node.ensures c.in_default.not-Select

pub returns-in-Select-clause-result_value : goal.returns-in-Select-clause-result_value
returns-in-Select-clause-result_value c =
    c.link_of.ensures.links.decides _ _ (adds-first c.add_columns-first.ensures) (adds-first c.add_columns-second.ensures)
    ∙ link-select _ _ _ _ c.requires.f_bound _ c.node_at-node.ensures (passed (goal.at.returns-in-Select-clause-result_value c).Start).whole c.in-Select.is

pub returns-in-Select-clause-result_value_2 : goal.returns-in-Select-clause-result_value_2
returns-in-Select-clause-result_value_2 c =
    c.link_of.ensures.result_value
    (rw c.node_at-node.ensures (allowed_node _ (passed (goal.at.returns-in-Select-clause-result_value_2 c).Start).known _ c.requires.f_bound).tested)
