use Rattle.unnesting.proofs.RuleLaws.{other-none}
use Rattle.unnesting.proofs.shape.shape_at.Goals as goal

pub returns-in_default : goal.returns-in_default
returns-in_default c =
    let a = c.args.place in
    let d = c.in_default in
    other-none _ _ a.plan.now a.i a.within a.node a.is d.not-Semi d.not-Anti d.not-Some d.not-Every d.not-Fold d.not-Each d.not-Pair
