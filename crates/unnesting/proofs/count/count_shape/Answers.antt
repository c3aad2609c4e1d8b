use mathlib.Core.Path.{refl}
use Rattle.reading.proofs.PlanBytes.{plan_passed}
use Rattle.unnesting.proofs.Demand3.{input-parts}
use Rattle.unnesting.proofs.CountLaws.{count_unfree}
use Rattle.unnesting.proofs.count.count_shape.Goals as goal

pub fresh_id-requires : goal.fresh_id-requires
fresh_id-requires c = (plan_passed c.args.place.set.now c.args.place.plan.now (input-parts c.args.place.set.now c.args.place.plan.now c.args.place.accepted).1).whole

pub returns-in_err-c : goal.returns-in_err-c
returns-in_err-c c =
    rw (c.from_residual.ensures, ← c.fresh_id.ensures, c.in_err-c.was)
    (count_unfree (record { accepted = c.args.place.accepted; within = c.args.place.within; is = c.args.place.is; ends = refl }) c.requires)
