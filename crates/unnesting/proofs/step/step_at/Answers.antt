use mathlib.Core.Path.{sym, ◌∙◌}
use Rattle.unnesting.proofs.AttemptLaws.{step-none, step_unready, step_left, left-shape}
use Rattle.unnesting.proofs.step.step_at.Goals as goal

pub ready_at-requires-clause-i_nonzero : goal.ready_at-requires-clause-i_nonzero
ready_at-requires-clause-i_nonzero c = let a = c.args in left-shape a.input.set.now a.input.plan.now c.args.input.accepted a.i c.requires.i_bound.0 _ _ _ c.in_ok-next.ensures

pub returns-else-ready_at : goal.returns-else-ready_at
returns-else-ready_at c =
    let a = c.args in
    step_unready a.input.set.now a.input.plan.now c.args.input.accepted a.i c.requires.i_bound.0 (sym c.ready_at.ensures ∙ c.if-ready_at.false)

pub returns-in_err-next : goal.returns-in_err-next
returns-in_err-next c =
    let a = c.args in
    rw c.from_residual.ensures (step-none a.input.set.now a.input.plan.now c.args.input.accepted a.i c.requires.i_bound.0 c.in_err-next.ensures)

pub returns-then-ready_at : goal.returns-then-ready_at
returns-then-ready_at c =
    let a = c.args in
    step_left a.input.set.now a.input.plan.now c.args.input.accepted a.i c.requires.i_bound.0 _ _ _ (sym c.ready_at.ensures ∙ c.if-ready_at.true) c.in_ok-next.ensures
