use native.Mathlib.Omega.{arith}
use Rattle.reading.specs.Tree.{plan_at}
use Rattle.unnesting.proofs.SequenceLaws.{unwrapped, stands, some-row}
use Rattle.unnesting.proofs.sequence.gives_row.Goals as goal

pub unwrap-given-requires : goal.unwrap-given-requires
unwrap-given-requires c =
    let a = c.args in
    stands a.input.set.now a.input.plan.now a.scratch.now c.args.input.accepted (omega (arith, c.args.input.needed, c.requires.room)) (plan_at a.input.plan.now a.f) _ _ c.rows_at.ensures

pub returns : goal.returns
returns c =
    let a = c.args in
    some-row a.input.set.now a.input.plan.now a.scratch.now c.args.input.accepted (omega (arith, c.args.input.needed, c.requires.room)) (plan_at a.input.plan.now a.f) _ c.unwrap-given.result (unwrapped c.unwrap-given.ensures c.rows_at.ensures)
