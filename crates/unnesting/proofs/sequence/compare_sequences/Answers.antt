use native.Mathlib.Omega.{arith}
use mathlib.Core.Path.{refl, ap, ◌∙◌}
use mathlib.Core.List.{[], ◌∷◌}
use Prim.Native.Nat.{◌≤◌}
use Rattle.algebra.specs.Plans.{distinct, one}
use Rattle.reading.specs.TableSet.{tables_of}
use Rattle.reading.specs.Tree.{plan_at}
use Rattle.reporting.proofs.Arms.{ids-part}
use Rattle.unnesting.specs.Sequences.{rows_of_one}
use Rattle.unnesting.proofs.SequenceLaws.{unwrapped, stands, InFront, in-front, in_front-few, keys-width}
use Rattle.unnesting.proofs.sequence.compare_sequences.Goals as goal
use Rattle.unnesting.proofs.sequence.compare_sequences.Goals.{After-unwrap-second, After-unwrap-first}

values : (c : After-unwrap-first) → let a = c.args in InFront a.input.set.now (plan_at a.input.plan.now a.e) c.unwrap-first.result.rows c.rows_at.new.scratch
values c = let a = c.args in in-front a.input.set.now a.input.plan.now a.scratch.now c.args.input.accepted (omega (arith, c.args.input.needed, c.requires.room)) (plan_at a.input.plan.now a.e) c.rows_at.new.scratch c.unwrap-first.result c.requires.e_value (unwrapped c.unwrap-first.ensures c.rows_at.ensures)

few : (c : After-unwrap-first) → c.unwrap-first.result.rows ≤ 4096
few c = let a = c.args in in_front-few a.input.set.now a.input.plan.now a.scratch.now c.args.input.accepted (omega (arith, c.args.input.needed, c.requires.room)) a.e _ _ (values c)

keys : (c : After-unwrap-second) → let a = c.args in InFront a.input.set.now (one (distinct (a.key ∷ [])) (plan_at a.input.plan.now a.h)) c.unwrap-second.result.rows c.keys_at.new.scratch
keys c =
    let a = c.args in
    let s = c.rows_at.new.scratch in
    in-front a.input.set.now a.input.plan.now s c.args.input.accepted (omega (arith, c.args.input.needed, c.requires.room, c.rows_at.auto.scratch)) (one (distinct (a.key ∷ [])) (plan_at a.input.plan.now a.h)) c.keys_at.new.scratch c.unwrap-second.result (keys-width (tables_of a.input.set.now) a.key (plan_at a.input.plan.now a.h)) (unwrapped c.unwrap-second.ensures c.keys_at.ensures)

pub unwrap-first-requires : goal.unwrap-first-requires
unwrap-first-requires c =
    let a = c.args in
    stands a.input.set.now a.input.plan.now a.scratch.now c.args.input.accepted (omega (arith, c.args.input.needed, c.requires.room)) (plan_at a.input.plan.now a.e) _ _ c.rows_at.ensures

pub unwrap-second-requires : goal.unwrap-second-requires
unwrap-second-requires c =
    let a = c.args in
    stands a.input.set.now a.input.plan.now c.rows_at.new.scratch c.args.input.accepted (omega (arith, c.args.input.needed, c.requires.room, c.rows_at.auto.scratch)) (one (distinct (a.key ∷ [])) (plan_at a.input.plan.now a.h)) _ _ c.keys_at.ensures

pub front_of-values-requires : goal.front_of-values-requires
front_of-values-requires c = (few (goal.at.front_of-values-requires c).After-unwrap-first, (values (goal.at.front_of-values-requires c).After-unwrap-first).long)

pub slice_bounds-first_difference-end : goal.slice_bounds-first_difference-end
slice_bounds-first_difference-end c = omega (arith, few (goal.at.slice_bounds-first_difference-end c).After-unwrap-first)

pub slice_bounds-first_difference-end-2 : goal.slice_bounds-first_difference-end-2
slice_bounds-first_difference-end-2 c = omega (arith, (keys (goal.at.slice_bounds-first_difference-end-2 c).After-unwrap-second).long)

pub returns : goal.returns
returns c =
    let v = values (goal.at.returns c).After-unwrap-first in
    let k = keys (goal.at.returns c).After-unwrap-second in
    let x = ap rows_of_one (ids-part c.unwrap-first.result.rows c.front_of-values.result c.front_of-values.ensures) ∙ v.values in
    let y = ap rows_of_one (ids-part c.unwrap-second.result.rows c.keys_at.new.scratch refl) ∙ k.values in
    rw (x, y) at c.first_difference.ensures
