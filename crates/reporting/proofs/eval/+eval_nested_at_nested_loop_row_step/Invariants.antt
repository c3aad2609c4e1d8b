-- The measures of the evaluator's cycle, and what its loop keeps.
use Prim.Native.Nat.{◌+◌, ◌*◌}
use Rattle.reading.specs.Tree.{plan_at}
use mathlib.Core.Path.{◌≡◌}
use Prim.Native.Nat.{◌+◌, ◌*◌}
use lib.ListN.{length}
use Rattle.algebra.specs.Lists.{flat_map}
use Rattle.reading.specs.TableSet.{tables_of}
use Rattle.reading.specs.Tree.{operator_of, plan_at}
use Rattle.reporting.specs.Rows.{rows_from, env_of, emitted_columns, emitted_most}
use Rattle.reporting.specs.Evaluation.{columns_at, bound_at, nested_row}
use Rattle.reporting.proofs.Building.{Building}
use Prim.Native.Nat.{◌+◌, ◌*◌}
use Rattle.algebra.specs.Places.{size}
use Rattle.reporting.proofs.eval.+eval_nested_at_nested_loop_row_step.Given as goal

abbrev pub decreases-eval : goal.decreases-eval
decreases-eval l = 4 * size (plan_at l.plan.now l.at)

abbrev pub decreases-nested_at : goal.decreases-nested_at
decreases-nested_at l = 4 * size (plan_at l.plan.now l.inner) + 3

abbrev pub decreases-nested_loop : goal.decreases-nested_loop
decreases-nested_loop l = 4 * size (plan_at l.plan.now l.inner) + 2

abbrev pub decreases-row_step : goal.decreases-row_step
decreases-row_step l = 4 * size (plan_at l.plan.now l.inner) + 1

abbrev pub invariant-nested_loop-loop : goal.invariant-nested_loop-loop
invariant-nested_loop-loop l =
    Building (nested_row (tables_of l.set) (operator_of l.node) l.ids (plan_at l.plan l.inner) (env_of l.env)) (flat_map (nested_row (tables_of l.set) (operator_of l.node) l.ids (plan_at l.plan l.inner) (env_of l.env)) (rows_from l.own l.m (length l.ids) l.initial.cells)) (emitted_most (operator_of l.node) (bound_at l.set l.plan l.inner)) l.m (length l.ids) (length (emitted_columns (operator_of l.node) l.ids (columns_at l.set l.plan l.inner))) l.own l.cells l.counter l.out l.src l.dst × (length l.cells ≡ length l.initial.cells)
