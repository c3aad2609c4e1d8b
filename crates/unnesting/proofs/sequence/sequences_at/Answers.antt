use native.Mathlib.Omega.{arith}
use mathlib.Core.Path.{refl}
use Rattle.algebra.specs.Rules.{bare, fresh, top}
use Rattle.reading.specs.TableSet.{tables_of}
use Rattle.reading.specs.Tree.{plan_at, plan_of}
use Rattle.reporting.proofs.Reports.{whole-input}
use Rattle.unnesting.proofs.AttemptLaws.{nodes-few}
use Rattle.unnesting.proofs.SequenceLaws.{Found, found-semi, found-pair}
use Rattle.unnesting.proofs.sequence.sequences_at.Goals as goal
use Rattle.unnesting.proofs.sequence.sequences_at.Goals.{In-Pair, In_default}

paired : (c : In-Pair) → let a = c.args in Found a.input.plan.now a.i a.node c.requires.i_bound.0 c.requires.i_bound.1 (tables_of a.input.set.now) c.tree_end-f.result a.node.right (plan_at a.input.plan.now c.tree_end-f.result)
paired c = let a = c.args in found-pair a.input.plan.now a.i a.node c.requires.i_bound.0 c.requires.i_bound.1 (tables_of a.input.set.now) (fresh (tables_of a.input.set.now) (plan_of a.input.plan.now)) (whole-input a.input.set.now a.input.plan.now c.args.input.accepted) c.tree_end-f.result c.tree_end-f.ensures c.requires.i_bound.2 c.requires.i_nonzero c.in-Pair.is

keyed : (c : In_default) → let a = c.args in Found a.input.plan.now a.i a.node c.requires.i_bound.0 c.requires.i_bound.1 (tables_of a.input.set.now) c.tree_end-f.result a.node.right (bare (top (plan_at a.input.plan.now c.tree_end-f.result)))
keyed c = let a = c.args in found-semi a.input.plan.now a.i a.node c.requires.i_bound.0 c.requires.i_bound.1 (tables_of a.input.set.now) (fresh (tables_of a.input.set.now) (plan_of a.input.plan.now)) (whole-input a.input.set.now a.input.plan.now c.args.input.accepted) c.tree_end-f.result c.tree_end-f.ensures c.requires.i_bound.2 c.requires.i_nonzero c.in_default.not-Pair

pub overflow_add-e : goal.overflow_add-e
overflow_add-e c = omega (arith, c.requires.i_bound.0, nodes-few c.args.input.set.now c.args.input.plan.now c.args.input.accepted)

pub compare_sequences-requires-clause-e_value : goal.compare_sequences-requires-clause-e_value
compare_sequences-requires-clause-e_value c = (paired (goal.at.compare_sequences-requires-clause-e_value c).In-Pair).wide

pub returns-in-Pair : goal.returns-in-Pair
returns-in-Pair c = (paired (goal.at.returns-in-Pair c).In-Pair).answer (plan_at c.args.input.plan.now c.tree_end-f.result) c.compare_sequences.result refl c.compare_sequences.ensures

pub bare_at-h-requires : goal.bare_at-h-requires
bare_at-h-requires c = let a = c.args in (whole-input a.input.set.now a.input.plan.now c.args.input.accepted, (keyed ((goal.at.bare_at-h-requires c).In_default)).inside)

pub compare_sequences-requires-in_default-clause-e_value : goal.compare_sequences-requires-in_default-clause-e_value
compare_sequences-requires-in_default-clause-e_value c = (keyed (goal.at.compare_sequences-requires-in_default-clause-e_value c).In_default).wide

pub returns-in_default : goal.returns-in_default
returns-in_default c = (keyed (goal.at.returns-in_default c).In_default).answer (plan_at c.args.input.plan.now c.bare_at-h.result) c.compare_sequences-in_default.result c.bare_at-h.ensures c.compare_sequences-in_default.ensures
