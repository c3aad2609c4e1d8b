-- The examples, computed. Assumes nothing.
use mathlib.Core.Path.{refl}
use Rattle.algebra.specs.Cells.{compares, aggregate_within}
use Rattle.algebra.specs.Plans.{truth, columns, gather_within, emit_within, act_within, joined_within, eval_within}
use Rattle.algebra.specs.Places.{size, flatten, subtrees, modify, look}
use Rattle.algebra.specs.Names.{unary_free, free, closed, introduced}
use Rattle.algebra.specs.Refusals.{bound, need, fields, once, in_view, refusal, passes}
use Rattle.algebra.specs.Rules.{rule_of, unnest, rule}
use Rattle.algebra.specs.Steps.{weight, attempt, after, smallest, run}
use Rattle.algebra.specs.StayNotes.{sequences_of, stays, note_at}
use Rattle.reading.specs.Bytes.{starts_with, all_below}
use Rattle.reading.specs.TableSet.{cells_of, cells_allowed, read_table, read_from, read_set_as, table_from, table_rows}
use Rattle.reading.specs.Plan.{list_ends, fields_allowed, test_of, node_of, node_at, nodes_allowed, read_plan_as}
use Rattle.reading.specs.Tree.{operator_by, tree_at, plan_at, whole_tree}
use Rattle.reading.specs.Encoding.{node_bytes_as, plan_bytes_as}
use Rattle.reading.specs.Check.{plan_refusal_as, input_refusal_as}
use Rattle.reporting.specs.Report.{report_number}
use Rattle.unnesting.specs.Unnest.{passed_through, unnest_need, unnest_number}
use Rattle.unnesting.specs.StayNote.{stay_number}
use Rattle.unnesting.specs.Examples.{club_set, moved_set, club_plan, projected_plan, cross_plan, empty_inner, Examples}

pub examples : Examples
unfolding compares aggregate_within truth columns gather_within emit_within act_within joined_within eval_within size flatten subtrees modify look unary_free free closed introduced bound need fields once in_view refusal passes rule_of unnest rule weight attempt after smallest run sequences_of stays note_at starts_with all_below cells_of cells_allowed read_table read_from read_set_as table_from table_rows list_ends fields_allowed test_of node_of node_at nodes_allowed read_plan_as operator_by tree_at plan_at whole_tree node_bytes_as plan_bytes_as plan_refusal_as input_refusal_as report_number passed_through unnest_need unnest_number stay_number club_set moved_set club_plan projected_plan cross_plan empty_inner
examples = record { m1 = refl; m2 = refl; m3 = refl; m4 = refl; m5 = refl; m6 = (refl, refl); m7 = (refl, refl); m8 = (refl, refl, refl, (refl, refl), refl); m9 = (refl, refl, refl, refl, refl); projected = (refl, refl, refl) }
