use native.Mathlib.Omega.{arith}
use mathlib.Core.Path.{◌≡◌, sym, ◌∙◌}
use Prim.Native.Nat.{◌≤◌}
use lib.ListN.{length}
use Rattle.std.proofs.lemmas.Result.{err_from_is_err_and}
use Rattle.algebra.specs.Refusals.{need}
use Rattle.reading.specs.TableSet.{tables_of}
use Rattle.reading.specs.Tree.{plan_at, plan_of}
use Rattle.reading.specs.Check.{input_refusal}
use Rattle.reporting.specs.Evaluation.{Ready}
use Rattle.reporting.proofs.Subplans.{ready_at, EvaluatedAt, tree-evaluated, not-turned, rows-turned, rows-done}
use Rattle.reporting.proofs.subplan.rows_at.Goals as goal
use Rattle.reporting.proofs.subplan.rows_at.Goals.{After-columns_at-columns, In_ok-turned_back}

accepted : (c : In_ok-turned_back) → let a = c.args in (input_refusal a.set.now a.plan.now ≡ 0) × (need (tables_of a.set.now) (plan_of a.plan.now) ≤ length a.scratch.now)
accepted c = let a = c.args in not-turned a.set.now a.plan.now a.scratch.now (sym c.in_ok-turned_back.ensures.value)

readied : (c : In_ok-turned_back) → let a = c.args in Ready (tables_of a.set.now) (plan_at a.plan.now a.place) (length a.scratch.now) 256
readied c = let a = c.args in ready_at a.set.now a.plan.now (length a.scratch.now) (accepted c).0 (omega (arith, (accepted c).1)) a.place

found : (c : After-columns_at-columns) → let a = c.args in Ready (tables_of a.set.now) (plan_at a.plan.now a.place) (length a.scratch.now) 256 → EvaluatedAt (tables_of a.set.now) (plan_at a.plan.now a.place) c.eval-rows.new.cells (length a.scratch.now) c.eval-rows.result c.columns_at-columns.result
found c ready =
    let a = c.args in
    tree-evaluated (tables_of a.set.now) (plan_at a.plan.now a.place) c.eval-rows.new.cells (length a.scratch.now) c.eval-rows.result c.columns_at-columns.result ready c.eval-rows.ensures c.columns_at-columns.ensures

pub eval-rows-requires : goal.eval-rows-requires
eval-rows-requires c = rw c.turned_back.auto.scratch (readied (goal.at.eval-rows-requires c).In_ok-turned_back)

pub given-requires : goal.given-requires
given-requires c =
    let e = found (goal.at.given-requires c).After-columns_at-columns (readied (goal.at.given-requires c).In_ok-turned_back) in
    (e.most, omega (arith, e.inside, c.eval-rows.auto.cells, c.turned_back.auto.scratch))

pub returns-in_err-turned_back : goal.returns-in_err-turned_back
returns-in_err-turned_back c =
    let a = c.args in
    let p = err_from_is_err_and c.from_residual.result c.from_residual.ensures.1 in
    rw (p.1, p.2) (rows-turned a.set.now a.plan.now a.scratch.now (plan_at a.plan.now a.place) _ _ (c.in_err-turned_back.ensures.value, c.in_err-turned_back.ensures.scratch_after))

pub returns : goal.returns
returns c =
    let a = c.args in
    let k = accepted (goal.at.returns c).In_ok-turned_back in
    rows-done a.set.now a.plan.now a.scratch.now (plan_at a.plan.now a.place) c.given.result _ _ _ _ k.0 k.1 (c.eval-rows.auto.cells ∙ c.turned_back.auto.scratch) (found (goal.at.returns c).After-columns_at-columns (readied (goal.at.returns c).In_ok-turned_back)) c.given.ensures.value c.given.ensures.scratch_after
