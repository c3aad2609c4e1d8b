use mathlib.Core.Path.{sym}
use native.Mathlib.Omega.{arith}
use Prim.Native.Nat.{◌*◌, ◌≤◌}
use lib.ListN.{length}
use lib.Seq.{length-take-le}
use Rattle.reporting.proofs.Reports.{ready, Evaluated, evaluated, output-short, done, written}
use Rattle.reporting.proofs.report.run.Goals as goal
use Rattle.reporting.proofs.report.run.Goals.{After-columns_at-columns}

found : (c : After-columns_at-columns) → Evaluated c.args.set.now c.args.plan.now c.eval-rows.new.cells (length c.args.scratch.now) c.eval-rows.result c.columns_at-columns.result
found c =
    let a = c.args in
    evaluated a.set.now a.plan.now c.eval-rows.new.cells (length a.scratch.now) c.eval-rows.result c.columns_at-columns.result c.requires.plan_value c.requires.plan_in_bounds c.eval-rows.ensures c.columns_at-columns.ensures

pub eval-rows-requires : goal.eval-rows-requires
eval-rows-requires c = ready c.args.set.now c.args.plan.now _ c.requires.plan_value (omega (arith, c.requires.plan_in_bounds))

pub overflow_mul-codes : goal.overflow_mul-codes
overflow_mul-codes c = omega (arith, (found (goal.at.overflow_mul-codes c).After-columns_at-columns).most)

pub returns-then-out-codes : goal.returns-then-out-codes
returns-then-out-codes c =
    let a = c.args in
    let e = found (goal.at.returns-then-out-codes c).After-columns_at-columns in
    output-short a.set.now a.plan.now a.out.now a.scratch.now c.requires.plan_value c.requires.plan_in_bounds (omega (arith, e.cells_are, c.if-out-codes.true))

-- as many codes as that are among the cells
within : (c : After-columns_at-columns) → c.eval-rows.result * c.columns_at-columns.result ≤ length c.eval-rows.new.cells
within c = omega (arith, (found c).inside, c.eval-rows.auto.cells)

pub slice_bounds-write_codes-end : goal.slice_bounds-write_codes-end
slice_bounds-write_codes-end c = within (goal.at.slice_bounds-write_codes-end c).After-columns_at-columns

pub slice_bounds-write_codes-end-2 : goal.slice_bounds-write_codes-end-2
slice_bounds-write_codes-end-2 c = sym (length-take-le _ _ (within (goal.at.slice_bounds-write_codes-end-2 c).After-columns_at-columns))

pub write_codes-requires : goal.write_codes-requires
write_codes-requires c = omega (arith, length-take-le _ _ (within (goal.at.write_codes-requires c).After-columns_at-columns), c.if-out-codes.false)

pub returns : goal.returns
returns c =
    let a = c.args in
    let e = found (goal.at.returns c).After-columns_at-columns in
    done a.set.now a.plan.now a.out.now a.scratch.now c.requires.plan_value c.requires.plan_in_bounds _ _ (omega (arith, e.cells_are, c.if-out-codes.false)) e.rows_are e.columns_are
    (written a.set.now a.plan.now c.eval-rows.new.cells (length a.scratch.now) c.eval-rows.result c.columns_at-columns.result a.out.now _ e c.write_codes.ensures)
