use mathlib.Core.Path.{sym, ◌∙◌}
use Prim.Native.Nat.{◌-◌}
use native.Mathlib.Omega.{arith}
use lib.ListN.{length}
use Rattle.reporting.specs.Held.{RowsInside}
use Rattle.reporting.proofs.Sides.{found_wider, somewhere_inside}
use Rattle.reporting.proofs.Emits.{KeepsRows, keeping_kind, keeps_of, crosses, eaches, gathers, keeping, cell-given, kept-given, none-given}
use Rattle.reporting.proofs.emit.emit_row.Goals as goal
use Rattle.reporting.proofs.emit.emit_row.Goals.{Start, In_default}

-- a kind that keeps rows
keeping-kind : (c : In_default) → KeepsRows c.args.asked.now.node.kind
keeping-kind c =
    let x = c.args.asked.now in
    let d = c.in_default in
    keeping_kind x.node x.two d.not-Cross d.not-Each d.not-Fold d.not-Pair

-- the columns lie in the cells
inside : (c : Start) → RowsInside c.args.asked.now.found c.args.asked.now.right c.args.src c.args.cells.now
inside c =
    let a = c.args in
    let x = a.asked.now in
    let p = c.requires.room in
    let n = length a.cells.now - a.src in
    record { found = found_wider x.found (length x.ids.now) (length x.right.columns.now) n (length x.right.columns.now) (somewhere_inside x.somewhere) (omega (arith, p.step.apart, p.held)) (omega arith); held = p.held }

pub join_at-requires : goal.join_at-requires
join_at-requires c =
    let a = c.args in
    let x = a.asked.now in
    let p = c.requires.room in
    let g = crosses x.node x.ids.now x.right.columns.now a.src a.dst x.right.at x.right.count a.cells.now c.in-Cross.is in
    (g.0 p.step, p.step.apart, p.held)

pub returns-in-Cross-clause-given : goal.returns-in-Cross-clause-given
returns-in-Cross-clause-given c =
    let a = c.args in
    let x = a.asked.now in
    let g = crosses x.node x.ids.now x.right.columns.now a.src a.dst x.right.at x.right.count a.cells.now c.in-Cross.is in
    λ env found. g.1 env c.join_at.new.cells c.join_at.ensures

pub each_row-requires : goal.each_row-requires
each_row-requires c =
    let a = c.args in
    let x = a.asked.now in
    let p = c.requires.room in
    let g = eaches x.node x.ids.now x.right.columns.now a.src a.dst x.right.at x.right.count a.cells.now c.in-Each.is in
    (g.0 p.step, p.step.apart, p.held)

pub returns-in-Each-clause-given : goal.returns-in-Each-clause-given
returns-in-Each-clause-given c =
    let a = c.args in
    let x = a.asked.now in
    let g = eaches x.node x.ids.now x.right.columns.now a.src a.dst x.right.at x.right.count a.cells.now c.in-Each.is in
    λ env found. g.1 env c.each_row.result c.each_row.new.cells c.each_row.ensures

pub aggregate-cell-requires-clause-inside : goal.aggregate-cell-requires-clause-inside
aggregate-cell-requires-clause-inside c = inside (goal.at.aggregate-cell-requires-clause-inside c).Start

pub write_with-requires : goal.write_with-requires
write_with-requires c =
    let a = c.args in
    let x = a.asked.now in
    let p = c.requires.room in
    ((gathers x.node x.ids.now x.right.columns.now a.src a.dst x.right.at x.right.count a.cells.now c.in-Fold.is).1 p.step, omega (arith, p.step.apart, p.held))

pub returns-in-Fold-clause-given : goal.returns-in-Fold-clause-given
returns-in-Fold-clause-given c =
    let a = c.args in
    let x = a.asked.now in
    cell-given x.node x.found x.ids.now x.right.columns.now a.src a.dst x.right.at x.right.count a.cells.now c.requires.room.step
    c.in-Fold.is c.aggregate-cell.result c.write_with.new.cells c.aggregate-cell.ensures.value c.write_with.ensures

pub keeps-requires-clause-keeps : goal.keeps-requires-clause-keeps
keeps-requires-clause-keeps c = keeps_of (keeping-kind (goal.at.keeps-requires-clause-keeps c).In_default)

pub keeps-requires-clause-inside : goal.keeps-requires-clause-inside
keeps-requires-clause-inside c = inside (goal.at.keeps-requires-clause-inside c).Start

pub copy_row-requires : goal.copy_row-requires
copy_row-requires c =
    let a = c.args in
    let x = a.asked.now in
    let p = c.requires.room in
    let keeping-rows = keeping-kind (goal.at.copy_row-requires c).In_default in
    let below = (keeping x.node x.ids.now x.right.columns.now a.src a.dst x.right.at x.right.count a.cells.now keeping-rows).0 p.step in
    record { dst_le_src = omega (arith, p.step.apart, p.held, below); w_in_bounds = omega (arith, p.step.apart, p.held, below) }

pub returns-then-keeps-clause-given : goal.returns-then-keeps-clause-given
returns-then-keeps-clause-given c =
    let a = c.args in
    let x = a.asked.now in
    let p = c.requires.room in
    let keeping-rows = keeping-kind (goal.at.returns-then-keeps-clause-given c).In_default in
    kept-given x.node x.found x.ids.now x.right.columns.now a.src a.dst x.right.at x.right.count a.cells.now p.step keeping-rows c.copy_row.new.cells
    (sym c.keeps.ensures.value ∙ c.if-keeps.true) (omega (arith, p.held)) c.copy_row.ensures

pub returns-else-keeps-clause-given : goal.returns-else-keeps-clause-given
returns-else-keeps-clause-given c =
    let a = c.args in
    let x = a.asked.now in
    let keeping-rows = keeping-kind (goal.at.returns-else-keeps-clause-given c).In_default in
    none-given x.node x.found x.ids.now x.right.columns.now a.src a.dst x.right.at x.right.count a.cells.now c.requires.room.step keeping-rows
    (sym c.keeps.ensures.value ∙ c.if-keeps.false)
