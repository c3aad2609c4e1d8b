use mathlib.Core.Path.{sym}
use Prim.Native.Nat.{◌+◌, ◌*◌, ◌≤◌}
use native.Mathlib.Omega.{arith}
use Rattle.reading.specs.Tree.{operator_of}
use Rattle.reporting.specs.Rows.{emitted_most}
use Rattle.reporting.specs.Evaluation.{StepRoom}
use Rattle.reporting.proofs.Emitting.{emitting_start, emitting_done, emitting_room, emitting_few, step-few, emitting_ends, emitting_turn}
use Rattle.reporting.proofs.Lookups.{still_looked_up}
use Rattle.reporting.proofs.matching.emit_all.Goals as goal
use Rattle.reporting.proofs.matching.emit_all.Goals.{After-emit_row-r, In-loop}

-- the row at hand has room for what it gives, and no more rows come than the bound has
in_row : (c : In-loop) → let a = c.args in let x = a.asked.now in let l = c.loop in let op = operator_of x.node in StepRoom op x.ids.now x.right.columns.now x.right.count l.src l.dst x.right.at × (l.out + emitted_most op x.right.count ≤ 4096)
in_row c =
    let a = c.args in
    let x = a.asked.now in
    let p = c.requires.room in
    let l = c.loop in
    let h = c.loop-test.true in
    (emitting_room x.node x.found x.ids.now x.right.columns.now a.own a.m x.right.at x.right.count a.cells.now x.somewhere x.two p.loop l.cells l.counter l.out l.src l.dst l.invariant.0 h, emitting_few x.node x.found x.ids.now x.right.columns.now a.own a.m x.right.at x.right.count a.cells.now x.somewhere x.two p.loop l.cells l.counter l.out l.src l.dst l.invariant.0 h p.few)

-- it gives no more rows than it may, and the next place is no higher than the row's end
given : (c : After-emit_row-r) → let a = c.args in let x = a.asked.now in let l = c.loop in let s = c.emit_row-r in (s.result ≤ emitted_most (operator_of x.node) x.right.count) × (l.dst + s.result * c.emitted_width-wo.result ≤ x.right.at)
given c =
    let a = c.args in
    let x = a.asked.now in
    let p = c.requires.room in
    let l = c.loop in
    let s = c.emit_row-r in
    let h = c.loop-test.true in
    (step-few x.node x.found x.ids.now x.right.columns.now a.own a.m x.right.at x.right.count a.cells.now x.somewhere x.two p.loop l.cells l.counter l.out l.src l.dst l.invariant.0 h s.result s.new.cells s.ensures.given, emitting_ends x.node x.found x.ids.now x.right.columns.now a.own a.m x.right.at x.right.count a.cells.now x.somewhere x.two p.loop l.cells l.counter l.out l.src l.dst l.invariant.0 h s.result s.new.cells s.ensures.given c.emitted_width-wo.result c.emitted_width-wo.ensures)

pub loop-init : goal.loop-init
loop-init c =
    let a = c.args in
    let x = a.asked.now in
    (emitting_start x.node x.found x.ids.now x.right.columns.now a.own a.m x.right.at x.right.count a.cells.now, c.requires.lookup)

pub emit_row-r-requires : goal.emit_row-r-requires
emit_row-r-requires c =
    let a = c.args in
    let l = c.loop in
    record {
      room = record { step = (in_row (goal.at.emit_row-r-requires c).In-loop).0; held = omega (arith, l.invariant.0.long, c.requires.room.held) };
      lookup = still_looked_up a.asked.now a.cells.now l.cells (sym l.invariant.0.right) a.lookup l.known l.invariant.1;
    }

pub overflow_add-out : goal.overflow_add-out
overflow_add-out c = omega (arith, (in_row (goal.at.overflow_add-out c).In-loop).1, (given (goal.at.overflow_add-out c).After-emit_row-r).0)

pub overflow_mul-dst : goal.overflow_mul-dst
overflow_mul-dst c = omega (arith, (given (goal.at.overflow_mul-dst c).After-emit_row-r).1, c.well_formed)

pub overflow_add-dst : goal.overflow_add-dst
overflow_add-dst c = omega (arith, (given (goal.at.overflow_add-dst c).After-emit_row-r).1, c.well_formed)

pub overflow_add-src : goal.overflow_add-src
overflow_add-src c = omega (arith, (in_row (goal.at.overflow_add-src c).In-loop).0.apart, c.well_formed)

pub loop-preserved : goal.loop-preserved
loop-preserved c =
    let a = c.args in
    let x = a.asked.now in
    let p = c.requires.room in
    let l = c.loop in
    let s = c.emit_row-r in (
      emitting_turn x.node x.found x.ids.now x.right.columns.now a.own a.m x.right.at x.right.count a.cells.now x.somewhere x.two p.loop l.cells l.counter l.out l.src l.dst l.invariant.0 c.loop-test.true s.result s.new.cells s.ensures.given s.auto.cells c.emitted_width-wo.result c.emitted_width-wo.ensures,
      still_looked_up x l.cells a.cells.now l.invariant.0.right a.lookup s.new.known s.ensures.lookup,
    )

pub returns : goal.returns
returns c =
    let a = c.args in
    let x = a.asked.now in
    let l = c.loop in
    emitting_done x.node x.found x.ids.now x.right.columns.now a.own a.m x.right.at x.right.count a.cells.now x.somewhere x.two c.requires.room.loop l.cells l.counter l.out l.src l.dst l.invariant.0 c.loop-test.false
