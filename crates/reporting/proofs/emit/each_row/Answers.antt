use mathlib.Core.Path.{◌≡◌, ap}
use Prim.Native.Nat.{ℕ, ◌+◌, ◌*◌, ◌-◌, ◌≤◌, max}
use native.Mathlib.Nat.{one-mul}
use native.Mathlib.Omega.{arith}
use lib.ListN.{length, drop, length-drop}
use Rattle.reporting.proofs.Copies.{written_copy, written_both}
use Rattle.reporting.proofs.Emits.{each-joined, each-blank}
use Rattle.reporting.proofs.emit.each_row.Goals as goal
use Rattle.reporting.proofs.emit.each_row.Goals.{Else-least-right}

-- there is room for one row
one-row : (c : Else-least-right) → c.args.dst + (c.args.w + length c.args.right.columns.now) ≤ c.args.src
one-row c =
    let a = c.args in
    let n = a.w + length a.right.columns.now in
    let e : max 1 a.right.count ≡ 1 = omega arith in
    let room : a.dst + max 1 a.right.count * n ≤ a.src = c.requires.0 in
    omega (arith, ap (λ (m : ℕ). m * n) e, one-mul n)

pub returns-then-least-right : goal.returns-then-least-right
returns-then-least-right c =
    let a = c.args in
    each-joined a.right.columns.now a.src a.w a.dst a.right.at a.cells.now c.join_at.new.cells a.right.count c.if-least-right.true c.join_at.ensures

pub returns : goal.returns
returns c =
    let a = c.args in
    let one = one-row (goal.at.returns c).Else-least-right in
    let p = c.requires in
    let long : length (drop a.src a.cells.now) ≡ length a.cells.now - a.src = length-drop a.src a.cells.now in
    each-blank a.right.columns.now a.src a.w a.dst a.right.at a.cells.now c.blanks.new.cells a.right.count (omega arith) one
    (written_both (written_copy a.cells.now c.copy_row.new.cells (drop a.src a.cells.now) a.dst a.w c.copy_row.ensures (omega arith) (omega arith)) c.blanks.ensures)
