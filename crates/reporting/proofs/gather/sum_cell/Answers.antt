use Prim.Native.Nat.{◌+◌, ◌*◌, ◌-◌, ◌/◌, ◌%◌}
use mathlib.Core.Path.{◌≡◌, sym, ap, ◌∙◌}
use mathlib.Core.Bool.{Bool, cond}
use native.Mathlib.Omega.{arith}
use borrow.Author.Tests.{le-leb, lt-leb, lt-ltb, le-ltb}
use Rattle.algebra.specs.Cells.{origin, reach, off_scale, sum_of}
use Rattle.reporting.proofs.Tallies.{sum-in-range}
use Rattle.reporting.proofs.gather.sum_cell.Goals as goal
use Rattle.reporting.proofs.gather.sum_cell.Goals.{After-number_word}

-- the cell that is formed is that of the sum, where it is in range
total-cell : (c : After-number_word) → let a = c.args in
    let cell = (a.high + a.low / 4294967296 + 2147483648 - a.numbers * 2147483648) * 4294967296 + a.low % 4294967296 in
    sum_of a.numbers (a.low + 4294967296 * a.high) ≡ cond c.number_word.result cell off_scale
total-cell c =
    let a = c.args in
    let cell = (a.high + a.low / 4294967296 + 2147483648 - a.numbers * 2147483648) * 4294967296 + a.low % 4294967296 in
    sum-in-range a.numbers (a.low + 4294967296 * a.high) cell (omega arith) ∙ ap (λ (b : Bool). cond b cell off_scale) (sym c.number_word.ensures)

pub returns-then-numbers-rows : goal.returns-then-numbers-rows
returns-then-numbers-rows c = let a = c.args in rw (lt-ltb a.numbers a.rows (omega arith))

pub returns-then-upper-zeros : goal.returns-then-upper-zeros
returns-then-upper-zeros c =
    let a = c.args in
    rw (le-ltb a.numbers a.rows (omega arith), lt-leb (a.numbers * origin) (a.low + 4294967296 * a.high + reach) (omega arith))

pub returns-then-zeros-upper : goal.returns-then-zeros-upper
returns-then-zeros-upper c =
    let a = c.args in
    let s = a.low + 4294967296 * a.high in
    rw (le-ltb a.numbers a.rows (omega arith), le-leb (a.numbers * origin) (s + reach) (omega arith), lt-leb s (a.numbers * origin + reach) (omega arith))

pub returns-then-number_word : goal.returns-then-number_word
returns-then-number_word c = let a = c.args in rw (le-ltb a.numbers a.rows (omega arith)) (sym (total-cell (goal.at.returns-then-number_word c).After-number_word ∙ rw c.if-number_word.true))

pub returns : goal.returns
returns c = let a = c.args in rw (le-ltb a.numbers a.rows (omega arith)) (sym (total-cell (goal.at.returns c).After-number_word ∙ rw c.if-number_word.false))
