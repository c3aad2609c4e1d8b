use mathlib.Core.Path.{◌≡◌, sym, ap, ap₂, ◌∙◌}
use mathlib.Core.Bool.{Bool, ◌||◌}
use Prim.Native.Nat.{ℕ, ◌+◌, ◌*◌, ◌-◌}
use lib.ListN.{drop, take}
use Rattle.algebra.specs.Lists.{same, any}
use Rattle.algebra.specs.Plans.{Row}
use Rattle.reporting.specs.Rows.{chunk}
use Rattle.reporting.proofs.Keys.{any_next, any-end}
use Rattle.reporting.proofs.Chunks.{next_place, part-row}
use Rattle.reporting.proofs.distinct.seen.Goals as goal
use Rattle.reporting.proofs.distinct.seen.Goals.{After-same_row}

-- the rows from that at hand on, by what the call says of it
next : (c : After-same_row) → let a = c.args in let l = c.loop-i in let P : Row → Bool = λ q. same q (take a.w (drop a.src a.cells.now)) in
    any P (chunk a.k a.w a.cells.now) ≡ (c.same_row.result || any P (chunk (a.k - (l.i + 1)) a.w (drop ((l.i + 1) * a.w) a.cells.now)))
next c =
    let a = c.args in
    let l = c.loop-i in
    let P : Row → Bool = λ q. same q (take a.w (drop a.src a.cells.now)) in
    let row : P (take a.w (drop (l.i * a.w) a.cells.now)) ≡ c.same_row.result = ap₂ same (part-row (l.i * a.w) a.w a.cells.now) (part-row a.src a.w a.cells.now) ∙ sym c.same_row.ensures in
    l.invariant
    ∙ any_next P a.k a.w l.i (l.i * a.w) a.cells.now c.loop-i-test.true
    ∙ ap₂ (λ (t : Bool) (n : ℕ). t || any P (chunk (a.k - (l.i + 1)) a.w (drop n a.cells.now))) row (next_place l.i a.w)

pub returns-then-same_row : goal.returns-then-same_row
returns-then-same_row c =
    let a = c.args in
    let l = c.loop-i in
    sym (next (goal.at.returns-then-same_row c).After-same_row ∙ ap (λ (t : Bool). t || any (λ q. same q (take a.w (drop a.src a.cells.now))) (chunk (a.k - (l.i + 1)) a.w (drop ((l.i + 1) * a.w) a.cells.now))) c.if-same_row.true)

pub loop-i-preserved : goal.loop-i-preserved
loop-i-preserved c =
    let a = c.args in
    let l = c.loop-i in
    next (goal.at.loop-i-preserved c).After-same_row ∙ ap (λ (t : Bool). t || any (λ q. same q (take a.w (drop a.src a.cells.now))) (chunk (a.k - (l.i + 1)) a.w (drop ((l.i + 1) * a.w) a.cells.now))) c.if-same_row.false

pub returns : goal.returns
returns c =
    let a = c.args in
    let l = c.loop-i in
    sym (l.invariant ∙ any-end (λ q. same q (take a.w (drop a.src a.cells.now))) a.k a.w l.i (l.i * a.w) a.cells.now c.loop-i-test.false)
