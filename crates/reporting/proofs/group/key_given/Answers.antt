use mathlib.Core.Path.{sym, ap, ◌∙◌}
use mathlib.Core.Bool.{Bool, ◌||◌}
use mathlib.Core.List.{[], ◌∷◌}
use Prim.Native.Nat.{◌+◌, ◌-◌, ◌<◌}
use native.Mathlib.Omega.{arith}
use lib.ListN.{length, drop, take}
use Rattle.algebra.specs.Lists.{same, any}
use Rattle.algebra.specs.Plans.{Row}
use Rattle.reporting.specs.Rows.{chunk}
use Rattle.reporting.proofs.Keys.{any_next, any-end}
use Rattle.reporting.proofs.Groups.{key_here, key-other}
use Rattle.reporting.proofs.group.key_given.Goals as goal

pub returns-then-cells-at : goal.returns-then-cells-at
returns-then-cells-at c =
    let a = c.args in
    let l = c.loop in
    let P : Row → Bool = λ q. same (take 1 q) (a.key ∷ []) in
    let at : l.at < length a.cells.now = omega arith in
    sym (l.invariant.1 ∙ any_next P a.k 2 l.counter l.at a.cells.now c.loop-test.true ∙ ap (λ (t : Bool). t || any P (chunk (a.k - (l.counter + 1)) 2 (drop (l.at + 2) a.cells.now))) (key_here l.at a.key a.cells.now at c.if-cells-at.true))

pub loop-preserved : goal.loop-preserved
loop-preserved c =
    let a = c.args in
    let l = c.loop in
    let P : Row → Bool = λ q. same (take 1 q) (a.key ∷ []) in
    let at : l.at < length a.cells.now = omega arith in
    (omega arith, l.invariant.1 ∙ any_next P a.k 2 l.counter l.at a.cells.now c.loop-test.true ∙ ap (λ (t : Bool). t || any P (chunk (a.k - (l.counter + 1)) 2 (drop (l.at + 2) a.cells.now))) (key-other l.at a.key a.cells.now at c.if-cells-at.false))

pub returns : goal.returns
returns c =
    let a = c.args in
    let l = c.loop in
    let P : Row → Bool = λ q. same (take 1 q) (a.key ∷ []) in
    sym (l.invariant.1 ∙ any-end P a.k 2 l.counter l.at a.cells.now c.loop-test.false)
