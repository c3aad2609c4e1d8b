use mathlib.Core.Path.{refl, sym, ap, ◌∙◌}
use mathlib.Core.List.{List}
use Prim.Native.Nat.{ℕ, ◌*◌}
use native.Mathlib.Omega.{arith}
use Rattle.algebra.specs.Lists.{firsts}
use Rattle.algebra.specs.Plans.{Row}
use Rattle.reporting.specs.Rows.{chunk}
use Rattle.reporting.proofs.Chunks.{next_place}
use Rattle.reporting.proofs.Firsts.{sifting_places, sifting_start, sifting_done, sifting_seen, sifting_new}
use Rattle.reporting.proofs.distinct.distinct_all.Goals as goal
use Rattle.reporting.proofs.distinct.distinct_all.Goals.{then-not-seen, else-not-seen}

pub loop-i-init : goal.loop-i-init
loop-i-init c = let a = c.args in sifting_places (sifting_start (firsts (chunk a.m a.w a.cells.now)) a.m a.w a.cells.now refl)

pub loop-i-preserved : goal.loop-i-preserved
loop-i-preserved c =
    let a = c.args in
    let l = c.loop-i in
    let w = a.w in
    let p = l.invariant in
    let all : List Row = firsts (chunk a.m w a.cells.now) in
    let says = c.seen.ensures in
    let j = c.if-not-seen in
    elim j.branch [
      | then-not-seen v ↦ sifting_places (sifting_new all a.m w a.cells.now l.cells j.cells l.i l.out j.out (l.i * w) (l.out * w) (j.out * w) p c.loop-i-test.true (sym says ∙ v.if-not-seen.true) (omega (arith, p.long, c.requires)) (v.cells-is ∙ v.copy_row.ensures) v.out-is (ap (λ (n : ℕ). n * w) v.out-is ∙ sym (next_place l.out w)))
      | else-not-seen v ↦ sifting_places (sifting_seen all a.m w a.cells.now l.cells j.cells l.i l.out j.out (l.i * w) (l.out * w) (j.out * w) p c.loop-i-test.true (sym says ∙ v.if-not-seen.false) v.cells-is v.out-is (ap (λ (n : ℕ). n * w) v.out-is))
    ]

pub returns-clause-gives : goal.returns-clause-gives
returns-clause-gives c =
    let a = c.args in
    let l = c.loop-i in
    sifting_done (firsts (chunk a.m a.w a.cells.now)) a.m a.w a.cells.now l.cells l.i l.out (l.i * a.w) (l.out * a.w) l.invariant c.loop-i-test.false
