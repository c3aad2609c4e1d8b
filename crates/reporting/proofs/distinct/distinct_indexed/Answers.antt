use mathlib.Core.Path.{◌≡◌, refl, sym, ap, ◌∙◌}
use mathlib.Core.List.{List}
use Prim.Native.Nat.{ℕ, ◌+◌, ◌*◌}
use native.Mathlib.Omega.{arith}
use lib.ListN.{length, take, drop}
use Rattle.std.proofs.Common.{rules}
use Rattle.algebra.specs.Lists.{firsts}
use Rattle.algebra.specs.Plans.{Row}
use Rattle.reporting.specs.Rows.{chunk}
use Rattle.reporting.specs.Index.{row_slot}
use Rattle.reporting.proofs.Chunks.{turns, mono, next_place, part-row}
use Rattle.reporting.proofs.Firsts.{sifting_places, sifting_start, sifting_done, sifting_seen, sifting_new, index_start, index_kept}
use Rattle.reporting.proofs.distinct.distinct_indexed.Goals as goal
use Rattle.reporting.proofs.distinct.distinct_indexed.Goals.{then-not-seen_linked, else-not-seen_linked}

pub loop-i-init : goal.loop-i-init
loop-i-init c =
    let a = c.args in
    (sifting_places (sifting_start (firsts (chunk a.m a.w a.cells.now)) a.m a.w a.cells.now refl), index_start row_slot a.w a.cells.now _ _ refl)

pub loop-i-preserved : goal.loop-i-preserved
loop-i-preserved c =
    let a = c.args in
    let l = c.loop-i in
    let w = a.w in
    let p = l.invariant.0 in
    let t = c.loop-i-test.true in
    let all : List Row = firsts (chunk a.m w a.cells.now) in
    let says = c.seen_linked.ensures in
    let b = c.hash_row-b.result in
    let j = c.if-not-seen_linked in
    let row = turns a.m w l.i t in
    let below = mono l.out l.i w p.few in
    let at : b ≡ row_slot (take w (drop (l.i * w) l.cells)) = c.hash_row-b.ensures.1 ∙ ap row_slot (sym (part-row (l.i * w) w l.cells)) in
    let heads : length l.heads ≡ 4096 = search rules in
    let next : length l.next ≡ 4096 = search rules in
    elim j.branch [
      | then-not-seen_linked v ↦
          let more : j.out * w ≡ l.out * w + w = ap (λ (n : ℕ). n * w) v.out-is ∙ sym (next_place l.out w) in (
            sifting_places (sifting_new all a.m w a.cells.now l.cells j.cells l.i l.out j.out (l.i * w) (l.out * w) (j.out * w) p t (sym says ∙ v.if-not-seen_linked.true) (omega (arith, p.long, c.requires)) (v.cells-is ∙ v.copy_row.ensures) v.out-is more),
            rw v.out-is (index_kept row_slot w l.out (l.i * w) (l.out * w) b l.cells j.cells l.heads j.heads l.next j.next refl below (omega (arith, row, p.long, c.requires)) (v.cells-is ∙ v.copy_row.ensures) at (omega (arith, heads, c.hash_row-b.ensures.0)) (omega (arith, next, p.few, t, c.requires)) (v.heads-is ∙ v.link.ensures.heads_after) (v.next-is ∙ v.link.ensures.next_after) l.invariant.1),
          )
      | else-not-seen_linked v ↦ (
        sifting_places (sifting_seen all a.m w a.cells.now l.cells j.cells l.i l.out j.out (l.i * w) (l.out * w) (j.out * w) p t (sym says ∙ v.if-not-seen_linked.false) v.cells-is v.out-is (ap (λ (n : ℕ). n * w) v.out-is)),
        rw (v.cells-is, v.heads-is, v.next-is, v.out-is) l.invariant.1,
      )
    ]

pub returns-clause-gives : goal.returns-clause-gives
returns-clause-gives c =
    let a = c.args in
    let l = c.loop-i in
    sifting_done (firsts (chunk a.m a.w a.cells.now)) a.m a.w a.cells.now l.cells l.i l.out (l.i * a.w) (l.out * a.w) l.invariant.0 c.loop-i-test.false
