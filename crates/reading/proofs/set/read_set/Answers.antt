use Prim.Native.Nat.{◌+◌, ◌-◌, ◌≤◌}
use native.Mathlib.Omega.{arith}
use mathlib.Core.Path.{◌≡◌, refl, sym, ◌∙◌}
use lib.ListN.{length, length-drop}
use Rattle.std.proofs.lemmas.Result.{err_from_is_err_and}
use Rattle.reading.specs.TableSet.{read_set_as}
use Rattle.reading.proofs.Laws.{from_end, from-five, refused-table, next_place, next-tables}
use Rattle.reading.proofs.set.read_set.Goals as goal
use Rattle.reading.proofs.set.read_set.Goals.{In_ok-at}

pub loop-at-init : goal.loop-at-init
unfolding read_set_as
loop-at-init c = (omega arith, omega arith, refl)

pub returns-then-found-eq8 : goal.returns-then-found-eq8
returns-then-found-eq8 c =
    let l = c.loop-at in
    let q : 8 - l.found ≡ 0 = omega arith in
    sym (l.invariant.2 ∙ rw q (from-five _ _ _ (λ h. omega (arith, length-drop l.at c.args.set.now))))

pub returns-in_err-at : goal.returns-in_err-at
returns-in_err-at c =
    let l = c.loop-at in
    let p = err_from_is_err_and c.from_residual.result c.from_residual.ensures.1 in
    rw (p.1, p.2) (sym (l.invariant.2 ∙ refused-table _ _ l.at l.found _ (omega arith) (omega arith) (sym c.in_err-at.ensures)))

next-at : (c : In_ok-at)
    → c.loop-at.at + c.in_ok-at.field-0
    ≤ length c.args.set.now
next-at c =
    let l = c.loop-at in
    next_place _ _ l.at l.found _ (omega arith) (omega arith) (sym c.in_ok-at.ensures)

pub overflow_add-at : goal.overflow_add-at
overflow_add-at c = omega (arith, next-at (goal.at.overflow_add-at c).In_ok-at)

pub loop-at-preserved : goal.loop-at-preserved
loop-at-preserved c =
    let l = c.loop-at in (
      next-at (goal.at.loop-at-preserved c).In_ok-at,
      omega arith,
      l.invariant.2 ∙ next-tables _ _ l.at l.found c.in_ok-at.field-0 (omega arith) (omega arith) (sym c.in_ok-at.ensures),
    )

pub returns : goal.returns
returns c =
    let l = c.loop-at in
    sym (l.invariant.2 ∙ from_end _ _ _ _ (omega (arith, length-drop l.at c.args.set.now)))
