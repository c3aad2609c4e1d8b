use Prim.Native.Nat.{◌≤◌}
use native.Mathlib.Omega.{arith}
use mathlib.Core.Path.{◌≡◌, sym, ap, ◌∙◌}
use mathlib.Core.Bool.{true}
use lib.ListN.{length}
use Rattle.reading.specs.declared.refusal.Refusal.TheVariants.{NumberWide, OutputShort}
use Rattle.conversion.specs.Bytes.{set_bytes, set_fits, plan_in, plan_fits}
use Rattle.conversion.specs.Helpers.{bytes_written}
use Rattle.conversion.proofs.TableBytes.{tables-few, tables_headed}
use Rattle.conversion.proofs.NodeBytes.{plan-in, plan-fits, plan_stands, plan_size}
use Rattle.conversion.proofs.Outcomes.{turned, number-set, number_plan, number-set-room, number_plan_room, converted}
use Rattle.conversion.proofs.convert.convert_accepted.Goals as goal
use Rattle.conversion.proofs.convert.convert_accepted.Goals.{After-plan_size-plan_bytes, Else-not-plan_fits, Else-not-set_fits, Else-out_set-set_bytes}

set-fit : (c : Else-not-set_fits) → set_fits c.args.to c.args.tables c.args.set.now ≡ true
set-fit c = sym c.set_fits.ensures ∙ c.if-not-set_fits.false

plan-fit : (c : Else-not-plan_fits) → plan_fits c.args.to c.args.plan.now ≡ true
plan-fit c = sym (plan-fits c.args.from c.args.to c.args.plan.now _ c.requires.plan_read c.requires.whole) ∙ (sym c.plan_fits.ensures ∙ c.if-not-plan_fits.false)

set_room_lem : (c : Else-out_set-set_bytes) → length (set_bytes c.args.to c.args.tables c.args.set.now) ≤ length c.args.out_set.now
set_room_lem c = omega (arith, c.set_size-set_bytes.ensures, c.if-out_set-set_bytes.false)

plan_long : (c : After-plan_size-plan_bytes) → c.plan_size-plan_bytes.result ≡ length (plan_in c.args.to c.args.plan.now)
plan_long c = c.plan_size-plan_bytes.ensures ∙ sym (plan_size c.args.from c.args.to c.args.plan.now _ c.requires.plan_read c.requires.whole)

pub returns-then-not-set_fits : goal.returns-then-not-set_fits
returns-then-not-set_fits c =
    let a = c.args in
    turned a.from a.to a.set.now a.plan.now a.out_set.now a.out_plan.now NumberWide
    (number-set a.from a.to a.set.now a.plan.now a.out_set.now a.out_plan.now a.tables c.requires.accepted c.requires.set_read (sym c.set_fits.ensures ∙ c.if-not-set_fits.true))

pub returns-then-not-plan_fits : goal.returns-then-not-plan_fits
returns-then-not-plan_fits c =
    let a = c.args in
    turned a.from a.to a.set.now a.plan.now a.out_set.now a.out_plan.now NumberWide
    (number_plan a.from a.to a.set.now a.plan.now a.out_set.now a.out_plan.now a.tables c.requires.accepted c.requires.set_read (set-fit (goal.at.returns-then-not-plan_fits c).Else-not-set_fits)
    (sym (plan-fits a.from a.to a.plan.now _ c.requires.plan_read c.requires.whole) ∙ (sym c.plan_fits.ensures ∙ c.if-not-plan_fits.true)))

pub set_size-set_bytes-requires : goal.set_size-set_bytes-requires
set_size-set_bytes-requires c = let a = c.args in (tables-few a.from a.set.now a.tables c.requires.set_read, tables_headed a.from a.set.now a.tables c.requires.set_read)

pub returns-then-out_set-set_bytes : goal.returns-then-out_set-set_bytes
returns-then-out_set-set_bytes c =
    let a = c.args in
    turned a.from a.to a.set.now a.plan.now a.out_set.now a.out_plan.now OutputShort
    (number-set-room a.from a.to a.set.now a.plan.now a.out_set.now a.out_plan.now a.tables c.requires.accepted c.requires.set_read (set-fit (goal.at.returns-then-out_set-set_bytes c).Else-not-set_fits) (plan-fit (goal.at.returns-then-out_set-set_bytes c).Else-not-plan_fits)
    (omega (arith, c.set_size-set_bytes.ensures, c.if-out_set-set_bytes.true)))

pub returns-then-out_plan-plan_bytes : goal.returns-then-out_plan-plan_bytes
returns-then-out_plan-plan_bytes c =
    let a = c.args in
    turned a.from a.to a.set.now a.plan.now a.out_set.now a.out_plan.now OutputShort
    (number_plan_room a.from a.to a.set.now a.plan.now a.out_set.now a.out_plan.now a.tables c.requires.accepted c.requires.set_read (set-fit (goal.at.returns-then-out_plan-plan_bytes c).Else-not-set_fits) (plan-fit (goal.at.returns-then-out_plan-plan_bytes c).Else-not-plan_fits) (set_room_lem (goal.at.returns-then-out_plan-plan_bytes c).Else-out_set-set_bytes)
    (omega (arith, plan_long (goal.at.returns-then-out_plan-plan_bytes c).After-plan_size-plan_bytes, c.if-out_plan-plan_bytes.true)))

pub write_set-requires : goal.write_set-requires
write_set-requires c = let a = c.args in (tables_headed a.from a.set.now a.tables c.requires.set_read, set-fit (goal.at.write_set-requires c).Else-not-set_fits, set_room_lem (goal.at.write_set-requires c).Else-out_set-set_bytes)

pub write_plan-requires : goal.write_plan-requires
write_plan-requires c =
    let a = c.args in (
      plan_stands a.from a.to a.plan.now _ c.requires.plan_read c.requires.whole,
      plan-fits a.from a.to a.plan.now _ c.requires.plan_read c.requires.whole ∙ plan-fit (goal.at.write_plan-requires c).Else-not-plan_fits,
      omega (arith, c.plan_size-plan_bytes.ensures, c.if-out_plan-plan_bytes.false),
    )

pub returns : goal.returns
returns c =
    let a = c.args in
    converted a.from a.to a.set.now a.plan.now a.out_set.now a.out_plan.now a.tables c.requires.accepted c.requires.set_read (set-fit (goal.at.returns c).Else-not-set_fits) (plan-fit (goal.at.returns c).Else-not-plan_fits) (set_room_lem (goal.at.returns c).Else-out_set-set_bytes) _ _ _
    (omega (arith, plan_long (goal.at.returns c).After-plan_size-plan_bytes, c.if-out_plan-plan_bytes.false)) c.set_size-set_bytes.ensures (plan_long (goal.at.returns c).After-plan_size-plan_bytes) c.write_set.ensures
    (c.write_plan.ensures ∙ ap (bytes_written a.out_plan.now 0) (plan-in a.from a.to a.plan.now _ c.requires.plan_read c.requires.whole))
