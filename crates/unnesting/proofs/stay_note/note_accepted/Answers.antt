use native.Mathlib.Omega.{arith}
use mathlib.Core.Path.{refl, ap, ◌∙◌}
use Prim.Native.Nat.{ℕ}
use lib.ListN.{replicate}
use Rattle.std.specs.Prelude.{Ok}
use Rattle.unnesting.proofs.NoteLaws.{note_short, note_given}
use Rattle.unnesting.proofs.stay_note.note_accepted.Goals as goal

pub returns-then-scratch-input : goal.returns-then-scratch-input
returns-then-scratch-input c =
    let i = c.args.input in
    note_short i.set.now i.plan.now c.args.place c.args.scratch.now _ _ i.accepted c.clear.ensures (omega (arith, i.needed, c.if-scratch-input.true)) refl

pub returns : goal.returns
returns c =
    let i = c.args.input in
    note_given i.set.now i.plan.now c.args.place c.args.scratch.now _ _ i.accepted (c.clear-2.ensures ∙ ap (λ (k : ℕ). replicate k 0) c.note_at-note.auto.scratch) (omega (arith, i.needed, c.if-scratch-input.false)) (ap Ok c.note_at-note.ensures)
