use mathlib.Core.Path.{sym, ap, ◌∙◌}
use lib.IntN.{ℤ, pos, nat_abs}
use lib.Signed.{lt_z}
use mir.Syntax.{w64}
use mir.Val.{to_z, of_z}
use mir.Facts.{to_z-of_z}
use Rattle.listing.specs.Listing.{shown_of}
use Rattle.listing.proofs.CellLaws.{below-zero, not-below}
use Rattle.listing.proofs.cell.cell_shown.Goals as goal

pub returns-then-code-blank : goal.returns-then-code-blank
unfolding shown_of
returns-then-code-blank c = sym (ap shown_of (sym (to_z-of_z c.ranges.code) ∙ ap (to_z w64) c.if-code-blank.true))

pub returns-then-code-eq9223372036854775807 : goal.returns-then-code-eq9223372036854775807
unfolding shown_of
returns-then-code-eq9223372036854775807 c = sym (ap shown_of (sym (to_z-of_z c.ranges.code) ∙ ap (to_z w64) c.if-code-eq9223372036854775807.true))

pub returns-then-code-lt0 : goal.returns-then-code-lt0
returns-then-code-lt0 c =
    let read = to_z-of_z c.ranges.code in
    below-zero c.args.code c.unsigned_abs-size.result (λ e. c.if-code-blank.false (ap (of_z w64) e)) (ap (λ (z : ℤ). lt_z z (pos 0)) (sym read) ∙ c.if-code-lt0.true) (c.unsigned_abs-size.ensures.value ∙ ap nat_abs read)

pub returns-else-code-lt0 : goal.returns-else-code-lt0
returns-else-code-lt0 c =
    let read = to_z-of_z c.ranges.code in
    not-below c.args.code c.unsigned_abs-size.result (λ e. c.if-code-eq9223372036854775807.false (ap (of_z w64) e)) (ap (λ (z : ℤ). lt_z z (pos 0)) (sym read) ∙ c.if-code-lt0.false) (c.unsigned_abs-size.ensures.value ∙ ap nat_abs read)
