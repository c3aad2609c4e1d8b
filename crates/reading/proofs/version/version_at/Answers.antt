use mathlib.Core.Path.{sym, ◌∙◌}
use Rattle.reading.proofs.VersionLaws.{version-first, version_low, version-high}
use Rattle.reading.proofs.version.version_at.Goals as goal

pub returns-then-byte_at-ne1 : goal.returns-then-byte_at-ne1
returns-then-byte_at-ne1 c =
    let b = c.args.s.now in
    sym (version_low b (λ e. c.if-byte_at-ne1.true (c.byte_at.ensures ∙ e)))

pub returns-then-byte_at-ne0 : goal.returns-then-byte_at-ne0
returns-then-byte_at-ne0 c =
    let b = c.args.s.now in
    sym (version-high b (λ e. c.if-byte_at-ne0.true (c.byte_at-2.ensures ∙ e)))

pub returns : goal.returns
returns c =
    let b = c.args.s.now in
    sym (version-first b (sym c.byte_at.ensures ∙ c.if-byte_at-ne1.false) (sym c.byte_at-2.ensures ∙ c.if-byte_at-ne0.false))
