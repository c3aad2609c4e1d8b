use mathlib.Core.Path.{sym, ap, ◌∙◌}
use borrow.Author.Tests.{le-leb, lt-leb}
use Rattle.algebra.specs.Cells.{within_reach}
use Rattle.reading.specs.Versions.{reach_of}
use Rattle.reading.specs.declared.version.Version.{Version}
use Rattle.reading.proofs.set.number_as.Goals as goal

pub returns-then-w-lt9223372034854775808 : goal.returns-then-w-lt9223372034854775808
returns-then-w-lt9223372034854775808 c =
    let w = c.args.w in
    sym (ap (λ (v : Version). within_reach (reach_of v) w) c.in-First.is ∙ rw (lt-leb _ _ c.if-w-lt9223372034854775808.true))

pub returns-else-w-lt9223372034854775808 : goal.returns-else-w-lt9223372034854775808
returns-else-w-lt9223372034854775808 c =
    let w = c.args.w in
    sym (ap (λ (v : Version). within_reach (reach_of v) w) c.in-First.is ∙ rw (le-leb _ _ c.if-w-lt9223372034854775808.false))

pub returns-in-Second : goal.returns-in-Second
returns-in-Second c =
    let w = c.args.w in
    c.number_word.ensures ∙ sym (ap (λ (v : Version). within_reach (reach_of v) w) c.in-Second.is)
