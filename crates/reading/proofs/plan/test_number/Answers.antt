use mathlib.Core.Path.{◌≡◌, sym, ap, ◌∙◌}
use Rattle.reading.specs.Versions.{word_of}
use Rattle.reading.specs.Plan.{test_number}
use Rattle.reading.specs.declared.version.Version.{Version}
use Rattle.reading.specs.declared.version.Version.TheVariants.{First, Second}
use Rattle.reading.proofs.NumberBytes.{unsigned_four, unsigned_eight, unsigned_drop}
use Rattle.reading.proofs.plan.test_number.Goals as goal

pub returns-in-First : goal.returns-in-First
returns-in-First c =
    let s = c.args.node.now in
    let q : c.word_of_four.result ≡ test_number First s =
    c.word_of_four.ensures ∙ rw (c.byte_at-b0.ensures, c.byte_at-b1.ensures, c.byte_at-b2.ensures, c.byte_at-b3.ensures) (ap (word_of First) (unsigned_four s 20 ∙ sym (unsigned_drop 4 s 20 0))) in
    q ∙ sym (ap (λ (v : Version). test_number v s) c.in-First.is)

pub returns-in-Second : goal.returns-in-Second
returns-in-Second c =
    let s = c.args.node.now in
    let q : c.word.result ≡ test_number Second s =
    c.word.ensures ∙ rw (c.byte_at-b0.ensures, c.byte_at-b1.ensures, c.byte_at-b2.ensures, c.byte_at-b3.ensures, c.byte_at.ensures, c.byte_at-in-Second.ensures, c.byte_at-in-Second-2.ensures, c.byte_at-in-Second-3.ensures) (ap (word_of Second) (unsigned_eight s 20 ∙ sym (unsigned_drop 8 s 20 0))) in
    q ∙ sym (ap (λ (v : Version). test_number v s) c.in-Second.is)
