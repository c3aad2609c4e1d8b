use native.Mathlib.Omega.{arith}
use mathlib.Core.Path.{◌≡◌, sym, ap, ◌∙◌}
use mathlib.Core.List.{[], ◌∷◌}
use Rattle.reading.specs.Bytes.{unsigned_at}
use Rattle.reading.specs.Versions.{word_of}
use Rattle.reading.specs.declared.version.Version.TheVariants.{First}
use Rattle.reading.proofs.VersionLaws.{word_blank, word_off, word_number}
use Rattle.reading.proofs.set.word_of_four.Goals as goal

pub returns-then-x : goal.returns-then-x
returns-then-x c =
    let a = c.args in
    let x = c.from_le_bytes-x.result in
    let q : unsigned_at 4 (a.b0 ∷ a.b1 ∷ a.b2 ∷ a.b3 ∷ []) 0 ≡ x = omega arith in
    sym (ap (word_of First) q ∙ word_blank x c.if-x.true)

pub returns-then-x-eq2147483647 : goal.returns-then-x-eq2147483647
returns-then-x-eq2147483647 c =
    let a = c.args in
    let x = c.from_le_bytes-x.result in
    let q : unsigned_at 4 (a.b0 ∷ a.b1 ∷ a.b2 ∷ a.b3 ∷ []) 0 ≡ x = omega arith in
    sym (ap (word_of First) q ∙ word_off x c.if-x-eq2147483647.true)

pub returns : goal.returns
returns c =
    let a = c.args in
    let x = c.from_le_bytes-x.result in
    let q : unsigned_at 4 (a.b0 ∷ a.b1 ∷ a.b2 ∷ a.b3 ∷ []) 0 ≡ x = omega arith in
    sym (ap (word_of First) q ∙ word_number x c.if-x.false c.if-x-eq2147483647.false ∙ omega arith)
