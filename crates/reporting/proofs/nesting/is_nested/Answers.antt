use mathlib.Core.Path.{sym}
use Rattle.reading.proofs.FreeLaws.{is-nested, not-nested}
use Rattle.reporting.proofs.nesting.is_nested.Goals as goal

pub returns-in-Some : goal.returns-in-Some
returns-in-Some c = let n = c.args.node in sym (is-nested n n.kind c.in-Some.is)

pub returns-in_default : goal.returns-in_default
returns-in_default c =
    let n = c.args.node in
    let d = c.in_default in
    sym (not-nested n n.kind d.not-Some d.not-Every d.not-Fold d.not-Each)
