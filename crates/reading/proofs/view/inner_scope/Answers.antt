use Rattle.reading.proofs.FlagLaws.{adds_none}
use Rattle.reading.proofs.FreeLaws.{is-nested, not-nested}
use Rattle.reading.proofs.view.inner_scope.Goals as goal

pub returns-in-Some : goal.returns-in-Some
returns-in-Some c =
    let n = c.args.node in
    rw (is-nested n n.kind c.in-Some.is) c.add_columns.ensures

pub returns-in_default : goal.returns-in_default
returns-in_default c =
    let n = c.args.node in
    let d = c.in_default in
    rw (not-nested n n.kind d.not-Some d.not-Every d.not-Fold d.not-Each) (adds_none _)
