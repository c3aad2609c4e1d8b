use Rattle.reading.proofs.FreeLaws.{flags_minus, is-nested, not-nested}
use Rattle.reading.proofs.free.inner_free.Goals as goal

pub returns-in-Some : goal.returns-in-Some
returns-in-Some c =
    let n = c.args.node in
    record { gives = λ gs xs f g. rw (is-nested n n.kind c.in-Some.is) (flags_minus f g c.set_where.ensures) }

pub returns-in_default : goal.returns-in_default
returns-in_default c =
    let n = c.args.node in
    let d = c.in_default in
    record { gives = λ gs xs f g. rw (not-nested n n.kind d.not-Some d.not-Every d.not-Fold d.not-Each) f }
