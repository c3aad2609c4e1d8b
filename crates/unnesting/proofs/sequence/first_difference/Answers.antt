use Rattle.unnesting.proofs.SequenceLaws.{differ-longer, differ-inside, same-all}
use Rattle.unnesting.proofs.sequence.first_difference.Goals as goal

pub returns-then-first-second : goal.returns-then-first-second
returns-then-first-second c =
    let a = c.args in
    let k = c.common_beginning-common in
    differ-longer a.first.now a.second.now k.result k.ensures c.if-first-second.true

pub returns-then-common-first : goal.returns-then-common-first
returns-then-common-first c =
    let a = c.args in
    let k = c.common_beginning-common in
    differ-inside a.first.now a.second.now k.result k.ensures c.if-common-first.true

pub returns-else-common-first : goal.returns-else-common-first
returns-else-common-first c =
    let a = c.args in
    let k = c.common_beginning-common in
    same-all a.first.now a.second.now k.result k.ensures c.if-first-second.false c.if-common-first.false
