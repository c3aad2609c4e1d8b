use mathlib.Core.Path.{sym}
use Rattle.reading.specs.Tree.{operator_by}
use Rattle.reading.proofs.IdLaws.{found-other}
use Rattle.reading.proofs.scan.table_found.Goals as goal

pub returns-in-Scan : goal.returns-in-Scan
unfolding operator_by
returns-in-Scan c = record { decides = λ T e. rw (c.in-Scan.is, e) }

pub returns-in_default : goal.returns-in_default
returns-in_default c = record { decides = λ T e. sym (found-other T c.args.node c.args.node.kind c.in_default.not-Scan) }
