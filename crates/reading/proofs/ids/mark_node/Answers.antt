use Rattle.algebra.specs.Lists.{upward}
use Rattle.reading.proofs.IdLaws.{key_none, marks_failed, marks_joined}
use Rattle.reading.proofs.ids.mark_node.Goals as goal

pub returns-in_err-marks-in-Group : goal.returns-in_err-marks-in-Group
returns-in_err-marks-in-Group c =
    rw (c.new_ids-count.ensures.0, c.in-Group.is, c.from_residual.ensures)
    (marks_failed c.in_err-marks-in-Group.ensures (upward c.new_ids-count.result c.args.node.id))

pub returns-in_ok-marks-in-Group : goal.returns-in_ok-marks-in-Group
returns-in_ok-marks-in-Group c =
    rw (c.new_ids-count.ensures.0, c.in-Group.is)
    (marks_joined c.in_ok-marks-in-Group.ensures c.mark_ids-in-Group.ensures)

pub returns-in_default : goal.returns-in_default
returns-in_default c =
    let n = c.args.node in
    rw (c.new_ids-count.ensures.0, key_none n n.kind c.in_default.not-Group) c.mark_ids-in_default.ensures
