-- What an answer says is written lies inside its buffer, whose length the call leaves as it was.
use Rattle.std.proofs.Common.{arith}
use Rattle.listing.proofs.RoomLaws.{report-room, steps-room}
use Rattle.listing.proofs.list.Goals as goal

pub show_steps-requires : goal.show_steps-requires
show_steps-requires g c = omega (arith, steps-room c.unnest.ensures c.in-Ok.is, c.unnest.auto.out_steps)

pub show_report-requires : goal.show_report-requires
show_report-requires g c = omega (arith, report-room c.report.ensures c.in-Ok-report.is, c.report.auto.out)
