use mathlib.Core.Path.{◌∙◌}
use Rattle.reading.proofs.plan.kind_allowed.Goals as goal

pub returns : goal.returns
returns c = c.bytes_within.ensures ∙ rw (c.tail-2.ensures, c.tail.ensures)
