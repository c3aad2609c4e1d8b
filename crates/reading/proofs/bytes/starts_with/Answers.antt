use mathlib.Core.Path.{◌∙◌}
use Rattle.reading.proofs.Laws.{starts_same}
use Rattle.reading.proofs.bytes.starts_with.Goals as goal

pub returns : goal.returns
returns c = c.starts_with.ensures.value ∙ starts_same c.args.mark.now c.args.s.now
