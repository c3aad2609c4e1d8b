use lib.ListN.{length}
use mathlib.Core.Path.{ap, ◌∙◌}
use Rattle.reporting.proofs.columns.ids_listed.Goals as goal

pub returns : goal.returns
returns c = (ap length c.as_slice-list.ensures, c.copy_ids.ensures ∙ c.as_slice-list.ensures)
