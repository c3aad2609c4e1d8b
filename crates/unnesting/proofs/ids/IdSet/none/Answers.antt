use Rattle.unnesting.proofs.BitLaws.{holds_none}
use Rattle.unnesting.proofs.ids.IdSet.none.Goals as goal

pub returns : goal.returns
returns c = holds_none
