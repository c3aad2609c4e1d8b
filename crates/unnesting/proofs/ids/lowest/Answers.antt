use native.Mathlib.Omega.{arith}
use Rattle.unnesting.proofs.BitLaws.{lowest-is}
use Rattle.unnesting.proofs.ids.lowest.Goals as goal

pub returns : goal.returns
returns c = lowest-is c.args.w (omega arith)
