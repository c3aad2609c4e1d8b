use borrow.Author.Rules.{rules}
use native.Mathlib.Omega.{arith}
use Prim.Native.Nat.{◌%◌}
use Rattle.unnesting.proofs.BitLaws.{holding-put, puts}
use Rattle.unnesting.proofs.ids.IdSet.put.Goals as goal

pub returns-then-id-lt256 : goal.returns-then-id-lt256
returns-then-id-lt256 c = holding-put c.args.self.now c.args.id _ (search rules) c.if-id-lt256.true (puts _ (c.args.id % 64) (omega arith))
