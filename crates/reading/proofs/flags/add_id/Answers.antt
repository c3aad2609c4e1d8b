use mathlib.Core.Path.{refl}
use native.Mathlib.Omega.{arith}
use Rattle.reading.proofs.IdLaws.{flag-set}
use Rattle.reading.proofs.flags.add_id.Goals as goal

pub returns : goal.returns
returns c = record { after = λ ids f. flag-set f c.args.id (omega arith) (λ k. refl) }
