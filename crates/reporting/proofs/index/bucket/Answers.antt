use mathlib.Core.Path.{refl}
use native.Mathlib.Omega.{arith}
use Rattle.reporting.specs.Index.{bucket_of}
use Rattle.reporting.proofs.index.bucket.Goals as goal

pub returns : goal.returns
unfolding bucket_of
returns c = (omega arith, refl)
