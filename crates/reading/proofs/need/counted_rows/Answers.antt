use native.Mathlib.Omega.{arith}
use Rattle.reading.proofs.need.counted_rows.Goals as goal

pub returns-then-has_region : goal.returns-then-has_region
returns-then-has_region c = rw (← c.has_region.ensures, c.if-has_region.true)

pub returns-then-bound-lt1 : goal.returns-then-bound-lt1
returns-then-bound-lt1 c = rw (← c.has_region.ensures, c.if-has_region.false) (omega arith)

pub returns-else-bound-lt1 : goal.returns-else-bound-lt1
returns-else-bound-lt1 c = rw (← c.has_region.ensures, c.if-has_region.false) (omega arith)
