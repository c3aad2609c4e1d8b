use Prim.Native.Nat.{◌≤◌}
use native.Mathlib.Omega.{arith}
use Rattle.std.specs.Prelude.{Ok}
use Rattle.prizes.proofs.Laws.{prized-few}
use Rattle.cabi.proofs.club_prize.Goals as goal
use Rattle.cabi.proofs.club_prize.Goals.{In-Ok}

few : (c : In-Ok) → (c.in-Ok.answer.rows ≤ 4096) × (c.in-Ok.answer.club ≤ 100000000)
few c = prized-few _ _ _ _ _ _ _ _ (Ok c.in-Ok.answer) (rw c.in-Ok.is at c.prize.ensures)

pub overflow_mul-result : goal.overflow_mul-result
overflow_mul-result c = omega (arith, (few (goal.at.overflow_mul-result c).In-Ok).0)

pub overflow_mul-result-in-Ok : goal.overflow_mul-result-in-Ok
overflow_mul-result-in-Ok c = omega (arith, (few (goal.at.overflow_mul-result-in-Ok c).In-Ok).1)

pub overflow_add-result : goal.overflow_add-result
overflow_add-result c = omega (arith, (few (goal.at.overflow_add-result c).In-Ok).0, (few (goal.at.overflow_add-result c).In-Ok).1)
