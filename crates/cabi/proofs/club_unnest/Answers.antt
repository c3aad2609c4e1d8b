use Prim.Native.Nat.{◌≤◌}
use native.Mathlib.Omega.{arith}
use Rattle.cabi.proofs.Few.{unnested-few}
use Rattle.cabi.proofs.club_unnest.Goals as goal
use Rattle.cabi.proofs.club_unnest.Goals.{In-Ok}

few : (c : In-Ok) → (c.in-Ok.answer.steps ≤ 192) × (c.in-Ok.answer.bytes ≤ 2054)
few c = unnested-few _ _ _ _ _ _ _ _ _ _ _ (rw c.in-Ok.is at c.unnest.ensures)

pub overflow_mul-result : goal.overflow_mul-result
overflow_mul-result c = omega (arith, (few (goal.at.overflow_mul-result c).In-Ok).0)

pub overflow_mul-result-in-Ok : goal.overflow_mul-result-in-Ok
overflow_mul-result-in-Ok c = omega (arith, (few (goal.at.overflow_mul-result-in-Ok c).In-Ok).1)

pub overflow_add-result : goal.overflow_add-result
overflow_add-result c = omega (arith, (few (goal.at.overflow_add-result c).In-Ok).0, (few (goal.at.overflow_add-result c).In-Ok).1)
