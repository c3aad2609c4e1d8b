use Prim.Native.Nat.{◌≤◌}
use native.Mathlib.Omega.{arith}
use Rattle.std.specs.Prelude.{Some, Ok}
use Rattle.cabi.proofs.Few.{noted-few}
use Rattle.cabi.proofs.club_stay_note.Goals as goal
use Rattle.cabi.proofs.club_stay_note.Goals.{In-Ok-Some}

few : (c : In-Ok-Some) → c.in-Ok-Some.position ≤ 4096
few c = noted-few _ _ _ _ _ (Ok (Some c.in-Ok-Some.position)) (rw (c.in-Ok-Some.is, c.in-Ok-Some.field-0-is) at c.stay_note.ensures)

pub overflow_mul-result : goal.overflow_mul-result
overflow_mul-result c = omega (arith, few (goal.at.overflow_mul-result c).In-Ok-Some)

pub overflow_add-result : goal.overflow_add-result
overflow_add-result c = omega (arith, few (goal.at.overflow_add-result c).In-Ok-Some)
