use native.Mathlib.Omega.{arith}
use Prim.Native.Nat.{◌*◌}
use mathlib.Core.Path.{refl}
use Rattle.reporting.proofs.Subplans.{front_kept}
use Rattle.reporting.proofs.subplan.given.Goals as goal

pub overflow_mul-used : goal.overflow_mul-used
overflow_mul-used c = omega (arith, c.requires.0, c.requires.1)

pub offset_bounds-scratch-used : goal.offset_bounds-scratch-used
offset_bounds-scratch-used c = omega (arith, c.requires.0, c.requires.1)

pub slice_bounds-clear-count : goal.slice_bounds-clear-count
slice_bounds-clear-count c = omega (arith, c.requires.0, c.requires.1)

pub slice_bounds-clear-start : goal.slice_bounds-clear-start
slice_bounds-clear-start c = omega (arith, c.requires.1)

pub returns : goal.returns
returns c =
    let a = c.args in record { value = (refl, refl); scratch_after = front_kept (a.rows * a.columns) a.scratch.now _ c.requires.1 c.clear.ensures }
