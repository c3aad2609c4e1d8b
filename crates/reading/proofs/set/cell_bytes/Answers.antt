use Prim.Native.Nat.{ℕ, ◌*◌}
use native.Mathlib.Omega.{arith}
use native.Mathlib.Nat.{mul-le-mul}
use mathlib.Core.Path.{ap, ap₂, ◌∙◌}
use Rattle.reading.specs.Versions.{cell_size}
use Rattle.reading.proofs.set.cell_bytes.Goals as goal

pub overflow_mul-result : goal.overflow_mul-result
overflow_mul-result c = let m = mul-le-mul c.columns_of.ensures.upper_bound c.rows_of.ensures.upper_bound in omega arith

pub overflow_mul-result-2 : goal.overflow_mul-result-2
overflow_mul-result-2 c =
    let m = mul-le-mul c.columns_of.ensures.upper_bound c.rows_of.ensures.upper_bound in
    let n = mul-le-mul c.cell_size-size.ensures.upper_bound m in
    omega arith

pub returns : goal.returns
returns c =
    let m = mul-le-mul c.columns_of.ensures.upper_bound c.rows_of.ensures.upper_bound in
    let n = mul-le-mul c.cell_size-size.ensures.upper_bound m in
    let z = c.cell_size-size.ensures.value ∙ ap cell_size c.version_at.ensures in
    record { value = ap₂ (λ (x y : ℕ). x * y) z (ap₂ (λ (x y : ℕ). x * y) c.columns_of.ensures.value c.rows_of.ensures.value); upper_bound = omega arith }
