use Prim.Native.Nat.{ℕ, ◌+◌, ◌*◌}
use native.Mathlib.Omega.{arith}
use native.Mathlib.Nat.{mul-le-mul}
use mathlib.Core.Path.{sym, ap₂, ◌∙◌}
use Rattle.conversion.proofs.TableBytes.{table-long}
use Rattle.conversion.proofs.tables.table_size.Goals as goal

pub returns : goal.returns
returns c =
    let a = c.args in
    let m = mul-le-mul c.columns_of.ensures.upper_bound c.rows_of.ensures.upper_bound in
    let n = mul-le-mul c.cell_size-size.ensures.upper_bound m in (
      ap₂ (λ (x y : ℕ). 8 + x * y) c.cell_size-size.ensures.value (ap₂ (λ (x y : ℕ). x * y) c.columns_of.ensures.value c.rows_of.ensures.value)
          ∙ sym (table-long a.version a.table.now c.requires),
      omega arith,
    )
