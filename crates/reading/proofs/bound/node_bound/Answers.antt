use Prim.Native.Nat.{max}
use native.Mathlib.Omega.{arith}
use native.Mathlib.Nat.{mul-one}
use mathlib.Core.Path.{◌≡◌, refl}
use Rattle.reading.specs.Tree.{operator_by}
use Rattle.reading.specs.declared.kinds.Kind.{Kind}
use Rattle.reading.proofs.Operators.{one_of, just_other}
use Rattle.reading.proofs.TreeNumbers.{within_cap}
use Rattle.reading.proofs.BoundLaws.{bound_by, scan-bound, first-bound}
use Rattle.reading.proofs.bound.node_bound.Goals as goal

pub returns-then-second-lt1 : goal.returns-then-second-lt1
unfolding operator_by
returns-then-second-lt1 c =
    let a = c.args in
    let q : max 1 a.second ≡ 1 = omega arith in
    rw (c.in-Each.is, q, mul-one) (omega arith)

pub returns-in-Unit : goal.returns-in-Unit
unfolding operator_by
returns-in-Unit c =
    let a = c.args in
    let P : Kind → Type 0 = λ k. bound_by a.set.now a.node a.first a.second k ≡ 1 in
    rw (one_of P refl (just_other P (λ b. refl)) c.in-Unit.is)

pub returns-in-Scan : goal.returns-in-Scan
returns-in-Scan c =
    let a = c.args in
    rw (scan-bound a.set.now a.node a.first a.second c.in-Scan.is, ← c.table_from.ensures, ← c.rows_of.ensures.value) c.capped.ensures

pub returns-in-Cross : goal.returns-in-Cross
unfolding operator_by
returns-in-Cross c = rw c.in-Cross.is c.capped_product.ensures

pub returns-else-second-lt1 : goal.returns-else-second-lt1
unfolding operator_by
returns-else-second-lt1 c =
    let a = c.args in
    let q : max 1 a.second ≡ a.second = omega arith in
    rw (c.in-Each.is, q) c.capped_product-in-Each.ensures

pub returns-in_default : goal.returns-in_default
returns-in_default c =
    let a = c.args in
    let d = c.in_default in
    rw (first-bound a.set.now a.node a.first a.second a.node.kind d.not-Unit d.not-Other d.not-Scan d.not-Cross d.not-Each) (within_cap a.first 4097 c.requires)
