use native.Mathlib.Omega.{arith}
use mathlib.Core.Path.{ap, ◌∙◌}
use Prim.Native.Nat.{ℕ, ◌+◌}
use Rattle.algebra.specs.Refusals.{need}
use Rattle.reading.specs.TableSet.{tables_of}
use Rattle.reading.specs.Tree.{plan_of}
use Rattle.reading.proofs.NeedLaws.{capped_part-most, capped-part}
use Rattle.reading.proofs.need.need_of.Goals as goal

pub overflow_add-result : goal.overflow_add-result
overflow_add-result c =
    let a = c.args in
    omega (arith, capped_part-most (tables_of a.set.now) a.plan.now 0 (omega (arith, c.type_inv.plan 5)))

pub returns : goal.returns
unfolding need
returns c =
    let a = c.args in
    ap (λ (n : ℕ). n + 4096) (c.part_at.ensures ∙ capped-part (tables_of a.set.now) (plan_of a.plan.now) c.requires.plan_value c.requires.plan_value_2)
