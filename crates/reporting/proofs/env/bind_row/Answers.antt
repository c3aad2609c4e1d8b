use mathlib.Core.Path.{◌≡◌, ap, ◌∙◌}
use Prim.Native.Nat.{ℕ, ◌+◌, ◌-◌}
use native.Mathlib.Omega.{arith}
use lib.ListN.{drop, length-set}
use Rattle.algebra.specs.Plans.{bind}
use Rattle.reporting.specs.Rows.{env_of}
use Rattle.reporting.proofs.Envs.{bound-more}
use Rattle.reporting.proofs.env.bind_row.Goals as goal

pub loop-i-preserved : goal.loop-i-preserved
loop-i-preserved c =
    let a = c.args in
    let l = c.loop-i in
    let i : ℕ = l.i - 1 in
    let e : l.i ≡ i + 1 = omega arith in
    (simp length-set l.invariant.0, bound-more l.env a.ids.now a.row.now (env_of a.env.now) i (omega arith) (omega arith) (omega (arith, c.type_inv.ids i)) (l.invariant.1 ∙ ap (λ (k : ℕ). bind (drop k a.ids.now) (drop k a.row.now) (env_of a.env.now)) e))
