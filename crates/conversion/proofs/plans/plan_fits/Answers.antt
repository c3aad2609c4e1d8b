use Prim.Native.Nat.{◌<◌}
use native.Mathlib.Omega.{arith}
use mathlib.Core.Path.{◌≡◌, sym, ap, ◌∙◌}
use Rattle.reading.specs.Plan.{node_at, nodes_of}
use Rattle.reading.specs.declared.plan.Node.{Node}
use Rattle.reading.proofs.Laws.{all-holds, all-fails}
use Rattle.conversion.specs.Helpers.{test_fits, nodes_fit}
use Rattle.conversion.proofs.plans.plan_fits.Goals as goal

pub returns-then-not-test_fits : goal.returns-then-not-test_fits
unfolding nodes_fit
returns-then-not-test_fits c =
    let a = c.args in
    let l = c.loop-i in
    let h : l.i < nodes_of a.plan.now = omega arith in
    let tested : c.test_fits.result ≡ test_fits a.version (node_at a.plan.now l.i).test = c.test_fits.ensures ∙ ap (λ (n : Node). test_fits a.version n.test) c.node_at.ensures in
    sym (all-fails _ _ l.i h (sym tested ∙ c.if-not-test_fits.true))

pub returns : goal.returns
unfolding nodes_fit
returns c = sym (all-holds _ _ (λ k h. c.loop-i.invariant k (omega arith)))
