use native.Mathlib.Omega.{arith}
use native.Mathlib.Nat.{mul-le-mul}
use mathlib.Core.Path.{◌≡◌, sym, ap, ◌∙◌}
use mathlib.Core.List.{List}
use Prim.Native.Nat.{ℕ, ◌≤◌}
use borrow.Author.Tests.{lt-ltb, le-ltb, lt-leb, le-leb, eq-eqb, ne_eqb}
use Rattle.reading.specs.Bytes.{starts_with}
use Rattle.reading.specs.Plan.{plan_mark, read_plan_as}
use Rattle.reading.proofs.plan.read_plan.Goals as goal
use Rattle.reading.proofs.plan.read_plan.Goals.{After-starts_with}

-- the mark that is compared is the version's
marked-is : (c : After-starts_with)
    → let a = c.args in
    c.starts_with.result ≡ starts_with (plan_mark a.version) a.plan.now
marked-is c =
    c.starts_with.ensures ∙ ap (λ (m : List ℕ). starts_with m c.args.plan.now) c.plan_mark-mark.ensures

pub returns-then-plan-lt6 : goal.returns-then-plan-lt6
unfolding read_plan_as
returns-then-plan-lt6 c = rw (lt-ltb _ _ c.if-plan-lt6.true)

pub returns-then-not-starts_with : goal.returns-then-not-starts_with
unfolding read_plan_as
returns-then-not-starts_with c =
    rw (le-ltb _ _ c.if-plan-lt6.false, sym (marked-is (goal.at.returns-then-not-starts_with c).After-starts_with) ∙ c.if-not-starts_with.true)

pub returns-then-n-lt1 : goal.returns-then-n-lt1
unfolding read_plan_as
returns-then-n-lt1 c =
    rw (
      le-ltb _ _ c.if-plan-lt6.false,
      sym (marked-is (goal.at.returns-then-n-lt1 c).After-starts_with) ∙ c.if-not-starts_with.false,
      ← c.byte_at-n.ensures,
      lt-leb _ _ c.if-n-lt1.true,
    )

pub returns-then-n-gt64 : goal.returns-then-n-gt64
unfolding read_plan_as
returns-then-n-gt64 c =
    rw (
      le-ltb _ _ c.if-plan-lt6.false,
      sym (marked-is (goal.at.returns-then-n-gt64 c).After-starts_with) ∙ c.if-not-starts_with.false,
      ← c.byte_at-n.ensures,
      le-leb _ _ c.if-n-lt1.false,
      lt-leb _ _ c.if-n-gt64.true,
    )

pub overflow_mul-node_size : goal.overflow_mul-node_size
overflow_mul-node_size c =
    let h : c.byte_at-n.result ≤ 64 = omega arith in
    let m = mul-le-mul c.node_size.ensures.lower_bound.1 h in
    omega arith

pub overflow_add-node_size : goal.overflow_add-node_size
overflow_add-node_size c =
    let h : c.byte_at-n.result ≤ 64 = omega arith in
    let m = mul-le-mul c.node_size.ensures.lower_bound.1 h in
    omega arith

pub returns-then-plan-node_size : goal.returns-then-plan-node_size
unfolding read_plan_as
returns-then-plan-node_size c =
    rw (
      le-ltb _ _ c.if-plan-lt6.false,
      sym (marked-is (goal.at.returns-then-plan-node_size c).After-starts_with) ∙ c.if-not-starts_with.false,
      ← c.byte_at-n.ensures,
      le-leb _ _ c.if-n-lt1.false,
      le-leb _ _ c.if-n-gt64.false,
      ← c.node_size.ensures.value,
      ne_eqb _ _ c.if-plan-node_size.true,
    )

pub returns-then-not-nodes_allowed : goal.returns-then-not-nodes_allowed
unfolding read_plan_as
returns-then-not-nodes_allowed c =
    rw (
      le-ltb _ _ c.if-plan-lt6.false,
      sym (marked-is (goal.at.returns-then-not-nodes_allowed c).After-starts_with) ∙ c.if-not-starts_with.false,
      ← c.byte_at-n.ensures,
      le-leb _ _ c.if-n-lt1.false,
      le-leb _ _ c.if-n-gt64.false,
      ← c.node_size.ensures.value,
      eq-eqb _ _ c.if-plan-node_size.false,
      sym c.nodes_allowed.ensures ∙ c.if-not-nodes_allowed.true,
    )

pub returns : goal.returns
unfolding read_plan_as
returns c =
    rw (
      le-ltb _ _ c.if-plan-lt6.false,
      sym (marked-is (goal.at.returns c).After-starts_with) ∙ c.if-not-starts_with.false,
      ← c.byte_at-n.ensures,
      le-leb _ _ c.if-n-lt1.false,
      le-leb _ _ c.if-n-gt64.false,
      ← c.node_size.ensures.value,
      eq-eqb _ _ c.if-plan-node_size.false,
      sym c.nodes_allowed.ensures ∙ c.if-not-nodes_allowed.false,
    )
