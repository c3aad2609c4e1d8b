-- What a node tests and measures, by its kind. Assumes nothing.
use mathlib.Core.Path.{◌≡◌, refl}
use mathlib.Core.Bool.{Bool, true, false, not, cond, ◌&&◌, ◌||◌, beq}
use Rattle.algebra.specs.Lists.{flip}
use Rattle.algebra.specs.Cells.{count}
use Rattle.algebra.specs.Plans.{Env, holds}
use Rattle.reading.specs.Tree.{operator_by, operator_of, node_test, node_aggregate}
use Rattle.reading.specs.declared.kinds.Kind.{Kind}
use Rattle.reading.specs.declared.plan.Node.{Node}
use Rattle.reading.proofs.Operators.{each_kind}
use Rattle.reporting.specs.Rows.{passing, aggregate_in}
use Rattle.reporting.specs.Keys.{has_test, has_keys, has_aggregate, key_comparison, keys_hold}

-- a mark turns an outcome round where the two differ
pub flip-differs : (mark b : Bool) → not (beq b mark) ≡ flip mark b
flip-differs true true = refl
flip-differs true false = refl
flip-differs false true = refl
flip-differs false false = refl

pub flip-true : (mark : Bool) → not mark ≡ flip mark true
flip-true true = refl
flip-true false = refl

pub flip-false : (mark : Bool) → mark ≡ flip mark false
flip-false true = refl
flip-false false = refl

-- a row passes where its keys and its test hold; a kind without a test lets every row pass
passing-by : (node : Node) (env : Env) (k : Kind) → passing (operator_by k node) env ≡ (not (has_test k) || (keys_hold k node env && holds (node_test node) env))
unfolding operator_by passing has_test has_keys key_comparison keys_hold
passing-by node env =
    each_kind (λ k. passing (operator_by k node) env ≡ (not (has_test k) || (keys_hold k node env && holds (node_test node) env)))
    refl refl refl refl refl refl refl refl refl refl refl refl refl refl refl (λ k. refl)

pub passing_of : (node : Node) (env : Env) → passing (operator_of node) env ≡ (not (has_test node.kind) || (keys_hold node.kind node env && holds (node_test node) env))
passing_of node env = passing-by node env node.kind

-- a kind without an aggregate counts
aggregate-by : (node : Node) (k : Kind) → aggregate_in (operator_by k node) ≡ cond (has_aggregate k) (node_aggregate node) count
unfolding operator_by aggregate_in has_aggregate
aggregate-by node =
    each_kind (λ k. aggregate_in (operator_by k node) ≡ cond (has_aggregate k) (node_aggregate node) count)
    refl refl refl refl refl refl refl refl refl refl refl refl refl refl refl (λ k. refl)

pub aggregate-of : (node : Node) → aggregate_in (operator_of node) ≡ cond (has_aggregate node.kind) (node_aggregate node) count
aggregate-of node = aggregate-by node node.kind
