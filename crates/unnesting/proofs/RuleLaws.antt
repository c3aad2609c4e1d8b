-- The rule that can fit at a place, by the node there. Assumes nothing.
use Prim.Native.Nat.{ℕ, ◌<◌}
use mathlib.Core.Bool.{Bool, true, false, cond}
use mathlib.Core.Path.{◌≡◌, refl, ap, sym, ◌∙◌}
use mathlib.Core.List.{List}
use mathlib.Core.Option.{Option, none}
use native.Mathlib.Omega.{arith}
use Rattle.algebra.specs.Plans.{Tables, is_plain, Binary, cross, semi, quant, fold, each, pair, Plan, leaf, one, two}
use Rattle.algebra.specs.Places.{binary_node}
use Rattle.algebra.specs.Rules.{rule_of}
use Rattle.reading.specs.Plan.{node_at, nodes_of}
use Rattle.reading.specs.Tree.{operator_by, operator_of, operator_at, plan_at}
use Rattle.reading.specs.declared.kinds.Kind.{Kind}
use Rattle.reading.specs.declared.kinds.Kind.TheVariants.{Semi, Anti, Some, Every, Fold, Each, Pair}
use Rattle.reading.specs.declared.plan.Node.{Node}
use Rattle.reading.proofs.Operators.{each_kind}
use Rattle.reading.proofs.Trees.{plan_case, first_tree, second_tree}
use Rattle.unnesting.specs.Shapes.{operator_rule, shape}

binary_rule : (b : Binary) (e f : Plan) → rule_of (two b e f) ≡ operator_rule (binary_node b)
unfolding rule_of
binary_rule cross e f = refl
binary_rule (semi m l r t) e f = refl
binary_rule (quant m t) e f = refl
binary_rule (fold a n t) e f = refl
binary_rule each e f = refl
binary_rule (pair a n l r c t) e f = refl

-- the tree at a place has the rule of its node
pub rule-at : (plan : List ℕ) (i : ℕ) → i < nodes_of plan → rule_of (plan_at plan i) ≡ operator_rule (operator_at plan i)
unfolding rule_of
rule-at plan i = plan_case plan i (λ op p. rule_of p ≡ operator_rule op) (λ x. refl) (λ u. refl) (λ b. binary_rule b (first_tree plan i) (second_tree plan i))

-- the kinds that no rule is for
pub no-rule : (node : Node) (k : Kind) → (k ≡ Semi → ⊥) → (k ≡ Anti → ⊥) → (k ≡ Some → ⊥) → (k ≡ Every → ⊥) → (k ≡ Fold → ⊥) → (k ≡ Each → ⊥) → (k ≡ Pair → ⊥)
    → 0 ≡ operator_rule (operator_by k node)
unfolding operator_by
no-rule node =
    each_kind
    (λ k. (k ≡ Semi → ⊥) → (k ≡ Anti → ⊥) → (k ≡ Some → ⊥) → (k ≡ Every → ⊥) → (k ≡ Fold → ⊥) → (k ≡ Each → ⊥) → (k ≡ Pair → ⊥) → 0 ≡ operator_rule (operator_by k node))
    (λ a b c d e f g. refl) (λ a b c d e f g. refl) (λ a b c d e f g. refl) (λ a b c d e f g. refl) (λ a b c d e f g. refl) (λ a b c d e f g. refl)
    (λ a b c d e f g. absurd (a refl)) (λ a b c d e f g. absurd (b refl)) (λ a b c d e f g. absurd (c refl)) (λ a b c d e f g. absurd (d refl))
    (λ a b c d e f g. absurd (e refl)) (λ a b c d e f g. absurd (f refl)) (λ a b c d e f g. absurd (g refl))
    (λ a b c d e f g. refl) (λ a b c d e f g. refl) (λ k a b c d e f g. refl)

-- where none is for the root, nothing is made of a tree
semi-rule : (p m : Bool) → ◌≡◌ {A = ℕ} 0 (cond p (cond m 4 3) 7) → ⊥
semi-rule true true e = omega arith
semi-rule true false e = omega arith
semi-rule false m e = omega arith

quant-rule : (m : Bool) → ◌≡◌ {A = ℕ} 0 (cond m 2 1) → ⊥
quant-rule true e = omega arith
quant-rule false e = omega arith

pub rule-none : (T : Tables) (c : Option ℕ) (p : Plan) → 0 ≡ rule_of p → shape T c p ≡ none
unfolding rule_of shape
rule-none T c (leaf x) h = refl
rule-none T c (one u p) h = refl
rule-none T c (two cross e f) h = refl
rule-none T c (two (semi m l r t) e f) h = absurd (semi-rule (is_plain t) m h)
rule-none T c (two (quant m t) e f) h = absurd (quant-rule m h)
rule-none T c (two (fold a n t) e f) h = absurd (omega arith)
rule-none T c (two each e f) h = absurd (omega arith)
rule-none T c (two (pair a n l r k t) e f) h = absurd (omega arith)

none-at : (T : Tables) (c : Option ℕ) (plan : List ℕ) (i : ℕ) → i < nodes_of plan → (node : Node) → node ≡ node_at plan i → 0 ≡ operator_rule (operator_of node)
    → shape T c (plan_at plan i) ≡ none
none-at T c plan i h node e q = rule-none T c (plan_at plan i) (q ∙ (ap (λ (x : Node). operator_rule (operator_of x)) e ∙ sym (rule-at plan i h)))

-- of a node of another kind
pub other-none : (T : Tables) (c : Option ℕ) (plan : List ℕ) (i : ℕ) → i < nodes_of plan → (node : Node) → node ≡ node_at plan i
    → (node.kind ≡ Semi → ⊥) → (node.kind ≡ Anti → ⊥) → (node.kind ≡ Some → ⊥) → (node.kind ≡ Every → ⊥) → (node.kind ≡ Fold → ⊥) → (node.kind ≡ Each → ⊥) → (node.kind ≡ Pair → ⊥)
    → shape T c (plan_at plan i) ≡ none
other-none T c plan i h node e p q r s t u v = none-at T c plan i h node e (no-rule node node.kind p q r s t u v)
