-- What a rule makes of a node's tree, told apart into what the plan alone decides and what rows decide, and the bytes of the plan after it. The
-- contracts of helpers speak of these; the rules are the algebra's `unnest`. Definitions only.
use Rattle.std.specs.Prelude.{ℕ, ◌+◌, ◌*◌, ◌-◌, ◌≤◌, ◌<◌, Bool, true, not, cond, ◌≡◌, List, [], ◌++◌, Option as Answer, None, Some, MatchOption, take, drop}
use Rattle.std.proofs.Math.Option.{Option, none, some}
use Rattle.algebra.specs.Lists.{is_empty, flat_map}
use Rattle.algebra.specs.Plans.{Tables, is_plain, cross, semi, quant, fold, each, pair, Plan, leaf, one, two, eval}
use Rattle.algebra.specs.Places.{Operator, leaf_node, unary_node, binary_node, size, flatten}
use Rattle.algebra.specs.Names.{closed}
use Rattle.algebra.specs.Rules.{outside, sequenced, Sequence, top, unprojected, bare, only_of, when, fresh, u1, u3, u5, u6, u7}
use Rattle.reading.specs.Plan.{nodes_of}
use Rattle.reading.specs.TableSet.{tables_of}
use Rattle.reading.specs.Tree.{plan_at, plan_of}
use Rattle.reading.specs.Encoding.{node_bytes}
use Rattle.unnesting.specs.Images.{image}
use Rattle.unnesting.specs.declared.change.Change.{Change}
use Rattle.unnesting.specs.declared.change.More.{More}
use Rattle.unnesting.specs.declared.change.More.TheVariants.{Nothing, One, Two}
use Rattle.unnesting.specs.declared.rule.Rule.{Rule}
use Rattle.unnesting.specs.declared.rule.Rule.TheVariants.{U1, U2, U3, U4, U5, U6, U7, U8}

-- ---- a rule without what rows decide

-- a test of sequences that every two pass
abbrev pub any_sequence : Sequence
any_sequence e r h = true

-- what the node's rule makes of its tree where rows do not stand against it; c the smallest id introduced nowhere
unfoldable pub shape : Tables → Option ℕ → Plan → Option Plan
shape T c (leaf x) = none
shape T c (one u p) = none
shape T c (two cross e f) = none
shape T c (two (semi m l r t) e f) = cond (is_plain t) (u3 T any_sequence c m l r (only_of e) (top f)) (u7 T m l r t e f)
shape T c (two (quant m t) e f) = u1 T m t e (top (unprojected f))
shape T c (two (fold a n t) e f) = u5 T a n t e (top (unprojected f))
shape T c (two each e f) = when (closed T f) (two cross e f)
shape T c (two (pair a n l r k t) e f) = u6 T any_sequence a n l r k t (only_of e) f

-- what rows decide: the sequences of U3, U4 and U6, and that U8's inner plan gives a row
unfoldable pub ready : Tables → Plan → Bool
ready T (leaf x) = true
ready T (one u p) = true
ready T (two cross e f) = true
ready T (two (semi m l r t) e f) = cond (is_plain t) (sequenced T e r (bare (top f))) true
ready T (two (quant m t) e f) = true
ready T (two (fold a n t) e f) = true
ready T (two each e f) = not (is_empty (eval T f outside))
ready T (two (pair a n l r k t) e f) = sequenced T e r f

-- the number of a rule
abbrev pub rule_number : Rule → ℕ
rule_number U1 = 1
rule_number U2 = 2
rule_number U3 = 3
rule_number U4 = 4
rule_number U5 = 5
rule_number U6 = 6
rule_number U7 = 7
rule_number U8 = 8

-- of the rule that can fit, 0 where none can
abbrev pub number_of_rule : Answer Rule → ℕ
number_of_rule None = 0
number_of_rule (Some rule) = rule_number rule

-- the number of the rule that can fit at a node, as the algebra's `rule_of`
abbrev pub operator_rule : Operator → ℕ
operator_rule (leaf_node x) = 0
operator_rule (unary_node u) = 0
operator_rule (binary_node cross) = 0
operator_rule (binary_node (semi m l r t)) = cond (is_plain t) (cond m 4 3) 7
operator_rule (binary_node (quant m t)) = cond m 2 1
operator_rule (binary_node (fold a n t)) = 5
operator_rule (binary_node each) = 8
operator_rule (binary_node (pair a n l r k t)) = 6

-- ---- the plan after it, as bytes

-- the bytes of the nodes from a place up to another
abbrev pub node_slice : List ℕ → ℕ → ℕ → List ℕ
node_slice plan from to = take (32 * (to - from)) (drop (6 + 32 * from) plan)

-- of the nodes that a change brings besides its first
abbrev pub more_bytes : More → List ℕ
more_bytes Nothing = []
more_bytes (One node) = image node
more_bytes (Two node next) = image node ++ image next

-- how many they are
abbrev pub more_count : More → ℕ
more_count Nothing = 0
more_count (One node) = 1
more_count (Two node next) = 2

-- The nodes after a change at a place: those before it, the change's first node, those up to `keep`, the change's other nodes, and those from
-- `from` on.
abbrev pub changed_bytes : List ℕ → ℕ → Change → List ℕ
changed_bytes plan i change =
    node_slice plan 0 i
    ++ (image change.first ++ (node_slice plan (i + 1) change.keep ++ (more_bytes change.more ++ node_slice plan change.from (nodes_of plan))))

abbrev pub changed_count : List ℕ → ℕ → Change → ℕ
changed_count plan i change = i + (1 + ((change.keep - (i + 1)) + (more_count change.more + (nodes_of plan - change.from))))

-- the places of a change lie in the plan, and the plan after it has at most 65 nodes: U7 alone brings one more than it takes
pub record Inside (plan : List ℕ) (i : ℕ) (change : Change) : Type 0 where
  pub place : i < nodes_of plan
  pub kept : i + 1 ≤ change.keep
  pub end : change.keep ≤ nodes_of plan
  pub rest : change.from ≤ nodes_of plan
  pub count : changed_count plan i change ≤ 65

-- The change makes of the tree at its place what the node's rule does.
pub record Makes (T : Tables) (c : Option ℕ) (plan : List ℕ) (i : ℕ) (change : Change) : Type 0 where
  pub made : Plan
  pub is : shape T c (plan_at plan i) ≡ some made
  pub inside : Inside plan i change
  pub before : change.from ≤ i + size (plan_at plan i)
  pub bytes : flat_map node_bytes (flatten made)
      ≡ image change.first ++ (node_slice plan (i + 1) change.keep ++ (more_bytes change.more ++ node_slice plan change.from (i + size (plan_at plan i))))

-- An answer about the rule at a place: its change, or that it does not fit.
abbrev pub Shaped : Tables → Option ℕ → List ℕ → ℕ → Answer Change → Type 0
Shaped T c plan i answer = MatchOption answer (shape T c (plan_at plan i) ≡ none) (λ change. Makes T c plan i change)

-- the same with the smallest id introduced nowhere in the plan
abbrev pub ShapedAt : List ℕ → List ℕ → ℕ → Answer Change → Type 0
ShapedAt set plan i answer = Shaped (tables_of set) (fresh (tables_of set) (plan_of plan)) plan i answer
