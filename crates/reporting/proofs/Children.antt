-- What the tree at a place is made of, by the number of its node's children. Assumes nothing.
use Prim.Native.Nat.{ℕ, ◌+◌, ◌*◌, ◌≤◌, ◌<◌}
use mathlib.Core.Bool.{Bool, true, false, true≢false}
use mathlib.Core.Logic.{◌⊎◌}
use mathlib.Core.Path.{◌≡◌, refl, sym, ap, subst}
use mathlib.Core.List.{List, [], ◌∷◌, ◌++◌}
use native.Mathlib.Omega.{arith}
use lib.ListN.{length, length-append}
use Rattle.algebra.specs.Lists.{flat_map}
use Rattle.algebra.specs.Plans.{Env, Tables, Leaf, Unary, select, project, distinct, group, sort, Binary, cross, semi, quant, fold, each, pair, Plan, leaf, one, two, bind, unary_columns, columns, nested, around, emit, joined_within, eval, eval_within}
use Rattle.algebra.specs.Places.{Operator, leaf_node, unary_node, binary_node, size}
use Rattle.algebra.specs.Refusals.{width, bound, unary_region, has_region, part}
use Rattle.algebra.proofs.Refusals.{in_view_one}
use Rattle.algebra.proofs.Needs.{part-one, part-two, list-narrow}
use Rattle.reading.specs.Plan.{node_at, nodes_of}
use Rattle.reading.specs.Tree.{operator_by, operator_of, plan_at}
use Rattle.reading.specs.Nodes.{arity, operator_nested}
use Rattle.reading.specs.declared.kinds.Kind.{Kind}
use Rattle.reading.specs.declared.kinds.Kind.TheVariants.{Cross, Fold, Each, Pair}
use Rattle.reading.specs.declared.plan.Node.{Node}
use Rattle.reading.proofs.Operators.{each_kind, one_of, just}
use Rattle.reading.proofs.Trees.{plan_case, first_tree, second_tree}
use Rattle.reporting.specs.Rows.{acted, acted_columns, emitted, emitted_columns, emitted_most}
use Rattle.reporting.specs.Evaluation.{Sound, share_of, nested_row, plain_row, leaf_given, leaf_width, leaf_most}
use Rattle.reporting.proofs.Soundness.{sound_child, sound-left, sound-right}

-- ---- by the number of children

pub record Childless (T : Tables) (op : Operator) (P : Plan) : Type 0 where
  pub rows : (env : Env) → eval T P env ≡ leaf_given T op
  pub wide : width T P ≡ leaf_width T op
  pub most : bound T P ≡ leaf_most T op

-- p the first child
pub record First (T : Tables) (op : Operator) (P p : Plan) : Type 0 where
  pub sound : Sound T P → Sound T p
  pub room : share_of op (bound T P) (width T P) + part T p ≤ part T P
  pub smaller : size p < size P

-- .. and the only one; without a region the node's rows are no wider than the child's
pub record Single (T : Tables) (op : Operator) (P p : Plan) : Type 0 where
  pub rows : (env : Env) → eval T P env ≡ acted op (columns T p) env (eval T p env)
  pub ids : columns T P ≡ acted_columns op (columns T p)
  pub most : bound T P ≡ bound T p
  pub slim : Sound T P → has_region op ≡ false → length (acted_columns op (columns T p)) ≤ width T p

-- .. or the first of two; the second is run for each left row where the node is nested
pub record Double (T : Tables) (op : Operator) (P p q : Plan) : Type 0 where
  pub nests : operator_nested op ≡ true → (env : Env) → eval T P env ≡ flat_map (nested_row T op (columns T p) q env) (eval T p env)
  pub plain : operator_nested op ≡ false → (env : Env) → eval T P env ≡ flat_map (plain_row op (columns T p) (columns T q) (eval T q env) env) (eval T p env)
  pub ids : columns T P ≡ emitted_columns op (columns T p) (columns T q)
  pub most : bound T P ≡ bound T p * emitted_most op (bound T q)
  pub sound : Sound T P → Sound T q
  pub room : share_of op (bound T P) (width T P) + part T p + part T q ≤ part T P
  pub smaller : size q < size P

module _ (T : Tables) where
  childless : (x : Leaf) → Childless T (leaf_node x) (leaf x)
  unfolding eval_within columns bound
  childless x = record { rows = λ env. refl; wide = refl; most = refl }

  first_one : (u : Unary) (p : Plan) → First T (unary_node u) (one u p) p
  unfolding size
  first_one u p = record {
    sound = sound_child;
    room = omega (arith, part-one T u p);
    smaller = omega arith;
  }

  two-room : (b : Binary) (e f : Plan) → share_of (binary_node b) (bound T (two b e f)) (width T (two b e f)) + part T e + part T f ≤ part T (two b e f)
  two-room b e f = omega (arith, part-two T b e f)

  first_two : (b : Binary) (e f : Plan) → First T (binary_node b) (two b e f) e
  unfolding size
  first_two b e f = record { sound = sound-left; room = omega (arith, two-room b e f); smaller = omega arith }

  slim-one : (u : Unary) (p : Plan) → Sound T (one u p) → unary_region u ≡ false → length (unary_columns u (columns T p)) ≤ width T p
  slim-one (select t) p s e = omega arith
  slim-one (project ids) p s e = list-narrow ids (columns T p) (in_view_one T s.scope (project ids) p s.in_view_all).0
  slim-one (distinct ids) p s e = absurd (true≢false e)
  slim-one (group g n l r c t) p s e = absurd (true≢false e)
  slim-one (sort d ids) p s e = absurd (true≢false e)

  pub single : (u : Unary) (p : Plan) → Single T (unary_node u) (one u p) p
  unfolding eval_within columns bound acted
  single u p = record { rows = λ env. refl; ids = refl; most = refl; slim = slim-one u p }

  double-rows : (b : Binary) (e f : Plan) (m : Bool) (env : Env) → nested b ≡ m
      → eval T (two b e f) env ≡ flat_map (λ l. emit b (columns T f) l (bind (columns T e) l env) (eval T f (around m env (bind (columns T e) l env)))) (eval T e env)
  unfolding eval_within joined_within
  double-rows b e f m env h = ap (λ (z : Bool). flat_map (λ l. emit b (columns T f) l (bind (columns T e) l env) (eval T f (around z env (bind (columns T e) l env)))) (eval T e env)) h

  double : (b : Binary) (e f : Plan) → Double T (binary_node b) (two b e f) e f
  unfolding columns bound emitted size
  double b e f = record {
    nests = λ h env. double-rows b e f true env h;
    plain = λ h env. double-rows b e f false env h;
    ids = refl;
    most = refl;
    sound = sound-right;
    room = two-room b e f;
    smaller = omega arith;
  }

  -- the tree at a place, whose node was read
  module _ (plan : List ℕ) (at : ℕ) (node : Node) (h : at < nodes_of plan) (e : node ≡ node_at plan at) where
    pub childless-at : arity (operator_of node) ≡ 0 → Childless T (operator_of node) (plan_at plan at)
    childless-at z =
        subst (λ (n : Node). arity (operator_of n) ≡ 0 → Childless T (operator_of n) (plan_at plan at)) (sym e)
        (plan_case plan at (λ op p. arity op ≡ 0 → Childless T op p) (λ x k. childless x) (λ u k. absurd (omega arith)) (λ b k. absurd (omega arith)) h) z

    pub first-at : (arity (operator_of node) ≡ 0 → ⊥) → First T (operator_of node) (plan_at plan at) (plan_at plan (at + 1))
    first-at z =
        subst (λ (n : Node). (arity (operator_of n) ≡ 0 → ⊥) → First T (operator_of n) (plan_at plan at) (plan_at plan (at + 1))) (sym e)
        (plan_case plan at (λ op p. (arity op ≡ 0 → ⊥) → First T op p (plan_at plan (at + 1))) (λ x k. absurd (k refl)) (λ u k. first_one u (first_tree plan at))
        (λ b k. first_two b (first_tree plan at) (second_tree plan at)) h) z

    pub single-at : arity (operator_of node) ≡ 1 → Single T (operator_of node) (plan_at plan at) (plan_at plan (at + 1))
    single-at z =
        subst (λ (n : Node). arity (operator_of n) ≡ 1 → Single T (operator_of n) (plan_at plan at) (plan_at plan (at + 1))) (sym e)
        (plan_case plan at (λ op p. arity op ≡ 1 → Single T op p (plan_at plan (at + 1))) (λ x k. absurd (omega arith)) (λ u k. single u (first_tree plan at)) (λ b k. absurd (omega arith)) h) z

    pub double-at : arity (operator_of node) ≡ 2 → Double T (operator_of node) (plan_at plan at) (first_tree plan at) (second_tree plan at)
    double-at z =
        subst (λ (n : Node). arity (operator_of n) ≡ 2 → Double T (operator_of n) (plan_at plan at) (first_tree plan at) (second_tree plan at)) (sym e)
        (plan_case plan at (λ op p. arity op ≡ 2 → Double T op p (first_tree plan at) (second_tree plan at)) (λ x k. absurd (omega arith)) (λ u k. absurd (omega arith))
        (λ b k. double b (first_tree plan at) (second_tree plan at)) h) z

-- a node has no more than two children
pub two_of : (op : Operator) → (arity op ≡ 0 → ⊥) → (arity op ≡ 1 → ⊥) → arity op ≡ 2
two_of (leaf_node x) a b = absurd (a refl)
two_of (unary_node u) a b = absurd (b refl)
two_of (binary_node x) a b = refl

-- a node with two children and no region gives of each left row that row or nothing
pub keeps_rows : (op : Operator) → arity op ≡ 2 → has_region op ≡ false → (cs ds : List ℕ) (k : ℕ) → (emitted_most op k ≡ 1) × (length (emitted_columns op cs ds) ≡ length cs)
keeps_rows (leaf_node x) a e cs ds k = absurd (omega arith)
keeps_rows (unary_node u) a e cs ds k = absurd (omega arith)
keeps_rows (binary_node cross) a e cs ds k = absurd (true≢false e)
keeps_rows (binary_node (semi m l r t)) a e cs ds k = (refl, refl)
keeps_rows (binary_node (quant m t)) a e cs ds k = (refl, refl)
keeps_rows (binary_node (fold g n t)) a e cs ds k = absurd (true≢false e)
keeps_rows (binary_node each) a e cs ds k = absurd (true≢false e)
keeps_rows (binary_node (pair g n l r c t)) a e cs ds k = absurd (true≢false e)

-- more right rows give no fewer rows
pub most-mono : (op : Operator) (j k : ℕ) → j ≤ k → emitted_most op j ≤ emitted_most op k
most-mono (leaf_node x) j k h = omega arith
most-mono (unary_node u) j k h = omega arith
most-mono (binary_node cross) j k h = h
most-mono (binary_node (semi m l r t)) j k h = omega arith
most-mono (binary_node (quant m t)) j k h = omega arith
most-mono (binary_node (fold g n t)) j k h = omega arith
most-mono (binary_node each) j k h = omega arith
most-mono (binary_node (pair g n l r c t)) j k h = omega arith

-- ---- by the kind
module _ (node : Node) (cs ds : List ℕ) where
  abbrev pub Wide : ℕ → Kind → Type 0
  Wide n k = n ≡ length (emitted_columns (operator_by k node) cs ds)

  pub both-wide : (node.kind ≡ Cross) ⊎ (node.kind ≡ Each) → Wide (length cs + length ds) node.kind
  unfolding operator_by
  both-wide =
      let both : length cs + length ds ≡ length (cs ++ ds) = sym (length-append cs ds) in
      one_of (Wide (length cs + length ds)) both (just (Wide (length cs + length ds)) both)

  pub more-wide : (node.kind ≡ Fold) ⊎ (node.kind ≡ Pair) → Wide (length cs + 1) node.kind
  unfolding operator_by
  more-wide =
      let more : length cs + 1 ≡ length (cs ++ (node.id ∷ [])) = sym (length-append cs (node.id ∷ [])) in
      one_of (Wide (length cs + 1)) more (just (Wide (length cs + 1)) more)

  -- the others with two children
  left_by : (k : Kind) → arity (operator_by k node) ≡ 2 → (k ≡ Cross → ⊥) → (k ≡ Each → ⊥) → (k ≡ Fold → ⊥) → (k ≡ Pair → ⊥) → Wide (length cs) k
  unfolding operator_by
  left_by =
      each_kind (λ k. arity (operator_by k node) ≡ 2 → (k ≡ Cross → ⊥) → (k ≡ Each → ⊥) → (k ≡ Fold → ⊥) → (k ≡ Pair → ⊥) → Wide (length cs) k)
      (λ a b c d e. absurd (omega arith)) (λ a b c d e. absurd (omega arith)) (λ a b c d e. absurd (omega arith)) (λ a b c d e. absurd (omega arith)) (λ a b c d e. absurd (omega arith))
      (λ a b c d e. absurd (b refl)) (λ a b c d e. refl) (λ a b c d e. refl) (λ a b c d e. refl) (λ a b c d e. refl)
      (λ a b c d e. absurd (d refl)) (λ a b c d e. absurd (c refl)) (λ a b c d e. absurd (e refl))
      (λ a b c d e. absurd (omega arith)) (λ a b c d e. absurd (omega arith)) (λ k a b c d e. absurd (omega arith))

  pub left-wide : arity (operator_of node) ≡ 2 → (node.kind ≡ Cross → ⊥) → (node.kind ≡ Each → ⊥) → (node.kind ≡ Fold → ⊥) → (node.kind ≡ Pair → ⊥) → Wide (length cs) node.kind
  left-wide = left_by node.kind
