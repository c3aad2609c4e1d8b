-- U1, U2 and U5 at a place: how a Select, which may stand under a Project, links its child with another tree, and what the rules make of it.
-- Assumes nothing.
use Prim.Native.Nat.{ℕ, suc, ◌+◌, ◌<◌}
use native.Mathlib.Omega.{arith}
use mathlib.Core.Path.{◌≡◌, refl, sym, ap, ap₂, ◌∙◌}
use mathlib.Core.Bool.{Bool, true, false, cond, and-false, false≢true, true≢false}
use mathlib.Core.List.{List, ◌++◌}
use mathlib.Core.Logic.{◌⊎◌, inl, inr}
use mathlib.Core.Option.{Option, none, some}
use Rattle.algebra.specs.Lists.{flip}
use Rattle.algebra.specs.Plans.{Tables, turned, Unary, select, project, distinct, group, sort, Binary, quant, fold, semi, pair, Plan, one, two, columns}
use Rattle.algebra.specs.Places.{unary_node, binary_node, size, flatten}
use Rattle.algebra.specs.Rules.{top, unprojected, unlinked, link, link_of, is_equal, avoids, to_semi, to_pair, u1, u5, Link as KeyLink}
use Rattle.algebra.proofs.Places.{size-positive}
use Rattle.reading.specs.Plan.{node_at, nodes_of}
use Rattle.reading.specs.Tree.{comparison_of, node_test, node_list, node_aggregate, operator_by, operator_of, operator_at, plan_at, whole_tree}
use Rattle.reading.specs.Encoding.{node_bytes}
use Rattle.reading.specs.declared.kinds.Kind.{Kind}
use Rattle.reading.specs.declared.kinds.Kind.TheVariants.{Select, Project, Semi, Anti, Some, Every, Fold, Pair}
use Rattle.reading.specs.declared.comparison.Comparison.{Comparison}
use Rattle.reading.specs.declared.comparison.Comparison.TheVariants.{Equal, Unequal, Less, AtMost, Greater, AtLeast, Other}
use Rattle.reading.specs.declared.plan.Node.{Node}
use Rattle.reading.proofs.Operators.{one_of, just}
use Rattle.reading.proofs.Trees.{plan_case}
use Rattle.reading.proofs.Ends.{end_at}
use Rattle.reading.proofs.Places.{flat_map-joined}
use Rattle.reading.proofs.PlanBytes.{PlanKnown}
use Rattle.unnesting.specs.Images.{image, plain_node, is_named}
use Rattle.unnesting.specs.Links.{UnprojectedAt, is_every, top_link, without_select}
use Rattle.unnesting.specs.Shapes.{shape, node_slice, Makes}
use Rattle.unnesting.proofs.AllowedNodes.{AllowedNode, allowed_node}
use Rattle.unnesting.proofs.CountLaws.{is_select, is_project, other-select, other-project}
use Rattle.unnesting.proofs.ImageLaws.{keyed-image, pair-image}
use Rattle.unnesting.proofs.PlaceLaws.{slice_at, two_at, one_at}

-- ---- comparisons

-- every one but = is unequal to it
unequal : (c : Comparison) → (c ≡ Equal → ⊥) → is_equal (comparison_of c) ≡ false
unequal Equal d = absurd (d refl)
unequal Unequal d = refl
unequal Less d = refl
unequal AtMost d = refl
unequal Greater d = refl
unequal AtLeast d = refl
unequal (Other byte) d = refl

-- ---- the tree without its top Project

module _ (plan : List ℕ) (f : ℕ) (h : f < nodes_of plan) (node : Node) (is : node ≡ node_at plan f) where
  pub unprojected-below : whole_tree plan ≡ true → node.kind ≡ Project → UnprojectedAt plan f (f + 1)
  unfolding operator_by
  unprojected-below whole k =
      let o : operator_at plan f ≡ unary_node (project (node_list node)) = ap operator_of (sym is) ∙ ap (λ (k : Kind). operator_by k node) k in
      let t = one_at plan whole f h (project (node_list node)) o in
      record {
        tree = sym (ap unprojected t.tree);
        inside = omega (arith, t.last, size-positive (plan_at plan (f + 1)));
        behind = omega arith;
        end = sym t.end;
      }

  pub unprojected-same : (node.kind ≡ Project → ⊥) → UnprojectedAt plan f f
  unprojected-same d = record {
    tree =
        plan_case plan f (λ op p. is_project op ≡ false → p ≡ unprojected p) (λ x q. refl) by (λ b q. refl) h
        (ap (λ (n : Node). is_project (operator_of n)) (sym is) ∙ other-project node node.kind d);
    inside = h;
    behind = omega arith;
    end = refl;
  }
    where
      by : (u : Unary) → is_project (unary_node u) ≡ false → one u (plan_at plan (f + 1)) ≡ unprojected (one u (plan_at plan (f + 1)))
      by (select t) q = refl
      by (project ids) q = absurd (true≢false q)
      by (distinct ids) q = refl
      by (group g n l r c t) q = refl
      by (sort d ids) q = refl

-- ---- the link of the tree at a place

abbrev is_link : KeyLink → Bool
is_link unlinked = false
is_link (link l r c) = true

module _ (T : Tables) (e : Plan) (plan : List ℕ) (f : ℕ) (h : f < nodes_of plan) where
  module _ (node : Node) (is : node ≡ node_at plan f) where
    pub link-other : (node.kind ≡ Select → ⊥) → unlinked ≡ top_link T e (top (plan_at plan f))
    link-other d =
        plan_case plan f (λ op p. is_select op ≡ false → unlinked ≡ top_link T e (top p)) (λ x q. refl) by (λ b q. refl) h
        (ap (λ (n : Node). is_select (operator_of n)) (sym is) ∙ other-select node node.kind d)
      where
        by : (u : Unary) → is_select (unary_node u) ≡ false → unlinked ≡ top_link T e (top (one u (plan_at plan (f + 1))))
        by (select t) q = absurd (true≢false q)
        by (project ids) q = refl
        by (distinct ids) q = refl
        by (group g n l r c t) q = refl
        by (sort d ids) q = refl

    pub link-select : whole_tree plan ≡ true → node.kind ≡ Select → link_of (columns T e) (columns T (plan_at plan (f + 1))) (node_test node) ≡ top_link T e (top (plan_at plan f))
    unfolding operator_by
    link-select whole k =
        let o : operator_at plan f ≡ unary_node (select (node_test node)) = ap operator_of (sym is) ∙ ap (λ (k : Kind). operator_by k node) k in
        sym (ap (λ (p : Plan). top_link T e (top p)) (one_at plan whole f h (select (node_test node)) o).tree)

  -- only a Select links
  select-size : (l : KeyLink) → is_link l ≡ true → top_link T e (top (plan_at plan f)) ≡ l → size (plan_at plan f) ≡ suc (size (plan_at plan (f + 1)))
  unfolding size
  select-size l z =
      plan_case plan f (λ op p. top_link T e (top p) ≡ l → size p ≡ suc (size (plan_at plan (f + 1)))) (λ x q. absurd (no q)) (λ u q. refl) (λ b q. absurd (no q)) h
    where
      no : unlinked ≡ l → ⊥
      no q = false≢true (ap is_link q ∙ z)

-- ---- what the rules make of it

-- a Some, an Every or a Fold by its kind
module _ (node : Node) where
  fold-kind : (k : Kind) → k ≡ Fold → operator_by k node ≡ binary_node (fold (node_aggregate node) node.id (node_test node))
  unfolding operator_by
  fold-kind k e = rw e

  quant-kind : (k : Kind) → (k ≡ Some) ⊎ (k ≡ Every) → operator_by k node ≡ binary_node (quant (is_every k) (node_test node))
  unfolding operator_by
  quant-kind k =
      let P : Kind → Type 0 = λ k. operator_by k node ≡ binary_node (quant (is_every k) (node_test node)) in
      one_of P refl (just P refl)

-- a Some, an Every or a Fold: which of them
abbrev pub Joins : Kind → Type 0
Joins k = (k ≡ Some) ⊎ ((k ≡ Every) ⊎ (k ≡ Fold))

fold-or : {k : Kind} → Joins k → (k ≡ Fold) ⊎ ((k ≡ Some) ⊎ (k ≡ Every))
fold-or (inl e) = inr (inl e)
fold-or (inr (inl e)) = inr (inr e)
fold-or (inr (inr e)) = inl e

pub quantified : {k : Kind} → Joins k → (k ≡ Fold → ⊥) → (k ≡ Some) ⊎ (k ≡ Every)
quantified (inl e) n = inl e
quantified (inr (inl e)) n = inr e
quantified (inr (inr e)) n = absurd (n e)

-- the second child's place lies in the plan
pub join_second : (plan : List ℕ) → whole_tree plan ≡ true → (i : ℕ) → i < nodes_of plan → (f : ℕ) → f ≡ end_at plan (i + 1)
    → (node : Node) → node ≡ node_at plan i → Joins node.kind → f < nodes_of plan
join_second plan whole i h f at node is joins = elim (fold-or joins) [
  | inl k ↦ (two_at plan whole i h _ (ap operator_of (sym is) ∙ fold-kind node node.kind k) f at).second
  | inr k ↦ (two_at plan whole i h _ (ap operator_of (sym is) ∙ quant-kind node node.kind k) f at).second
]

module _ (T : Tables) (c : Option ℕ) (plan : List ℕ) (known : PlanKnown plan) (whole : whole_tree plan ≡ true) (i : ℕ) (h : i < nodes_of plan) (f : ℕ) (at : f ≡ end_at plan (i + 1))
    (s : ℕ) (below : UnprojectedAt plan f s) where
  abbrev e : Plan
  e = plan_at plan (i + 1)

  abbrev g : Plan
  g = plan_at plan (s + 1)

  -- the link that the second child, or its Project's child, makes
  abbrev linked : KeyLink
  linked = top_link T e (top (plan_at plan s))

  -- the change puts a node before e and g
  module _ (b b' : Binary) (o : operator_at plan i ≡ binary_node b) (l : KeyLink) (z : is_link l ≡ true) (q : linked ≡ l) where
    made_of : (first : Node) → image first ≡ node_bytes (binary_node b') → shape T c (plan_at plan i) ≡ some (two b' e g) → Makes T c plan i (without_select first f s)
    unfolding flatten
    made_of first m gives =
        let t = two_at plan whole i h b o f at in
        let n = select-size T e plan s below.inside l z q in
        let k : i + 1 + size e ≡ f = t.first in
        let j : s + 1 + size g ≡ i + size (plan_at plan i) = omega (arith, t.end, below.end) in
        record {
          made = two b' e g;
          is = gives;
          inside = record {
            place = h;
            kept = omega arith;
            end = omega (arith, t.second);
            rest = omega (arith, below.inside);
            count = omega (arith, t.second, below.behind, known.most);
          };
          before = omega arith;
          bytes =
              ap₂ ◌++◌ (sym m) (flat_map-joined node_bytes (flatten e) (flatten g)
              ∙ ap₂ ◌++◌ (slice_at plan known (i + 1) (omega (arith, t.second)) ∙ ap (node_slice plan (i + 1)) k) (slice_at plan known (s + 1) (omega (arith, t.last, t.end)) ∙ ap (node_slice plan (s + 1)) j));
        }

  module _ (node : Node) (is : node ≡ node_at plan i) (joins : Joins node.kind) where
    allowed : AllowedNode node
    allowed = rw is (allowed_node plan known i h)

    -- a Fold
    module _ (k : node.kind ≡ Fold) where
      folds : operator_at plan i ≡ binary_node (fold (node_aggregate node) node.id (node_test node))
      folds = ap operator_of (sym is) ∙ fold-kind node node.kind k

      pair-shape : (l : KeyLink) → linked ≡ l → shape T c (plan_at plan i) ≡ to_pair T (node_aggregate node) node.id (node_test node) e g l
      unfolding shape
      pair-shape l q =
          let t = two_at plan whole i h _ folds f at in
          ap (shape T c) t.tree
          ∙ ap (λ (p : Plan). u5 T (node_aggregate node) node.id (node_test node) e (top p)) (sym below.tree)
          ∙ plan_case plan s (λ op p. top_link T e (top p) ≡ l → u5 T (node_aggregate node) node.id (node_test node) e (top p) ≡ to l) (λ x. ap to) by (λ b. ap to) below.inside q
        where
          to : KeyLink → Option Plan
          to = to_pair T (node_aggregate node) node.id (node_test node) e g

          by : (u : Unary) → top_link T e (top (one u g)) ≡ l → u5 T (node_aggregate node) node.id (node_test node) e (top (one u g)) ≡ to l
          by (select t) = ap to
          by (project ids) = ap to
          by (distinct ids) = ap to
          by (group a n m r c t) = ap to
          by (sort d ids) = ap to

      pub pair_made : (l r : ℕ) (d : Comparison) → linked ≡ link l r (comparison_of d) → is_named d ≡ true → avoids T g e ≡ true
          → Makes T c plan i (without_select (plain_node Pair node.arg node.id l r d node.column node.negated node.test) f s)
      pair_made l r d q low-d a =
          made_of (fold (node_aggregate node) node.id (node_test node)) (pair (node_aggregate node) node.id l r (comparison_of d) (node_test node)) folds (link l r (comparison_of d)) refl q _
          (pair-image node.negated node.test allowed.tested node.arg node.column (allowed.aggregated (inl k)) allowed.measured allowed.counted d low-d node.id l r)
          (pair-shape (link l r (comparison_of d)) q ∙ rw a)

    -- a Some or an Every
    module _ (k : (node.kind ≡ Some) ⊎ (node.kind ≡ Every)) where
      quantifies : operator_at plan i ≡ binary_node (quant (is_every node.kind) (node_test node))
      quantifies = ap operator_of (sym is) ∙ quant-kind node node.kind k

      semi-shape : (l : KeyLink) → linked ≡ l → shape T c (plan_at plan i) ≡ to_semi T (is_every node.kind) (node_test node) e g l
      unfolding shape
      semi-shape l q =
          let t = two_at plan whole i h _ quantifies f at in
          ap (shape T c) t.tree
          ∙ ap (λ (p : Plan). u1 T (is_every node.kind) (node_test node) e (top p)) (sym below.tree)
          ∙ plan_case plan s (λ op p. top_link T e (top p) ≡ l → u1 T (is_every node.kind) (node_test node) e (top p) ≡ to l) (λ x. ap to) by (λ b. ap to) below.inside q
        where
          to : KeyLink → Option Plan
          to = to_semi T (is_every node.kind) (node_test node) e g

          by : (u : Unary) → top_link T e (top (one u g)) ≡ l → u1 T (is_every node.kind) (node_test node) e (top (one u g)) ≡ to l
          by (select t) = ap to
          by (project ids) = ap to
          by (distinct ids) = ap to
          by (group a n m r c t) = ap to
          by (sort d ids) = ap to

      pub semi-made : (l r : ℕ) (d : Comparison) → linked ≡ link l r (comparison_of d) → d ≡ Equal → avoids T g e ≡ true
          → Makes T c plan i (without_select (plain_node (cond (is_every node.kind) Anti Semi) 0 0 l r Equal 0 (flip (is_every node.kind) node.negated) node.test) f s)
      semi-made l r d q zero-d a =
          made_of (quant (is_every node.kind) (node_test node)) (semi (is_every node.kind) l r (turned (is_every node.kind) (node_test node))) quantifies (link l r (comparison_of d)) refl q _
          (keyed-image (flip (is_every node.kind) node.negated) node.test allowed.tested (is_every node.kind) l r)
          (semi-shape (link l r (comparison_of d)) q ∙ rw (zero-d, a))

      pub semi-unequal : (l r : ℕ) (d : Comparison) → linked ≡ link l r (comparison_of d) → (d ≡ Equal → ⊥) → shape T c (plan_at plan i) ≡ none
      semi-unequal l r d q more-d = semi-shape (link l r (comparison_of d)) q ∙ rw (unequal d more-d)

    pub join_unlinked : linked ≡ unlinked → shape T c (plan_at plan i) ≡ none
    join_unlinked q = elim (fold-or joins) [ inl k ↦ pair-shape k unlinked q | inr k ↦ semi-shape k unlinked q ]

    pub join_meets : (l r : ℕ) (d : Comparison) → linked ≡ link l r (comparison_of d) → avoids T g e ≡ false → shape T c (plan_at plan i) ≡ none
    join_meets l r d q a = elim (fold-or joins) [
      | inl k ↦ pair-shape k (link l r (comparison_of d)) q ∙ rw a
      | inr k ↦ semi-shape k (link l r (comparison_of d)) q ∙ rw (a, and-false)
    ]
