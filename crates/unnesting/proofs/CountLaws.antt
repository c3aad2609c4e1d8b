-- U3, U4 and U6 at a place, so far as the plan alone decides: one law for each way out of their functions. Assumes nothing.
use Rattle.std.specs.Prelude.{if◌then◌else◌}
use Prim.Native.Nat.{ℕ, zero, suc, ◌+◌, ◌*◌, ◌≤◌, ◌<◌}
use mathlib.Core.Bool.{Bool, true, false, cond, ◌&&◌, false≢true}
use mathlib.Core.Path.{◌≡◌, refl, sym, ap, ap₂, ◌∙◌, subst}
use mathlib.Core.List.{List, [], ◌∷◌, ◌++◌, append_assoc}
use mathlib.Core.Logic.{◌⊎◌, inl, inr}
use mathlib.Core.Option.{Option, none, some}
use native.Mathlib.Omega.{arith}
use lib.Dec.{eqb, leb}
use lib.ListN.{length, take, get_or}
use borrow.Author.Tests.{ne_eqb}
use Rattle.algebra.specs.Lists.{every, flat_map}
use Rattle.algebra.specs.Cells.{Comparison, eq, gt, Aggregate, count, origin}
use Rattle.algebra.specs.Plans.{Tables, test, Test as MarkedTest, plain, is_plain, number_of, Unary, select, project, distinct, group, sort, Binary, semi, pair, Plan, leaf, one, two}
use Rattle.algebra.specs.Places.{Operator, leaf_node, unary_node, binary_node, root, size, flatten}
use Rattle.algebra.specs.Names.{closed}
use Rattle.algebra.specs.Rules.{Top, top, Only, only, another, only_of, when, counted, bare, removed, local, u3, u6}
use Rattle.algebra.proofs.Places.{size-positive}
use Rattle.reading.specs.Check.{input_refusal}
use Rattle.reading.specs.TableSet.{tables_of}
use Rattle.reading.specs.Versions.{node_size}
use Rattle.reading.specs.Plan.{kind_number, plan_version, node_part, node_of, node_at, nodes_of}
use Rattle.reading.specs.Tree.{comparison_of, node_test, node_list, node_aggregate, form_of, operator_by, operator_of, plan_at, whole_tree}
use Rattle.reading.specs.Encoding.{node_bytes}
use Rattle.reading.specs.declared.plan.Test.{Test}
use Rattle.reading.specs.declared.plan.Test.TheVariants.{Always, Number}
use Rattle.reading.specs.declared.kinds.Kind.{Kind}
use Rattle.reading.specs.declared.kinds.Kind.TheVariants.{Select, Project, Distinct, Semi, Anti, Pair, Group}
use Rattle.reading.specs.declared.comparison.Comparison.TheVariants.{Equal, Greater}
use Rattle.reading.specs.declared.plan.Node.{Node}
use Rattle.reading.proofs.Ends.{end_at}
use Rattle.reading.proofs.Operators.{each_kind, one_of, just}
use Rattle.reading.proofs.Places.{root-at}
use Rattle.reading.proofs.PlanBytes.{PlanKnown, plan_passed}
use Rattle.reporting.specs.Sides.{is_anti}
use Rattle.unnesting.specs.Counts.{key_only, keyed, count_change}
use Rattle.unnesting.specs.Images.{image, plain_node, project_node, is_named, test_comparison}
use Rattle.unnesting.specs.declared.change.More.TheVariants.{Nothing}
use Rattle.unnesting.specs.Shapes.{any_sequence, shape, node_slice, more_bytes, Makes}
use Rattle.unnesting.proofs.Demand3.{input-parts}
use Rattle.unnesting.proofs.AllowedNodes.{AllowedNode, allowed_node}
use Rattle.unnesting.proofs.ImageLaws.{select-image, group-image, project-image}
use Rattle.unnesting.proofs.PlaceLaws.{slice_none, slice_at, inside-at, one_at, two_at, TwoAt}

-- ---- a Distinct of a column alone, by the node

abbrev key_list : ℕ → List ℕ → Bool
key_list key [] = false
key_list key (k ∷ []) = eqb k key
key_list key (k ∷ j ∷ ids) = false

abbrev key_unary : ℕ → Unary → Bool
key_unary key (select t) = false
key_unary key (project ids) = false
key_unary key (distinct ids) = key_list key ids
key_unary key (group a n l r c t) = false
key_unary key (sort d ids) = false

abbrev key_node : ℕ → Operator → Bool
key_node key (leaf_node x) = false
key_node key (unary_node u) = key_unary key u
key_node key (binary_node b) = false

key-root : (key : ℕ) (p : Plan) → key_only key (only_of p) ≡ key_node key (root p)
key-root key (leaf x) = refl
key-root key (one (select s) g) = refl
key-root key (one (project ids) g) = refl
key-root key (one (distinct []) g) = refl
key-root key (one (distinct (k ∷ [])) g) = refl
key-root key (one (distinct (k ∷ j ∷ ids)) g) = refl
key-root key (one (group a n l r c t) g) = refl
key-root key (one (sort d ids) g) = refl
key-root key (two b e f) = refl

key-kind : (key : ℕ) (node : Node) (k : Kind) → (k ≡ Distinct → ⊥) → key_node key (operator_by k node) ≡ false
unfolding operator_by
key-kind key node =
    each_kind (λ k. (k ≡ Distinct → ⊥) → key_node key (operator_by k node) ≡ false)
    (λ n. refl) (λ n. refl) (λ n. refl) (λ n. refl) (λ n. absurd (n refl)) (λ n. refl) (λ n. refl) (λ n. refl) (λ n. refl) (λ n. refl) (λ n. refl) (λ n. refl) (λ n. refl) (λ n. refl) (λ n. refl) (λ k n. refl)

key-listed : (key n : ℕ) (s : List ℕ) → length s ≡ 7 → (n ≡ 1 → ⊥) → key_list key (take n s) ≡ false
key-listed key zero s h d = refl
key-listed key (suc zero) s h d = absurd (d refl)
key-listed key (suc (suc n)) [] h d = absurd (omega arith)
key-listed key (suc (suc n)) (x ∷ []) h d = absurd (omega arith)
key-listed key (suc (suc n)) (x ∷ y ∷ s) h d = refl

key-first : (key : ℕ) (s : List ℕ) → length s ≡ 7 → key_list key (take 1 s) ≡ eqb (get_or s 0 0) key
key-first key [] h = absurd (omega arith)
key-first key (x ∷ s) h = refl

operator_distinct : (node : Node) (k : Kind) → k ≡ Distinct → operator_by k node ≡ unary_node (distinct (node_list node))
unfolding operator_by
operator_distinct node k e = rw e

node_long : (plan : List ℕ) (i : ℕ) → length (node_at plan i).list.ids ≡ 7
unfolding node_at node_of
node_long plan i = by (leb (6 + node_size (plan_version plan) * i + node_size (plan_version plan)) (length plan))
  where
    by : (b : Bool) → length (if b then node_of (plan_version plan) (node_part plan i) else node_of (plan_version plan) []).list.ids ≡ 7
    by true = refl
    by false = refl

module _ (plan : List ℕ) (e : ℕ) (h : e < nodes_of plan) (key : ℕ) (node : Node) (q : node ≡ node_at plan e) where
  key-at : key_node key (operator_of node) ≡ key_only key (only_of (plan_at plan e))
  key-at = ap (λ (x : Node). key_node key (operator_of x)) q ∙ sym (key-root key (plan_at plan e) ∙ ap (key_node key) (root-at plan e h))

  pub only-other : (node.kind ≡ Distinct → ⊥) → false ≡ key_only key (only_of (plan_at plan e))
  only-other d = sym (key-kind key node node.kind d) ∙ key-at

  module _ (k : node.kind ≡ Distinct) where
    long : length node.list.ids ≡ 7
    long = rw q (node_long plan e)

    listed_at : key_list key (node_list node) ≡ key_only key (only_of (plan_at plan e))
    listed_at = sym (ap (key_node key) (operator_distinct node node.kind k)) ∙ key-at

    pub only-more : (node.list.count ≡ 1 → ⊥) → false ≡ key_only key (only_of (plan_at plan e))
    only-more d = sym (key-listed key node.list.count node.list.ids long d) ∙ listed_at

    pub only-first : node.list.count ≡ 1 → eqb (get_or node.list.ids 0 0) key ≡ key_only key (only_of (plan_at plan e))
    only-first d = sym (ap (λ (n : ℕ). key_list key (take n node.list.ids)) d ∙ key-first key node.list.ids long) ∙ listed_at

-- ---- a node by its kind

abbrev pub is_select : Operator → Bool
is_select (unary_node (select t)) = true
is_select op = false

abbrev pub is_project : Operator → Bool
is_project (unary_node (project ids)) = true
is_project op = false

-- the number of a kind with one child
abbrev unary_kind : Unary → ℕ
unary_kind (select t) = 2
unary_kind (project ids) = 3
unary_kind (distinct ids) = 4
unary_kind (group a n l r c t) = 13
unary_kind (sort d ids) = 14

abbrev pub has_kind : ℕ → Operator → Bool
has_kind d (leaf_node x) = false
has_kind d (unary_node u) = eqb (unary_kind u) d
has_kind d (binary_node b) = false

-- of a node of another kind (cited by nothing; it is for a reader)
pub other-kind : (d : ℕ) (node : Node) (k : Kind) → (kind_number k ≡ d → ⊥) → has_kind d (operator_by k node) ≡ false
unfolding operator_by
other-kind d node =
    each_kind (λ k. (kind_number k ≡ d → ⊥) → has_kind d (operator_by k node) ≡ false)
    (λ n. refl) (λ n. refl) (ne_eqb 2 d) (ne_eqb 3 d) (ne_eqb 4 d) (λ n. refl) (λ n. refl) (λ n. refl) (λ n. refl) (λ n. refl) (λ n. refl) (λ n. refl) (λ n. refl) (ne_eqb 13 d) (ne_eqb 14 d) (λ k n. refl)

-- the two kinds that a rule looks for
pub other-select : (node : Node) (k : Kind) → (k ≡ Select → ⊥) → is_select (operator_by k node) ≡ false
unfolding operator_by
other-select node =
    each_kind (λ k. (k ≡ Select → ⊥) → is_select (operator_by k node) ≡ false)
    (λ n. refl) (λ n. refl) (λ n. absurd (n refl)) (λ n. refl) (λ n. refl) (λ n. refl) (λ n. refl) (λ n. refl) (λ n. refl) (λ n. refl) (λ n. refl) (λ n. refl) (λ n. refl) (λ n. refl) (λ n. refl) (λ k n. refl)

pub other-project : (node : Node) (k : Kind) → (k ≡ Project → ⊥) → is_project (operator_by k node) ≡ false
unfolding operator_by
other-project node =
    each_kind (λ k. (k ≡ Project → ⊥) → is_project (operator_by k node) ≡ false)
    (λ n. refl) (λ n. refl) (λ n. refl) (λ n. absurd (n refl)) (λ n. refl) (λ n. refl) (λ n. refl) (λ n. refl) (λ n. refl) (λ n. refl) (λ n. refl) (λ n. refl) (λ n. refl) (λ n. refl) (λ n. refl) (λ k n. refl)

-- ---- a Select on top, by the node

pub no-select : (p : Plan) → is_select (root p) ≡ false → (removed (top p) ≡ plain) × (bare (top p) ≡ p)
no-select (leaf x) h = (refl, refl)
no-select (one (select s) g) h = absurd (false≢true (sym h))
no-select (one (project ids) g) h = (refl, refl)
no-select (one (distinct ids) g) h = (refl, refl)
no-select (one (group a n l r c t) g) h = (refl, refl)
no-select (one (sort d ids) g) h = (refl, refl)
no-select (two b e f) h = (refl, refl)

pub operator_select : (node : Node) (k : Kind) → k ≡ Select → operator_by k node ≡ unary_node (select (node_test node))
unfolding operator_by
operator_select node k e = rw e

operator_semi : (node : Node) (k : Kind) → (k ≡ Semi) ⊎ (k ≡ Anti) → operator_by k node ≡ binary_node (semi (is_anti k) node.left node.right (node_test node))
unfolding operator_by
operator_semi node k =
    let P : Kind → Type 0 = λ k. operator_by k node ≡ binary_node (semi (is_anti k) node.left node.right (node_test node)) in
    one_of P refl (just P refl)

operator_pair : (node : Node) (k : Kind) → k ≡ Pair → operator_by k node ≡ binary_node (pair (node_aggregate node) node.id node.left node.right (comparison_of node.comparison) (node_test node))
unfolding operator_by
operator_pair node k e = rw e

-- ---- the rules without what rows decide

three : (a b c : Bool) → every (a ∷ b ∷ c ∷ true ∷ []) ≡ (a && (b && c))
three false b c = refl
three true false c = refl
three true true false = refl
three true true true = refl

four : (a b c d : Bool) → every (a ∷ b ∷ c ∷ d ∷ true ∷ []) ≡ ((a && (b && c)) && d)
four false b c d = refl
four true false c d = refl
four true true false d = refl
four true true true false = refl
four true true true true = refl

module _ (T : Tables) where
  u3-is : (c : ℕ) (m : Bool) (l r : ℕ) {e : Plan} (o : Only e) {f : Plan} (v : Top f)
      → u3 T any_sequence (some c) m l r o v ≡ when (key_only l o && (closed T e && closed T f)) (counted m c l r (removed v) (bare v))
  u3-is c m l r (another e) v = refl
  u3-is c m l r (only k p) {f} v = ap (λ (b : Bool). when b (counted m c l r (removed v) (bare v))) (three (eqb k l) (closed T (one (distinct (k ∷ [])) p)) (closed T f))

  u6-is : (a : Aggregate) (n l r : ℕ) (k : Comparison) (t : MarkedTest) {e : Plan} (o : Only e) (f : Plan)
      → u6 T any_sequence a n l r k t o f ≡ when ((key_only l o && (closed T e && closed T f)) && local T t f) (one (group a n l r k t) f)
  u6-is a n l r k t (another e) f = refl
  u6-is a n l r k t (only j p) f = ap (λ (b : Bool). when b (one (group a n l r k t) f)) (four (eqb j l) (closed T (one (distinct (j ∷ [])) p)) (closed T f) (local T t f))

  count-is : (c : ℕ) (m : Bool) (l r : ℕ) (t : MarkedTest) → is_plain t ≡ true → (e f : Plan)
      → shape T (some c) (two (semi m l r t) e f) ≡ when (keyed T l e f) (counted m c l r (removed (top f)) (bare (top f)))
  unfolding shape
  count-is c m l r t q e f = rw q (u3-is c m l r (only_of e) (top f))

  count-free : (m : Bool) (l r : ℕ) (t : MarkedTest) → is_plain t ≡ true → (e f : Plan) → shape T none (two (semi m l r t) e f) ≡ none
  unfolding shape
  count-free m l r t q e f = rw q

  group-is : (c : Option ℕ) (a : Aggregate) (n l r : ℕ) (k : Comparison) (t : MarkedTest) (e f : Plan)
      → shape T c (two (pair a n l r k t) e f) ≡ when (keyed T l e f && local T t f) (one (group a n l r k t) f)
  unfolding shape
  group-is c a n l r k t e f = u6-is a n l r k t (only_of e) f

  -- the first child has a child of its own
  keyed-long : (l : ℕ) (e f : Plan) → keyed T l e f ≡ true → 2 ≤ size e
  unfolding size
  keyed-long l e f = by (only_of e)
    where
      by : {e : Plan} (o : Only e) → (key_only l o && (closed T e && closed T f)) ≡ true → 2 ≤ size e
      by (only k p) h = omega (arith, size-positive p)
      by (another e) h = absurd (false≢true h)

-- ---- at a place

comparison-of : (b : Bool) → comparison_of (cond b Equal Greater) ≡ cond b eq gt
comparison-of true = refl
comparison-of false = refl

comparison-most : (b : Bool) → is_named (cond b Equal Greater) ≡ true
comparison-most true = refl
comparison-most false = refl

-- the places of an accepted plan are below 64
pub place-below : (set plan : List ℕ) → input_refusal set plan ≡ 0 → (i : ℕ) → i < nodes_of plan → i < 64
place-below set plan accepted i h = omega (arith, (plan_passed set plan (input-parts set plan accepted).1).known.most)

-- What is known at a place of an accepted plan: its node, and f where the tree at the next place ends.
pub record Placed (set plan : List ℕ) (i : ℕ) (node : Node) (f : ℕ) : Type 0 where
  pub accepted : input_refusal set plan ≡ 0
  pub within : i < nodes_of plan
  pub is : node ≡ node_at plan i
  pub ends : f ≡ end_at plan (i + 1)

module _ {set plan : List ℕ} {i : ℕ} {node : Node} {f : ℕ} (p : Placed set plan i node f) where
  abbrev T : Tables
  T = tables_of set

  abbrev h : i < nodes_of plan
  h = p.within

  abbrev q : node ≡ node_at plan i
  q = p.is

  known : PlanKnown plan
  known = (plan_passed set plan (input-parts set plan p.accepted).1).known

  whole : whole_tree plan ≡ true
  whole = (plan_passed set plan (input-parts set plan p.accepted).1).whole

  abbrev e : Plan
  e = plan_at plan (i + 1)

  abbrev l : ℕ
  l = node.left

  abbrev r : ℕ
  r = node.right

  -- ---- U3 and U4
  module _ (kinds : ((node.kind ≡ Semi) ⊎ (node.kind ≡ Anti)) × (is_plain (node_test node) ≡ true)) where
    abbrev m : Bool
    m = is_anti node.kind

    semi-at : TwoAt plan whole i h (semi m l r (node_test node)) f
    semi-at = two_at plan whole i h (semi m l r (node_test node)) (sym (ap operator_of q) ∙ operator_semi node node.kind kinds.0) f p.ends

    pub semi-inside : (i + 1 < nodes_of plan) × (f < nodes_of plan)
    semi-inside = (omega (arith, semi-at.first, semi-at.second), semi-at.second)

    pub count_unfree : shape T none (plan_at plan i) ≡ none
    count_unfree = ap (shape T none) semi-at.tree ∙ count-free T m l r (node_test node) kinds.1 e (plan_at plan f)

    module _ (c : ℕ) where
      count_at : shape T (some c) (plan_at plan i) ≡ when (keyed T l e (plan_at plan f)) (counted m c l r (removed (top (plan_at plan f))) (bare (top (plan_at plan f))))
      count_at = ap (shape T (some c)) semi-at.tree ∙ count-is T c m l r (node_test node) kinds.1 e (plan_at plan f)

      pub count_unkeyed : keyed T l e (plan_at plan f) ≡ false → shape T (some c) (plan_at plan i) ≡ none
      count_unkeyed k = rw k at count_at

      module _ (k : keyed T l e (plan_at plan f) ≡ true) where
        -- the tree at place j is f without its top Select, and that Select's test is the one given
        module _ (j : ℕ) (negated : Bool) (t : Test) (allowed : is_named (test_comparison t) ≡ true) (after : f ≤ j) (last : j + size (plan_at plan j) ≡ i + size (plan_at plan i))
            (took : removed (top (plan_at plan f)) ≡ test negated (form_of t)) (left : bare (top (plan_at plan f)) ≡ plan_at plan j) where
          abbrev made : Plan
          made = counted m c l r (test negated (form_of t)) (plan_at plan j)

          select-bytes : image (plain_node Select 0 0 0 0 Equal 0 false (Number (cond m Equal Greater) c origin)) ≡ node_bytes (unary_node (select (test false (number_of (cond m eq gt) c origin))))
          select-bytes = rw (comparison-of m) at (select-image false (Number (cond m Equal Greater) c origin) (comparison-most m))

          group-bytes : image (plain_node Group 0 c l r Equal 0 negated t) ≡ node_bytes (unary_node (group count c l r eq (test negated (form_of t))))
          group-bytes = group-image negated t allowed 0 0 refl refl refl Equal refl c l r

          count-bytes : flat_map node_bytes (flatten made)
              ≡ image (project_node l) ++ (node_slice plan (i + 1) (i + 1) ++ (more_bytes (count_change i node c negated t j).more ++ node_slice plan j (i + size (plan_at plan i))))
          unfolding flatten
          count-bytes =
              rw (slice_none plan (i + 1))
              (ap₂ ◌++◌ (sym (project-image l))
              (ap₂ ◌++◌ (sym select-bytes) (ap₂ ◌++◌ (sym group-bytes) (slice_at plan known j (omega (arith, inside-at plan whole i h)) ∙ ap (node_slice plan j) last))
              ∙ sym (append_assoc (image (plain_node Select 0 0 0 0 Equal 0 false (Number (cond m Equal Greater) c origin))) (image (plain_node Group 0 c l r Equal 0 negated t)) (node_slice plan j (i + size (plan_at plan i))))))

          count_makes : Makes T (some c) plan i (count_change i node c negated t j)
          count_makes =
              record {
                made = made;
                is = rw (k, took, left) at count_at;
                inside = record {
                  place = h;
                  kept = omega arith;
                  end = omega arith;
                  rest = omega (arith, inside-at plan whole i h);
                  count = omega (arith, known.most, semi-at.first, keyed-long T l e (plan_at plan f) k, inside-at plan whole i h, size-positive (plan_at plan j));
                };
                before = omega arith;
                bytes = count-bytes;
              }

        module _ (inner : Node) (at : inner ≡ node_at plan f) where
          pub count-selected : inner.kind ≡ Select → Makes T (some c) plan i (count_change i node c inner.negated inner.test (f + 1))
          count-selected v =
              let o = one_at plan whole f semi-at.second (select (node_test inner)) (sym (ap operator_of at) ∙ operator_select inner inner.kind v) in
              count_makes (f + 1) inner.negated inner.test (rw at (allowed_node plan known f semi-at.second).tested) (omega arith) (omega (arith, o.end, semi-at.end))
              (ap (λ (p : Plan). removed (top p)) o.tree) (ap (λ (p : Plan). bare (top p)) o.tree)

          pub count-other : (inner.kind ≡ Select → ⊥) → Makes T (some c) plan i (count_change i node c false Always f)
          count-other d =
              let o = no-select (plan_at plan f) (ap is_select (root-at plan f semi-at.second ∙ ap operator_of (sym at)) ∙ other-select inner inner.kind d) in
              count_makes f false Always refl (omega arith) (sym semi-at.end) o.0 o.1

  -- ---- U6
  module _ (kind : node.kind ≡ Pair) where
    abbrev t : MarkedTest
    t = node_test node

    abbrev b : Binary
    b = pair (node_aggregate node) node.id l r (comparison_of node.comparison) t

    pair-at : TwoAt plan whole i h b f
    pair-at = two_at plan whole i h b (sym (ap operator_of q) ∙ operator_pair node node.kind kind) f p.ends

    pub pair_inside : (i + 1 < nodes_of plan) × (f < nodes_of plan)
    pair_inside = (omega (arith, pair-at.first, pair-at.second), pair-at.second)

    abbrev grouped : Plan
    grouped = one (group (node_aggregate node) node.id l r (comparison_of node.comparison) t) (plan_at plan f)

    module _ (c : Option ℕ) where
      group_at : shape T c (plan_at plan i) ≡ when (keyed T l e (plan_at plan f) && local T t (plan_at plan f)) grouped
      group_at = ap (shape T c) pair-at.tree ∙ group-is T c (node_aggregate node) node.id l r (comparison_of node.comparison) t e (plan_at plan f)

      pub group_unkeyed : keyed T l e (plan_at plan f) ≡ false → shape T c (plan_at plan i) ≡ none
      group_unkeyed k = rw k at group_at

      module _ (k : keyed T l e (plan_at plan f) ≡ true) where
        pub group_unlocal : local T t (plan_at plan f) ≡ false → shape T c (plan_at plan i) ≡ none
        group_unlocal g = rw (k, g) at group_at

        abbrev group_node : Node
        group_node = plain_node Group node.arg node.id l r node.comparison node.column node.negated node.test

        pub group_makes : local T t (plan_at plan f) ≡ true → Makes T c plan i (record { first = group_node; keep = i + 1; more = Nothing; from = f })
        unfolding flatten
        group_makes g =
            let allowed = subst AllowedNode (sym q) (allowed_node plan known i h) in
            let bytes = group-image node.negated node.test allowed.tested node.arg node.column (allowed.aggregated (inr (inl kind))) allowed.measured allowed.counted
            node.comparison allowed.compared node.id l r in
            record {
              made = grouped;
              is = rw (k, g) at group_at;
              inside = record {
                place = h;
                kept = omega arith;
                end = omega arith;
                rest = omega (arith, pair-at.second);
                count = omega (arith, known.most, pair-at.first, pair-at.second);
              };
              before = omega (arith, pair-at.end);
              bytes = rw (slice_none plan (i + 1)) (ap₂ ◌++◌ (sym bytes) (slice_at plan known f pair-at.last ∙ ap (node_slice plan f) (sym pair-at.end)));
            }
