-- The two sequences of U3, U4 and U6, and what rows decide. Assumes nothing.
use Rattle.std.specs.Prelude.{Result, Ok, Err, IsOk}
use Prim.Native.Nat.{ℕ, zero, suc, ◌+◌, ◌-◌, min, ◌≤◌, ◌<◌}
use mathlib.Core.Bool.{Bool, true, false, not, cond, true≢false, false≢true}
use mathlib.Core.Logic.{◌≢◌, ◌⊎◌, inl, inr}
use mathlib.Core.Path.{◌≡◌, refl, sym, ap, ap₂, ◌∙◌, subst}
use mathlib.Core.List.{List, [], ◌∷◌, ◌++◌}
use mathlib.Core.Option.{Option, none, some}
use Rattle.std.specs.Prelude.{Option as Answer, None, Some, is_none}
use native.Mathlib.Omega.{arith}
use native.Mathlib.Decide.{dec_lt}
use native.Mathlib.Numerals.{add-one}
use lib.Dec.{eqb}
use lib.ListN.{length, get_or, take, drop, replicate, length-append, length-map}
use lib.Seq.{take-suc, take_at}
use borrow.Author.Tests.{eq-eqb, ne_eqb, le-ltb}
use Rattle.algebra.specs.Lists.{is_empty, flat_map, same_rows}
use Rattle.algebra.specs.Plans.{Row, Tables, is_plain, select, distinct, Binary, cross, semi, quant, fold, each, pair, Plan, leaf, one, two, columns, eval}
use Rattle.algebra.specs.Places.{binary_node}
use Rattle.algebra.specs.Refusals.{width, need}
use Rattle.algebra.specs.Rules.{outside, Top, top, bare, Only, only, another, only_of, u3, u6, u7, rule_of}
use Rattle.algebra.specs.StayNotes.{sequences_of, comparing, first_difference}
use Rattle.algebra.proofs.StayNotes.{common-all, common_part}
use Rattle.algebra.proofs.Refusals.{low_rows}
use Rattle.reading.specs.TableSet.{tables_of}
use Rattle.reading.specs.Plan.{node_at, nodes_of}
use Rattle.reading.specs.Tree.{operator_by, operator_of, operator_at, node_test, node_aggregate, comparison_of, plan_at, plan_of, whole_tree}
use Rattle.reading.specs.Check.{input_refusal}
use Rattle.reading.specs.declared.kinds.Kind.{Kind}
use Rattle.reading.specs.declared.kinds.Kind.TheVariants.{Select, Pair}
use Rattle.reading.specs.declared.plan.Node.{Node}
use Rattle.reading.proofs.Operators.{each_kind}
use Rattle.reading.proofs.Trees.{plan_case}
use Rattle.reading.proofs.Places.{root-at}
use Rattle.reading.proofs.Ends.{end_at}
use Rattle.reporting.specs.Report.{tree_rows, tree_cells, rows_number, RowsGiven}
use Rattle.reading.specs.Refusals.{refusal_number}
use Rattle.reading.specs.declared.refusal.Refusal.{Refusal}
use Rattle.reading.proofs.Acceptance.{number-positive}
use Rattle.reporting.specs.declared.answer.Report.{Report}
use Rattle.reporting.proofs.Soundness.{sound-low}
use Rattle.reporting.proofs.Subplans.{ready_at}
use Rattle.unnesting.specs.Shapes.{any_sequence, shape, ready, operator_rule}
use Rattle.unnesting.specs.Sequences.{ComparedAs, rows_of_one}
use Rattle.unnesting.proofs.PlaceLaws.{one_at, two_at}
use Rattle.unnesting.proofs.RuleLaws.{rule-at}
use Rattle.unnesting.proofs.CountLaws.{is_select, no-select, other-select, operator_select}
use Rattle.reporting.proofs.Widths.{Wide, nothing, more, eval-wide, table-wide}

-- ---- sequences of cells, compared

-- their common beginning ends where one of them ends or they differ
pub common-end : (xs ys : List ℕ) (i : ℕ) → i ≤ length xs → i ≤ length ys → take i xs ≡ take i ys → (length xs ≤ i) ⊎ (length ys ≤ i) ⊎ (get_or xs i 0 ≡ get_or ys i 0 → ⊥)
    → i ≡ first_difference (rows_of_one xs) (rows_of_one ys)
common-end [] ys zero h g t e = refl
common-end (x ∷ xs) [] zero h g t e = refl
common-end (x ∷ xs) (y ∷ ys) zero h g t (inl e) = absurd (omega arith)
common-end (x ∷ xs) (y ∷ ys) zero h g t (inr (inl e)) = absurd (omega arith)
common-end (x ∷ xs) (y ∷ ys) zero h g t (inr (inr e)) = rw (ne_eqb x y e)
common-end [] ys (suc i) h g t e = absurd (omega arith)
common-end (x ∷ xs) [] (suc i) h g t e = absurd (omega arith)
common-end (x ∷ xs) (y ∷ ys) (suc i) h g t e =
    let k : i ≡ first_difference (rows_of_one xs) (rows_of_one ys) = common-end xs ys i (omega arith) (omega arith) (ap (drop 1) t) (behind e) in
    rw (eq-eqb x y (ap (λ (zs : List ℕ). get_or zs 0 0) t)) (ap suc k)
  where
    behind : (length (x ∷ xs) ≤ suc i) ⊎ (length (y ∷ ys) ≤ suc i) ⊎ (get_or (x ∷ xs) (suc i) 0 ≡ get_or (y ∷ ys) (suc i) 0 → ⊥)
        → (length xs ≤ i) ⊎ (length ys ≤ i) ⊎ (get_or xs i 0 ≡ get_or ys i 0 → ⊥)
    behind (inl l) = inl (omega arith)
    behind (inr (inl l)) = inr (inl (omega arith))
    behind (inr (inr l)) = inr (inr l)

-- .. or goes to the end of the shorter one
pub common-whole : (xs ys : List ℕ) (n : ℕ) → n ≡ min (length xs) (length ys) → take n xs ≡ take n ys → n ≡ first_difference (rows_of_one xs) (rows_of_one ys)
common-whole xs ys n e t = elim (dec_lt (length xs) (length ys)) [
  | yes l ↦ common-end xs ys n (omega arith) (omega arith) t (inl (omega arith))
  | no l ↦ common-end xs ys n (omega arith) (omega arith) t (inr (inl (omega arith)))
]

-- a cell more of it
pub common_next : (xs ys : List ℕ) (i : ℕ) → i < length xs → i < length ys → get_or xs i 0 ≡ get_or ys i 0 → take i xs ≡ take i ys → take (i + 1) xs ≡ take (i + 1) ys
common_next xs ys i h g e t = rw (add-one i) (take-suc xs i 0 h ∙ (ap₂ (λ (a : List ℕ) (c : ℕ). a ++ (c ∷ [])) t e ∙ sym (take-suc ys i 0 g)))

-- the outcome by the length of it
module _ (xs ys : List ℕ) (common : ℕ) (e : common ≡ first_difference (rows_of_one xs) (rows_of_one ys)) where
  pub differ-longer : length xs < length ys → ComparedAs (rows_of_one xs) (rows_of_one ys) (Some common)
  differ-longer h = (common_part (rows_of_one xs) (rows_of_one ys) (inl (omega (arith, length-map xs (λ c. c ∷ []), length-map ys (λ c. c ∷ [])))), e)

  pub differ-inside : common < length xs → ComparedAs (rows_of_one xs) (rows_of_one ys) (Some common)
  differ-inside h = (common_part (rows_of_one xs) (rows_of_one ys) (inr (omega (arith, e, length-map xs (λ c. c ∷ [])))), e)

  pub same-all : length ys ≤ length xs → length xs ≤ common → ComparedAs (rows_of_one xs) (rows_of_one ys) None
  same-all l h =
      let n = length-map xs (λ c. c ∷ []) in
      common-all (rows_of_one xs) (rows_of_one ys) (omega (arith, n, length-map ys (λ c. c ∷ []))) (omega (arith, e, n))

-- ---- the rows of a tree of one column

one-cells : {rs : List Row} → Wide 1 rs → (rows_of_one (flat_map (λ (r : Row). r) rs) ≡ rs) × (length (flat_map (λ (r : Row). r) rs) ≡ length rs)
one-cells nothing = (refl, refl)
one-cells (more {r = []} e h) = absurd (omega arith)
one-cells (more {r = c ∷ []} e h) = let k = one-cells h in (ap (λ (rs : List Row). (c ∷ []) ∷ rs) k.0, ap suc k.1)
one-cells (more {r = c ∷ d ∷ r} e h) = absurd (omega arith)

-- the rows that a call gave, in scratch
pub record InFront (set : List ℕ) (p : Plan) (rows : ℕ) (cells : List ℕ) : Type 0 where
  pub count : rows ≡ length (tree_rows set p)
  pub long : rows ≤ length cells
  pub values : rows_of_one (take rows cells) ≡ tree_rows set p

-- what a call gave that is known not to be turned back
pub unwrapped : {set plan : List ℕ} {p : Plan} {scratch scratch' : List ℕ} {q : Result Report Refusal} {r : Report} → q ≡ Ok r
    → RowsGiven set plan p scratch scratch' q → RowsGiven set plan p scratch scratch' (Ok r)
unwrapped {set} {plan} {p} {scratch} {scratch'} e g = subst (RowsGiven set plan p scratch scratch') e g

module _ (set plan : List ℕ) (scratch : List ℕ) (a : input_refusal set plan ≡ 0) (h : need (tables_of set) (plan_of plan) ≤ length scratch) where
  -- the call is not turned back
  pub stands : (p : Plan) (scratch' : List ℕ) (r : Result Report Refusal) → RowsGiven set plan p scratch scratch' r → IsOk r
  unfolding rows_number
  stands p scratch' (Ok r) g = refl
  stands p scratch' (Err k) g =
      let n : refusal_number k ≡ 0 = rw (a, le-ltb (length scratch) (need (tables_of set) (plan_of plan)) h) at g.number in
      absurd (omega (arith, number-positive k))

  given-count : (p : Plan) (scratch' : List ℕ) (r : Report) → RowsGiven set plan p scratch scratch' (Ok r) → r.rows ≡ length (tree_rows set p)
  unfolding rows_number
  given-count p scratch' r g = rw (a, le-ltb (length scratch) (need (tables_of set) (plan_of plan)) h) at g.rows

  given-cells : (p : Plan) (scratch' : List ℕ) (r : Report) → RowsGiven set plan p scratch scratch' (Ok r)
      → scratch' ≡ tree_cells set p ++ replicate (length scratch - length (tree_cells set p)) 0
  given-cells p scratch' r g = rw (a, le-ltb (length scratch) (need (tables_of set) (plan_of plan)) h) at g.cells

  pub in-front : (p : Plan) (scratch' : List ℕ) (r : Report) → width (tables_of set) p ≡ 1 → RowsGiven set plan p scratch scratch' (Ok r) → InFront set p r.rows scratch'
  in-front p scratch' r w g =
      let wide : Wide 1 (tree_rows set p) = subst (λ (n : ℕ). Wide n (tree_rows set p)) w (eval-wide (tables_of set) (table-wide set) p outside) in
      let k = one-cells wide in
      let n : r.rows ≡ length (tree_cells set p) = given-count p scratch' r g ∙ sym k.1 in
      let c = given-cells p scratch' r g in
      let rest : List ℕ = replicate (length scratch - length (tree_cells set p)) 0 in
      let long : length scratch' ≡ length (tree_cells set p) + length rest = ap length c ∙ length-append (tree_cells set p) rest in
      record {
        count = given-count p scratch' r g;
        long = omega arith;
        values = ap rows_of_one (ap (take r.rows) c ∙ take_at (tree_cells set p) rest r.rows (sym n)) ∙ k.0;
      }

  -- an accepted plan's tree gives at most 4,096 rows
  pub in_front-few : (i : ℕ) (rows : ℕ) (cells : List ℕ) → InFront set (plan_at plan i) rows cells → rows ≤ 4096
  in_front-few i rows cells f =
      let r = ready_at set plan (length scratch) a (omega arith) i in
      omega (arith, f.count, low_rows (tables_of set) (plan_at plan i) (sound-low r.sound) outside)

  pub some-row : (p : Plan) (scratch' : List ℕ) (r : Report) → RowsGiven set plan p scratch scratch' (Ok r) → not (eqb r.rows 0) ≡ not (is_empty (tree_rows set p))
  some-row p scratch' r g = by (tree_rows set p) (given-count p scratch' r g)
    where
      by : (rs : List Row) → r.rows ≡ length rs → not (eqb r.rows 0) ≡ not (is_empty rs)
      by [] e = rw e
      by (q ∷ rs) e = rw (ne_eqb r.rows 0 (λ z. omega arith))

pub keys-width : (T : Tables) (k : ℕ) (p : Plan) → width T (one (distinct (k ∷ [])) p) ≡ 1
unfolding columns
keys-width T k p = refl

-- ---- the nodes that compare sequences

-- e is a Distinct of one column
u3-width : (T : Tables) (c : Option ℕ) (m : Bool) (l r : ℕ) {e : Plan} (o : Only e) {f : Plan} (v : Top f) → u3 T any_sequence c m l r o v ≢ none → width T e ≡ 1
u3-width T none m l r o v h = absurd (h refl)
u3-width T (some c) m l r (another e) v h = absurd (h refl)
u3-width T (some c) m l r (only k p) v h = keys-width T k p

pub semi-width : (T : Tables) (c : Option ℕ) (m : Bool) (l r : ℕ) (t : _) (e f : Plan) → comparing (rule_of (two (semi m l r t) e f)) ≡ true → shape T c (two (semi m l r t) e f) ≢ none
    → width T e ≡ 1
unfolding rule_of shape
semi-width T c m l r t e f =
    elim (is_plain t) as (λ b. comparing (cond b (cond m 4 3) 7) ≡ true → cond b (u3 T any_sequence c m l r (only_of e) (top f)) (u7 T m l r t e f) ≢ none → width T e ≡ 1) [
      | true ↦ λ q h. u3-width T c m l r (only_of e) (top f) h
      | false ↦ λ q h. absurd (false≢true q)
    ]

pub pair-width : (T : Tables) (c : Option ℕ) (b : Binary) (e f : Plan) (a : _) (n l r : ℕ) (k : _) (t : _) → b ≡ pair a n l r k t → shape T c (two b e f) ≢ none → width T e ≡ 1
unfolding shape
pair-width T c b e f a n l r k t z = subst (λ (x : Binary). shape T c (two x e f) ≢ none → width T e ≡ 1) (sym z) (go (only_of e))
  where
    go : {e : Plan} (o : Only e) → u6 T any_sequence a n l r k t o f ≢ none → width T e ≡ 1
    go (another e) h = absurd (h refl)
    go (only j p) h = keys-width T j p

-- ---- what rows decide

module _ (T : Tables) where
  pub ready-comparing : (p : Plan) → comparing (rule_of p) ≡ true → ready T p ≡ same_rows (sequences_of T p).first (sequences_of T p).second
  unfolding rule_of ready sequences_of
  ready-comparing (leaf x) q = absurd (false≢true q)
  ready-comparing (one u p) q = absurd (false≢true q)
  ready-comparing (two cross e f) q = absurd (false≢true q)
  ready-comparing (two (semi m l r t) e f) q =
      let s : Bool = same_rows (eval T e outside) (eval T (one (distinct (r ∷ [])) (bare (top f))) outside) in
      (elim (is_plain t) as (λ b. comparing (cond b (cond m 4 3) 7) ≡ true → cond b s true ≡ s) [ true ↦ λ q. refl | false ↦ λ q. absurd (false≢true q) ]) q
  ready-comparing (two (quant true t) e f) q = absurd (false≢true q)
  ready-comparing (two (quant false t) e f) q = absurd (false≢true q)
  ready-comparing (two (fold a n t) e f) q = absurd (false≢true q)
  ready-comparing (two each e f) q = absurd (false≢true q)
  ready-comparing (two (pair a n l r k t) e f) q = refl

  pub ready-other : (p : Plan) → comparing (rule_of p) ≡ false → (rule_of p ≡ 8 → ⊥) → ready T p ≡ true
  unfolding rule_of ready
  ready-other (leaf x) q z = refl
  ready-other (one u p) q z = refl
  ready-other (two cross e f) q z = refl
  ready-other (two (semi m l r t) e f) q z =
      let s : Bool = same_rows (eval T e outside) (eval T (one (distinct (r ∷ [])) (bare (top f))) outside) in
      (elim (is_plain t) as (λ b. comparing (cond b (cond m 4 3) 7) ≡ false → (◌≡◌ {A = ℕ} (cond b (cond m 4 3) 7) 8 → ⊥) → cond b s true ≡ true) [
        | true ↦ elim m as (λ x. comparing (cond x 4 3) ≡ false → (◌≡◌ {A = ℕ} (cond x 4 3) 8 → ⊥) → s ≡ true) [ true ↦ λ q z. absurd (true≢false q) | false ↦ λ q z. absurd (true≢false q) ]
        | false ↦ λ q z. refl
      ]) q z
  ready-other (two (quant m t) e f) q z = refl
  ready-other (two (fold a n t) e f) q z = refl
  ready-other (two each e f) q z = absurd (z refl)
  ready-other (two (pair a n l r k t) e f) q z = absurd (true≢false q)

  pub ready-each : (p : Plan) → rule_of p ≡ 8 → (b : Binary) (e f : Plan) → p ≡ two b e f → ready T p ≡ not (is_empty (eval T f outside))
  unfolding rule_of ready
  ready-each p q b e f z = subst (λ (x : Plan). ready T x ≡ not (is_empty (eval T f outside))) (sym z) (by b (sym (ap rule_of z) ∙ q))
    where
      by : (b : Binary) → rule_of (two b e f) ≡ 8 → ready T (two b e f) ≡ not (is_empty (eval T f outside))
      by cross q = absurd (omega arith)
      by (semi m l r t) q =
          let s : Bool = same_rows (eval T e outside) (eval T (one (distinct (r ∷ [])) (bare (top f))) outside) in
          (elim (is_plain t) as (λ b. ◌≡◌ {A = ℕ} (cond b (cond m 4 3) 7) 8 → cond b s true ≡ not (is_empty (eval T f outside))) [
            | true ↦ elim m as (λ x. ◌≡◌ {A = ℕ} (cond x 4 3) 8 → s ≡ not (is_empty (eval T f outside))) [ true ↦ λ q. absurd (omega arith) | false ↦ λ q. absurd (omega arith) ]
            | false ↦ λ q. absurd (omega arith)
          ]) q
      by (quant true t) q = absurd (omega arith)
      by (quant false t) q = absurd (omega arith)
      by (fold a n t) q = absurd (omega arith)
      by each q = refl
      by (pair a n l r k t) q = absurd (omega arith)

  -- the outcome of the comparison says it
  pub ready-same : (p : Plan) (r : Answer ℕ) → comparing (rule_of p) ≡ true → ComparedAs (sequences_of T p).first (sequences_of T p).second r → is_none r ≡ ready T p
  ready-same p None q k = sym (ready-comparing p q ∙ k)
  ready-same p (Some n) q k = sym (ready-comparing p q ∙ k.0)

-- ---- by the node's kind

pub record SemiNode (node : Node) : Type 0 where
  pub mark : Bool
  pub is : operator_of node ≡ binary_node (semi mark node.left node.right (node_test node))

module _ (node : Node) where
  semi-by : (k : Kind) → comparing (operator_rule (operator_by k node)) ≡ true → (k ≡ Pair → ⊥)
      → (operator_by k node ≡ binary_node (semi false node.left node.right (node_test node))) ⊎ (operator_by k node ≡ binary_node (semi true node.left node.right (node_test node)))
  unfolding operator_by
  semi-by =
      each_kind (λ k. comparing (operator_rule (operator_by k node)) ≡ true → (k ≡ Pair → ⊥)
      → (operator_by k node ≡ binary_node (semi false node.left node.right (node_test node))) ⊎ (operator_by k node ≡ binary_node (semi true node.left node.right (node_test node))))
      (λ q z. absurd (false≢true q)) (λ q z. absurd (false≢true q)) (λ q z. absurd (false≢true q)) (λ q z. absurd (false≢true q)) (λ q z. absurd (false≢true q))
      (λ q z. absurd (false≢true q)) (λ q z. inl refl) (λ q z. inr refl) (λ q z. absurd (false≢true q)) (λ q z. absurd (false≢true q)) (λ q z. absurd (false≢true q))
      (λ q z. absurd (false≢true q)) (λ q z. absurd (z refl)) (λ q z. absurd (false≢true q)) (λ q z. absurd (false≢true q)) (λ k q z. absurd (false≢true q))

  pub semi_node : comparing (operator_rule (operator_of node)) ≡ true → (node.kind ≡ Pair → ⊥) → SemiNode node
  semi_node q z = elim (semi-by node.kind q z) [ inl e ↦ record { mark = false; is = e } | inr e ↦ record { mark = true; is = e } ]

  pub pair_node : node.kind ≡ Pair → operator_of node ≡ binary_node (pair (node_aggregate node) node.id node.left node.right (comparison_of node.comparison) (node_test node))
  unfolding operator_by
  pair_node e = ap (λ (k : Kind). operator_by k node) e

module _ (plan : List ℕ) (i : ℕ) (node : Node) (h : i < nodes_of plan) (e : node ≡ node_at plan i) where
  pub rule-here : operator_rule (operator_of node) ≡ rule_of (plan_at plan i)
  rule-here = ap (λ (n : Node). operator_rule (operator_of n)) e ∙ sym (rule-at plan i h)

  -- what is found of a node that compares sequences: f where its second child stands, and q the tree whose Distinct keys are asked for
  pub record Found (T : Tables) (f key : ℕ) (q : Plan) : Type 0 where
    pub wide : width T (plan_at plan (i + 1)) ≡ 1
    pub inside : f < nodes_of plan
    pub answer : (p : Plan) (r : Answer ℕ) → p ≡ q → ComparedAs (eval T (plan_at plan (i + 1)) outside) (eval T (one (distinct (key ∷ [])) p) outside) r
        → ComparedAs (sequences_of T (plan_at plan i)).first (sequences_of T (plan_at plan i)).second r

  module _ (T : Tables) (c : Option ℕ) (whole : whole_tree plan ≡ true) (f : ℕ) (end : f ≡ end_at plan (i + 1)) (q : comparing (rule_of (plan_at plan i)) ≡ true) (some : shape T c (plan_at plan i) ≢ none) where
    pub found-semi : (node.kind ≡ Pair → ⊥) → Found T f node.right (bare (top (plan_at plan f)))
    unfolding sequences_of
    found-semi z =
        let s = semi_node node (ap comparing rule-here ∙ q) z in
        let b : Binary = semi s.mark node.left node.right (node_test node) in
        let t = two_at plan whole i h b (sym (ap operator_of e) ∙ s.is) f end in
        record {
          wide = semi-width T c s.mark node.left node.right (node_test node) (plan_at plan (i + 1)) (plan_at plan f) (subst (λ (p : Plan). comparing (rule_of p) ≡ true) t.tree q)
              (subst (λ (p : Plan). shape T c p ≢ none) t.tree some);
          inside = t.second;
          answer = λ p r x k. subst (λ (p : Plan). ComparedAs (sequences_of T p).first (sequences_of T p).second r) (sym t.tree)
              (subst (λ (p : Plan). ComparedAs (eval T (plan_at plan (i + 1)) outside) (eval T (one (distinct (node.right ∷ [])) p) outside) r) x k);
        }

    pub found-pair : node.kind ≡ Pair → Found T f node.right (plan_at plan f)
    unfolding sequences_of
    found-pair z =
        let b : Binary = pair (node_aggregate node) node.id node.left node.right (comparison_of node.comparison) (node_test node) in
        let t = two_at plan whole i h b (sym (ap operator_of e) ∙ pair_node node z) f end in
        record {
          wide = pair-width T c b (plan_at plan (i + 1)) (plan_at plan f) _ _ _ _ _ _ refl (subst (λ (p : Plan). shape T c p ≢ none) t.tree some);
          inside = t.second;
          answer = λ p r x k. subst (λ (p : Plan). ComparedAs (sequences_of T p).first (sequences_of T p).second r) (sym t.tree)
              (subst (λ (p : Plan). ComparedAs (eval T (plan_at plan (i + 1)) outside) (eval T (one (distinct (node.right ∷ [])) p) outside) r) x k);
        }

  pub found-each : (T : Tables) → whole_tree plan ≡ true → (f : ℕ) → f ≡ end_at plan (i + 1) → rule_of (plan_at plan i) ≡ 8 → ready T (plan_at plan i) ≡ not (is_empty (eval T (plan_at plan f) outside))
  unfolding rule_of
  found-each T whole f end q =
      plan_case plan i (λ op p. operator_at plan i ≡ op → rule_of p ≡ 8 → ready T (plan_at plan i) ≡ not (is_empty (eval T (plan_at plan f) outside)))
      (λ x o z. absurd (omega arith)) (λ u o z. absurd (omega arith))
      (λ b o z. ready-each T (plan_at plan i) q b (plan_at plan (i + 1)) (plan_at plan f) (two_at plan whole i h b o f end).tree) h refl q

-- ---- the tree without its top Select

module _ (plan : List ℕ) (f : ℕ) (node : Node) (h : f < nodes_of plan) (e : node ≡ node_at plan f) where
  pub bare-select : whole_tree plan ≡ true → node.kind ≡ Select → plan_at plan (f + 1) ≡ bare (top (plan_at plan f))
  bare-select whole z =
      let t = one_at plan whole f h (select (node_test node)) (sym (ap operator_of e) ∙ operator_select node node.kind z) in sym (ap (λ (p : Plan). bare (top p)) t.tree)

  pub bare-same : (node.kind ≡ Select → ⊥) → plan_at plan f ≡ bare (top (plan_at plan f))
  bare-same z = sym (no-select (plan_at plan f) (ap is_select (root-at plan f h ∙ sym (ap operator_of e)) ∙ other-select node node.kind z)).1
