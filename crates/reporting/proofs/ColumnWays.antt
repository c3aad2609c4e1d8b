-- How a node's columns are made of its children's, and the ids as they are written. Assumes nothing.
use Prim.Native.Nat.{ℕ, zero, suc, ◌+◌, ◌≤◌, ◌<◌}
use mathlib.Core.Bool.{true, and-eq-true_iff}
use mathlib.Core.Logic.{◌⊎◌}
use mathlib.Core.Path.{◌≡◌, refl, sym, ap, ap₂, ◌∙◌}
use mathlib.Core.List.{List, [], ◌∷◌, ◌++◌}
use native.Mathlib.Numerals.{add-one}
use native.Mathlib.Omega.{arith}
use lib.ListN.{length, take, drop, set, length-append}
use lib.Seq.{take-suc-set, take-add}
use borrow.Author.Tests.{ltb-true}
use Rattle.algebra.specs.Lists.{all, upward}
use Rattle.algebra.specs.Plans.{Tables, Unary, select, project, distinct, group, sort, columns}
use Rattle.algebra.specs.Names.{unary_new, binary_new, introduced}
use Rattle.algebra.specs.Refusals.{byte, width}
use Rattle.algebra.proofs.Lists.{all_append}
use Rattle.reading.specs.Plan.{nodes_of, node_at}
use Rattle.reading.specs.Tree.{operator_by, operator_of, operator_at, plan_at, node_list}
use Rattle.reading.specs.TableSet.{columns_of, table_from, tables_of}
use Rattle.reading.specs.Nodes.{operator_columns, operator_new}
use Rattle.reading.specs.declared.kinds.Kind.{Kind}
use Rattle.reading.specs.declared.kinds.Kind.TheVariants.{Scan, Project, Distinct, Group}
use Rattle.reading.specs.declared.plan.Node.{Node}
use Rattle.reading.proofs.Operators.{each_kind, one_of, just}
use Rattle.reading.proofs.Places.{upward-more}
use Rattle.reading.proofs.Trees.{plan_past, plan_case, first_tree, second_tree, second_at}
use Rattle.reading.proofs.Ends.{end_at}
use Rattle.reporting.specs.Columns.{unary_way, columns_way, own_columns}
use Rattle.reporting.specs.declared.columns.ColumnsWay.{ColumnsWay}
use Rattle.reporting.specs.declared.columns.ColumnsWay.TheVariants.{Own, First, FirstAndNew, Both}
use Rattle.reporting.specs.Evaluation.{Sound}
use Rattle.reporting.proofs.Soundness.{sound_child, sound-left, sound-right}

-- ---- ids written to the front, one more

module _ (ids : List ℕ) (k v : ℕ) (h : k < length ids) where
  written-id : take (k + 1) (set ids k v) ≡ take k ids ++ (v ∷ [])
  written-id = rw add-one (take-suc-set ids k v h)

pub next-id : (ids : List ℕ) (first k : ℕ) → take k ids ≡ upward k first → k < length ids → take (k + 1) (set ids k (first + k)) ≡ upward (k + 1) first
next-id ids first k e h = written-id ids k (first + k) h ∙ ap (λ (l : List ℕ). l ++ ((first + k) ∷ [])) e ∙ sym (upward-more k first)

pub byte-upward : (n first k : ℕ) → all byte (upward n first) ≡ true → k < n → first + k < 256
byte-upward zero first k h l = absurd (omega arith)
byte-upward (suc n) first zero h l = omega (arith, ltb-true first 256 ((and-eq-true_iff (byte first) (all byte (upward n (suc first)))).0 h).0)
byte-upward (suc n) first (suc k) h l = omega (arith, byte-upward n (suc first) k ((and-eq-true_iff (byte first) (all byte (upward n (suc first)))).0 h).1 (omega arith))

-- ---- by the kind

-- a node's own columns
module _ (set : List ℕ) (node : Node) where
  abbrev own_by : Kind → List ℕ
  own_by k = own_columns (tables_of set) (operator_by k node)

  pub own-scan : node.kind ≡ Scan → own_by node.kind ≡ upward (columns_of (table_from node.arg set)) node.id
  unfolding operator_by
  own-scan e = ap own_by e

  pub new_scan : node.kind ≡ Scan → operator_new (tables_of set) (operator_by node.kind node) ≡ upward (columns_of (table_from node.arg set)) node.id
  unfolding operator_by
  new_scan e = ap (λ (k : Kind). operator_new (tables_of set) (operator_by k node)) e

  pub own-group : node.kind ≡ Group → own_by node.kind ≡ node.left ∷ node.id ∷ []
  unfolding operator_by
  own-group e = ap own_by e

  pub own-list : (node.kind ≡ Project) ⊎ (node.kind ≡ Distinct) → own_by node.kind ≡ node_list node
  unfolding operator_by
  own-list =
      let P : Kind → Type 0 = λ k. own_by k ≡ node_list node in
      one_of P refl (just P refl)

  pub own-none : (node.kind ≡ Scan → ⊥) → (node.kind ≡ Project → ⊥) → (node.kind ≡ Distinct → ⊥) → (node.kind ≡ Group → ⊥) → columns_way (operator_of node) ≡ Own → own_by node.kind ≡ []
  unfolding operator_by
  own-none =
      each_kind (λ k. (k ≡ Scan → ⊥) → (k ≡ Project → ⊥) → (k ≡ Distinct → ⊥) → (k ≡ Group → ⊥) → columns_way (operator_by k node) ≡ Own → own_by k ≡ [])
      (λ a b c d e. refl) (λ a b c d e. absurd (a refl)) (λ a b c d e. refl) (λ a b c d e. absurd (b refl)) (λ a b c d e. absurd (c refl))
      (λ a b c d e. refl) (λ a b c d e. refl) (λ a b c d e. refl) (λ a b c d e. refl) (λ a b c d e. refl) (λ a b c d e. absurd (cc))
      (λ a b c d e. refl) (λ a b c d e. absurd (cc)) (λ a b c d e. absurd (d refl)) (λ a b c d e. refl)
      (λ k a b c d e. refl) node.kind

-- ---- the columns of a tree

-- what the way says, cs and ds the children's columns
abbrev made : Tables → Node → List ℕ → List ℕ → Kind → ColumnsWay → List ℕ
made T node cs ds k Own = own_columns T (operator_by k node)
made T node cs ds k First = cs
made T node cs ds k FirstAndNew = cs ++ (node.id ∷ [])
made T node cs ds k Both = cs ++ ds

module _ (T : Tables) (node : Node) (cs ds : List ℕ) where
  made_by : (k : Kind) → operator_columns T (operator_by k node) cs ds ≡ made T node cs ds k (columns_way (operator_by k node))
  unfolding operator_by
  made_by =
      each_kind (λ k. operator_columns T (operator_by k node) cs ds ≡ made T node cs ds k (columns_way (operator_by k node)))
      refl refl refl refl refl refl refl refl refl refl refl refl refl refl refl (λ k. refl)

  made-fits : (k : Kind) (way : ColumnsWay) → (way ≡ Own → ⊥) → length cs ≤ length (made T node cs ds k way)
  made-fits k Own a = absurd (a refl)
  made-fits k First a = omega arith
  made-fits k FirstAndNew a = simp length-append (omega arith)
  made-fits k Both a = simp length-append (omega arith)

not-both : (u : Unary) → unary_way u ≡ Both → ⊥
not-both (select t) e = cc
not-both (project ids) e = cc
not-both (distinct ids) e = cc
not-both (group g n l r c t) e = cc
not-both (sort d ids) e = cc

-- the first r ids are these
abbrev Front : List ℕ → ℕ → List ℕ → Type 0
Front cs r ids = (r ≡ length cs) × (take r ids ≡ cs)

-- past the last node
pub front-past : (T : Tables) (plan : List ℕ) (i : ℕ) (ids : List ℕ) → nodes_of plan ≤ i → Front (columns T (plan_at plan i)) 0 ids
unfolding columns
front-past T plan i ids h = rw (plan_past plan i h) (refl, refl)

-- the node that was read at a place, and how its columns are made
pub record ReadAt (plan : List ℕ) (i : ℕ) (node : Node) (way : ColumnsWay) : Type 0 where
  pub inside : i < nodes_of plan
  pub is : node ≡ node_at plan i
  pub made_so : way ≡ columns_way (operator_of node)

module _ (T : Tables) {plan : List ℕ} {i : ℕ} {node : Node} {way : ColumnsWay} (r : ReadAt plan i node way) where
  at : way ≡ columns_way (operator_at plan i)
  at = r.made_so ∙ ap (λ (x : Node). columns_way (operator_of x)) r.is

  columns-made : columns T (plan_at plan i) ≡ made T node (columns T (first_tree plan i)) (columns T (second_tree plan i)) node.kind way
  unfolding columns
  columns-made =
      plan_case plan i (λ op p. columns T p ≡ operator_columns T op (columns T (first_tree plan i)) (columns T (second_tree plan i))) (λ x. refl) (λ u. refl) (λ b. refl) r.inside
      ∙ ap (λ (x : Node). operator_columns T (operator_of x) (columns T (first_tree plan i)) (columns T (second_tree plan i))) (sym r.is)
      ∙ made_by T node (columns T (first_tree plan i)) (columns T (second_tree plan i)) node.kind
      ∙ ap (made T node (columns T (first_tree plan i)) (columns T (second_tree plan i)) node.kind) (sym r.made_so)

  -- its ids are bytes
  pub own-small : Sound T (plan_at plan i) → all byte (operator_new T (operator_of node)) ≡ true
  unfolding introduced
  own-small s =
      ap (λ (x : Node). all byte (operator_new T (operator_of x))) r.is
      ∙ plan_case plan i (λ op p. Sound T p → all byte (operator_new T op) ≡ true) (λ x t. t.small)
      (λ u t. (all_append byte (unary_new u) (introduced T (first_tree plan i)) t.small).0)
      (λ b t. (all_append byte (binary_new b) (introduced T (first_tree plan i) ++ introduced T (second_tree plan i)) t.small).0) r.inside s

  pub own-columns : way ≡ Own → columns T (plan_at plan i) ≡ own_columns T (operator_of node)
  own-columns k = columns-made ∙ ap (made T node (columns T (first_tree plan i)) (columns T (second_tree plan i)) node.kind) k

  -- the first child
  module _ (k : way ≡ Own → ⊥) where
    pub first-sound : Sound T (plan_at plan i) → Sound T (plan_at plan (i + 1))
    first-sound =
        plan_case plan i (λ op p. (columns_way op ≡ Own → ⊥) → Sound T p → Sound T (first_tree plan i))
        (λ x n t. absurd (n refl)) (λ u n t. sound_child t) (λ b n t. sound-left t) r.inside (λ z. k (at ∙ z))

    pub first_fits : width T (plan_at plan (i + 1)) ≤ width T (plan_at plan i)
    first_fits = rw columns-made (made-fits T node (columns T (first_tree plan i)) (columns T (second_tree plan i)) node.kind way k)

  pub front-first : way ≡ First → (w : ℕ) (ids : List ℕ) → Front (columns T (plan_at plan (i + 1))) w ids → Front (columns T (plan_at plan i)) w ids
  front-first k w ids f = rw (columns-made ∙ ap (made T node (columns T (first_tree plan i)) (columns T (second_tree plan i)) node.kind) k) f

  -- the first child's columns, and then the new id
  module _ (k : way ≡ FirstAndNew) where
    more-columns : columns T (plan_at plan i) ≡ columns T (plan_at plan (i + 1)) ++ (node.id ∷ [])
    more-columns = columns-made ∙ ap (made T node (columns T (first_tree plan i)) (columns T (second_tree plan i)) node.kind) k

    pub more-fits : width T (plan_at plan (i + 1)) + 1 ≡ width T (plan_at plan i)
    more-fits = rw more-columns (simp length-append)

    pub front-more : (w : ℕ) (ids : List ℕ) → Front (columns T (plan_at plan (i + 1))) w ids → w < length ids → Front (columns T (plan_at plan i)) (w + 1) (set ids w node.id)
    front-more w ids f l = (
      ap (λ (n : ℕ). n + 1) f.0 ∙ more-fits,
      written-id ids w node.id l ∙ ap (λ (cs : List ℕ). cs ++ (node.id ∷ [])) f.1 ∙ sym more-columns,
    )

  -- both children's columns, the second at place j
  module _ (k : way ≡ Both) (j : ℕ) (d : j ≡ end_at plan (i + 1)) where
    pub second-sound : Sound T (plan_at plan i) → Sound T (plan_at plan j)
    second-sound =
        rw (second_at plan i j d)
        (plan_case plan i (λ op p. columns_way op ≡ Both → Sound T p → Sound T (second_tree plan i))
        (λ x n t. absurd (cc)) (λ u n t. absurd (not-both u n)) (λ b n t. sound-right t) r.inside (sym at ∙ k))

    both-columns : columns T (plan_at plan i) ≡ columns T (plan_at plan (i + 1)) ++ columns T (plan_at plan j)
    both-columns = rw (second_at plan i j d) (columns-made ∙ ap (made T node (columns T (first_tree plan i)) (columns T (second_tree plan i)) node.kind) k)

    pub both-fits : width T (plan_at plan (i + 1)) + width T (plan_at plan j) ≡ width T (plan_at plan i)
    both-fits = rw both-columns (simp length-append)

    pub front-both : (w v : ℕ) (ids more all : List ℕ) → Front (columns T (plan_at plan (i + 1))) w ids → Front (columns T (plan_at plan j)) v more
        → take w all ≡ take w ids → drop w all ≡ more → Front (columns T (plan_at plan i)) (w + v) all
    front-both w v ids more all f g front tail = (
      ap₂ ◌+◌ f.0 g.0 ∙ both-fits,
      take-add w v all ∙ ap₂ ◌++◌ (front ∙ f.1) (ap (take v) tail ∙ g.1) ∙ sym both-columns,
    )
