-- What a node with one child gives, by its kind: the widths, and the kinds with a list. Assumes nothing.
use Prim.Native.Nat.{ℕ}
use mathlib.Core.Bool.{true}
use mathlib.Core.Logic.{◌⊎◌}
use mathlib.Core.Path.{◌≡◌, refl, sym, ap, ◌∙◌, subst}
use mathlib.Core.List.{List, [], ◌∷◌, map}
use native.Mathlib.Omega.{arith}
use lib.Dec.{eqb}
use lib.ListN.{length}
use Rattle.algebra.specs.Lists.{firsts}
use Rattle.algebra.specs.Plans.{Row, Env, cut, act_within}
use Rattle.algebra.specs.Refusals.{has_region}
use Rattle.reading.specs.declared.kinds.Kind.{Kind}
use Rattle.reading.specs.declared.kinds.Kind.TheVariants.{Select, Project, Distinct, Group, Sort}
use Rattle.reading.specs.declared.plan.Node.{Node}
use Rattle.reading.specs.Tree.{operator_by, operator_of, node_list}
use Rattle.reading.specs.Nodes.{arity}
use Rattle.reading.proofs.Operators.{each_kind, one_of, just}
use Rattle.reporting.specs.Rows.{chunk, Gives, SortedBy, acted, acted_columns}

-- a kind with one child that is none of Select, Project, Group and Sort is Distinct
pub distinct-kind : (node : Node) → arity (operator_of node) ≡ 1 → (node.kind ≡ Select → ⊥) → (node.kind ≡ Project → ⊥) → (node.kind ≡ Group → ⊥) → (node.kind ≡ Sort → ⊥) → node.kind ≡ Distinct
unfolding operator_by
distinct-kind node =
    each_kind (λ k. arity (operator_by k node) ≡ 1 → (k ≡ Select → ⊥) → (k ≡ Project → ⊥) → (k ≡ Group → ⊥) → (k ≡ Sort → ⊥) → k ≡ Distinct)
    (λ e a b c d. absurd (omega arith)) (λ e a b c d. absurd (omega arith)) (λ e a b c d. absurd (a refl)) (λ e a b c d. absurd (b refl)) (λ e a b c d. refl)
    (λ e a b c d. absurd (omega arith)) (λ e a b c d. absurd (omega arith)) (λ e a b c d. absurd (omega arith)) (λ e a b c d. absurd (omega arith))
    (λ e a b c d. absurd (omega arith)) (λ e a b c d. absurd (omega arith)) (λ e a b c d. absurd (omega arith)) (λ e a b c d. absurd (omega arith))
    (λ e a b c d. absurd (c refl)) (λ e a b c d. absurd (d refl)) (λ k e. absurd (omega arith)) node.kind

module _ (node : Node) (cs : List ℕ) where
  -- ---- the columns
  abbrev columns_by : Kind → List ℕ
  columns_by k = acted_columns (operator_by k node) cs

  pub group-columns : node.kind ≡ Group → columns_by node.kind ≡ node.left ∷ node.id ∷ []
  unfolding operator_by
  group-columns e = ap columns_by e

  pub sort-columns : node.kind ≡ Sort → columns_by node.kind ≡ cs
  unfolding operator_by
  sort-columns e = ap columns_by e

  -- Group and Sort have a region, which stands before the rows
  pub group_region : node.kind ≡ Group → has_region (operator_of node) ≡ true
  unfolding operator_by
  group_region e = ap (λ k. has_region (operator_by k node)) e

  pub sort_region : node.kind ≡ Sort → has_region (operator_of node) ≡ true
  unfolding operator_by
  sort_region e = ap (λ k. has_region (operator_by k node)) e

  -- Project and Distinct
  pub list-columns : (node.kind ≡ Project) ⊎ (node.kind ≡ Distinct) → columns_by node.kind ≡ node_list node
  unfolding operator_by
  list-columns =
      let P : Kind → Type 0 = λ k. columns_by k ≡ node_list node in
      one_of P refl (just P refl)

  -- ---- the rows
  module _ (env : Env) (rs : List Row) (most r : ℕ) (cells : List ℕ) where
    abbrev ActsBy : Kind → Type 0
    ActsBy k = Gives (acted (operator_by k node) cs env rs) (length (columns_by k)) most r cells

    pub group_acts : node.kind ≡ Group → Gives (acted (operator_of node) cs env rs) 2 most r cells → ActsBy node.kind
    group_acts e g = rw (group-columns e) g

    pub sort_acts : node.kind ≡ Sort → SortedBy (eqb node.arg 1) (node_list node) cs rs (length cs) most r cells → ActsBy node.kind
    unfolding operator_by acted act_within
    sort_acts e g = subst ActsBy (sym e) (g.under env)

    -- each row was cut to the list, and of these the first occurrences are kept
    pub distinct_acts : node.kind ≡ Distinct → (given n : ℕ) (middle : List ℕ) → n ≡ length (node_list node) → Gives (map (cut (node_list node) cs env) rs) (length (node_list node)) most given middle
        → Gives (firsts (chunk given n middle)) n given r cells → ActsBy node.kind
    unfolding operator_by acted act_within
    distinct_acts e given n middle l p g =
        subst ActsBy (sym e)
        (record {
          is = ap (λ (w : ℕ). chunk r w cells) (sym l) ∙ g.is ∙ ap firsts (ap (λ (w : ℕ). chunk given w middle) l ∙ p.is);
          few = omega (arith, g.few, p.few);
        })
