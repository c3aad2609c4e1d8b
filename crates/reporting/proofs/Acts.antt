-- What a Select and a Project give of their child's rows. Assumes nothing.
use mathlib.Core.Path.{◌≡◌, sym, subst}
use mathlib.Core.List.{List, map}
use Prim.Native.Nat.{ℕ}
use lib.ListN.{length}
use Rattle.algebra.specs.Lists.{filter}
use Rattle.algebra.specs.Plans.{Row, Env, bind, holds, cut, act_within}
use Rattle.reading.specs.declared.kinds.Kind.{Kind}
use Rattle.reading.specs.declared.kinds.Kind.TheVariants.{Select, Project}
use Rattle.reading.specs.declared.plan.Node.{Node}
use Rattle.reading.specs.Tree.{operator_by, node_test, node_list}
use Rattle.reporting.specs.Rows.{Gives, acted, acted_columns}

module _ (node : Node) (cs : List ℕ) (env : Env) (rs : List Row) (most r : ℕ) (cells : List ℕ) where
  -- the rows of the node's operator
  abbrev Acts : Kind → Type 0
  Acts kind = Gives (acted (operator_by kind node) cs env rs) (length (acted_columns (operator_by kind node) cs)) most r cells

  pub select_acts : node.kind ≡ Select → Gives (filter (λ q. holds (node_test node) (bind cs q env)) rs) (length cs) most r cells → Acts node.kind
  unfolding operator_by acted act_within
  select_acts e = subst (λ kind. Gives (filter (λ q. holds (node_test node) (bind cs q env)) rs) (length cs) most r cells → Acts kind) (sym e) (λ g. g)

  pub project_acts : node.kind ≡ Project → Gives (map (cut (node_list node) cs env) rs) (length (node_list node)) most r cells → Acts node.kind
  unfolding operator_by acted act_within
  project_acts e = subst (λ kind. Gives (map (cut (node_list node) cs env) rs) (length (node_list node)) most r cells → Acts kind) (sym e) (λ g. g)
