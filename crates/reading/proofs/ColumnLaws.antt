-- Laws of the number of columns, capped at 33. Assumes nothing.
use Prim.Native.Nat.{ℕ, min}
use native.Mathlib.Omega.{arith}
use mathlib.Core.Path.{◌≡◌, refl, ap, ◌∙◌}
use mathlib.Core.List.{List}
use lib.ListN.{length-append}
use Rattle.algebra.specs.Plans.{Tables, Leaf, unit, Unary, select, project, distinct, group, sort, Binary, cross, semi, quant, fold, each, pair, Plan, leaf, one, two, columns}
use Rattle.algebra.specs.Places.{Operator, leaf_node, unary_node, binary_node}
use Rattle.algebra.specs.Refusals.{width}
use Rattle.reading.specs.TableSet.{columns_of, table_from, tables_of}
use Rattle.reading.specs.Tree.{operator_by}
use Rattle.reading.specs.Nodes.{operator_width}
use Rattle.reading.specs.declared.kinds.Kind.{Kind}
use Rattle.reading.specs.declared.kinds.Kind.TheVariants.{Scan}
use Rattle.reading.specs.declared.plan.Node.{Node}
use Rattle.reading.proofs.Places.{upward-length}
use Rattle.reading.proofs.TreeNumbers.{Made}

-- ---- a node's columns, of those of its children

module _ (T : Tables) where
  one_width : (u : Unary) (p : Plan) (w : ℕ) → operator_width T (unary_node u) (width T p) w ≡ width T (one u p)
  unfolding columns
  one_width (select t) p w = refl
  one_width (project ids) p w = refl
  one_width (distinct ids) p w = refl
  one_width (group g n l r c t) p w = refl
  one_width (sort d ids) p w = refl

  two-width : (b : Binary) (p q : Plan) → operator_width T (binary_node b) (width T p) (width T q) ≡ width T (two b p q)
  unfolding columns
  two-width cross p q = simp length-append
  two-width (semi m l r t) p q = refl
  two-width (quant m t) p q = refl
  two-width (fold g n t) p q = simp length-append
  two-width each p q = simp length-append
  two-width (pair g n l r c t) p q = simp length-append

  leaf-width : (x : Leaf) (v w : ℕ) → operator_width T (leaf_node x) v w ≡ width T (leaf x)
  unfolding columns
  leaf-width x v w = refl

  capped_width : (op : Operator) (v w : ℕ) → min (operator_width T op (min v 33) (min w 33)) 33 ≡ min (operator_width T op v w) 33
  capped_width (leaf_node x) v w = refl
  capped_width (unary_node (select t)) v w = omega arith
  capped_width (unary_node (project ids)) v w = refl
  capped_width (unary_node (distinct ids)) v w = refl
  capped_width (unary_node (group g n l r c t)) v w = refl
  capped_width (unary_node (sort d ids)) v w = omega arith
  capped_width (binary_node cross) v w = omega arith
  capped_width (binary_node (semi m l r t)) v w = omega arith
  capped_width (binary_node (quant m t)) v w = omega arith
  capped_width (binary_node (fold g n t)) v w = omega arith
  capped_width (binary_node each) v w = omega arith
  capped_width (binary_node (pair g n l r c t)) v w = omega arith

  pub widths : Made (width T) (operator_width T) 33
  widths = record { leaf-made = leaf-width; one-made = one_width; two_made = two-width; capped_made = capped_width }

  pub unit-width : width T (leaf unit) ≡ 0
  unfolding columns
  unit-width = refl

-- ---- by the kind

module _ (set : List ℕ) (node : Node) (v w : ℕ) where
  abbrev pub width_by : Kind → ℕ
  width_by k = operator_width (tables_of set) (operator_by k node) v w

  pub scan-width : node.kind ≡ Scan → width_by node.kind ≡ columns_of (table_from node.arg set)
  unfolding operator_by
  scan-width e = ap width_by e ∙ upward-length _ _
