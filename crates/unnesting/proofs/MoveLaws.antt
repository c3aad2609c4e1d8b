-- What U7 and U8 make of the tree at a place, and that their changes write it. Assumes nothing.
use Prim.Native.Nat.{ℕ, ◌+◌, ◌<◌}
use mathlib.Core.Bool.{Bool, true, false, cond}
use mathlib.Core.Logic.{◌⊎◌, inl, inr}
use mathlib.Core.Path.{◌≡◌, refl, sym, ap, ap₂, ◌∙◌}
use mathlib.Core.List.{List, ◌∷◌, ◌++◌}
use mathlib.Core.Option.{Option, none}
use native.Mathlib.Omega.{arith}
use Rattle.algebra.specs.Lists.{flat_map}
use Rattle.algebra.specs.Plans.{Tables, Test, plain, is_plain, select, Binary, cross, semi, each, Plan, one, two}
use Rattle.algebra.specs.Places.{unary_node, binary_node, size, flatten}
use Rattle.algebra.specs.Names.{closed}
use Rattle.algebra.specs.Rules.{local, when}
use Rattle.reading.specs.Plan.{node_at, nodes_of}
use Rattle.reading.specs.Tree.{node_test, operator_by, operator_of, plan_at}
use Rattle.reading.specs.Encoding.{node_bytes}
use Rattle.reading.specs.Check.{input_refusal}
use Rattle.reading.specs.declared.plan.Test.TheVariants.{Always}
use Rattle.reading.specs.declared.kinds.Kind.{Kind}
use Rattle.reading.specs.declared.kinds.Kind.TheVariants.{Select, Cross, Semi, Anti, Each}
use Rattle.reading.specs.declared.comparison.Comparison.TheVariants.{Equal}
use Rattle.reading.specs.declared.plan.Node.{Node}
use Rattle.reading.proofs.Ends.{end_at}
use Rattle.reading.proofs.Places.{flat_map-joined}
use Rattle.reading.proofs.PlanBytes.{PlanPassed, plan_passed}
use Rattle.unnesting.specs.Images.{image, plain_node, is_named, test_comparison}
use Rattle.unnesting.specs.declared.change.More.TheVariants.{Nothing, One}
use Rattle.unnesting.specs.Shapes.{shape, node_slice, Makes}
use Rattle.unnesting.proofs.AllowedNodes.{allowed_node}
use Rattle.unnesting.proofs.Demand3.{input-parts}
use Rattle.unnesting.proofs.ImageLaws.{select-image, keyed-image, cross-image}
use Rattle.unnesting.proofs.PlaceLaws.{slice_at, TwoAt, two_at}

-- ---- the nodes that they are for

-- a Semi; with the mark, an Anti
record Keyed (node : Node) : Type 0 where
  mark : Bool
  kind : cond mark Anti Semi ≡ node.kind
  is : operator_of node ≡ binary_node (semi mark node.left node.right (node_test node))

keyed : (node : Node) → (node.kind ≡ Semi) ⊎ (node.kind ≡ Anti) → Keyed node
unfolding operator_by
keyed node (inl e) = record { mark = false; kind = sym e; is = rw e }
keyed node (inr e) = record { mark = true; kind = sym e; is = rw e }

each_node : (node : Node) → node.kind ≡ Each → operator_of node ≡ binary_node each
unfolding operator_by
each_node node e = rw e

-- ---- the rules without what rows decide

move-shape : (T : Tables) (c : Option ℕ) (m : Bool) (l r : ℕ) (t : Test) (e f : Plan) (b : Bool) → is_plain t ≡ false → local T t f ≡ b
    → shape T c (two (semi m l r t) e f) ≡ when b (two (semi m l r plain) e (one (select t) f))
unfolding shape
move-shape T c m l r t e f b p q = rw (p, q)

cross-shape : (T : Tables) (c : Option ℕ) (e f : Plan) (b : Bool) → closed T f ≡ b → shape T c (two each e f) ≡ when b (two cross e f)
unfolding shape
cross-shape T c e f b q = rw q

-- ---- at a place of an accepted plan

module _ (set plan : List ℕ) (passed : input_refusal set plan ≡ 0) where
  abbrev given : PlanPassed set plan
  given = plan_passed set plan (input-parts set plan passed).1

  module _ (i : ℕ) (h : i < nodes_of plan) (node : Node) (e : node ≡ node_at plan i) (T : Tables) (c : Option ℕ) (j : ℕ) (ends : j ≡ end_at plan (i + 1)) where
    abbrev At : Binary → Type 0
    At b = TwoAt plan given.whole i h b j

    at_node : (b : Binary) → operator_of node ≡ binary_node b → At b
    at_node b q = two_at plan given.whole i h b (ap operator_of (sym e) ∙ q) j ends

    -- the bytes of the children's trees
    first-bytes : (b : Binary) → At b → flat_map node_bytes (flatten (plan_at plan (i + 1))) ≡ node_slice plan (i + 1) j
    first-bytes b a = slice_at plan given.known (i + 1) (omega (arith, a.first, a.second)) ∙ ap (node_slice plan (i + 1)) a.first

    second-bytes : (b : Binary) → At b → flat_map node_bytes (flatten (plan_at plan j)) ≡ node_slice plan j (i + size (plan_at plan i))
    second-bytes b a = slice_at plan given.known j a.last ∙ ap (node_slice plan j) (sym a.end)

    -- ---- U7

    module _ (kinds : (node.kind ≡ Semi) ⊎ (node.kind ≡ Anti)) (tested : is_plain (node_test node) ≡ false) where
      abbrev k : Keyed node
      k = keyed node kinds

      abbrev b : Binary
      b = semi k.mark node.left node.right (node_test node)

      is_moved : (x : Bool) → local T (node_test node) (plan_at plan j) ≡ x
          → shape T c (plan_at plan i) ≡ when x (two (semi k.mark node.left node.right plain) (plan_at plan (i + 1)) (one (select (node_test node)) (plan_at plan j)))
      is_moved x l =
          ap (shape T c) (at_node b k.is).tree ∙ move-shape T c k.mark node.left node.right (node_test node) (plan_at plan (i + 1)) (plan_at plan j) x tested l

      -- the test names a column that is not f's
      pub move-none : local T (node_test node) (plan_at plan j) ≡ false → shape T c (plan_at plan i) ≡ none
      move-none l = is_moved false l

      -- it does not: it moves to a Select above f
      pub move-made : local T (node_test node) (plan_at plan j) ≡ true
          → Makes T c plan i (record { first = plain_node node.kind 0 0 node.left node.right Equal 0 false Always; keep = j; more = One (plain_node Select 0 0 0 0 Equal 0 node.negated node.test); from = j })
      unfolding flatten
      move-made l =
          let a = at_node b k.is in
          let compared : is_named (test_comparison node.test) ≡ true = ap (λ (x : Node). is_named (test_comparison x.test)) e ∙ (allowed_node plan given.known i h).tested in
          record {
            made = two (semi k.mark node.left node.right plain) (plan_at plan (i + 1)) (one (select (node_test node)) (plan_at plan j));
            is = is_moved true l;
            inside = record {
              place = h;
              kept = omega (arith, a.first);
              end = omega (arith, a.second);
              rest = omega (arith, a.second);
              count = omega (arith, a.first, a.second, given.known.most);
            };
            before = omega (arith, a.end);
            bytes =
                ap₂ ◌++◌
                (sym (ap (λ (x : Kind). image (plain_node x 0 0 node.left node.right Equal 0 false Always)) (sym k.kind) ∙ keyed-image false Always refl k.mark node.left node.right))
                (flat_map-joined node_bytes (flatten (plan_at plan (i + 1))) (unary_node (select (node_test node)) ∷ flatten (plan_at plan j))
                ∙ ap₂ ◌++◌ (first-bytes b a) (ap₂ ◌++◌ (sym (select-image node.negated node.test compared)) (second-bytes b a)));
          }

    -- ---- U8

    module _ (is-each : node.kind ≡ Each) where
      is-cross : (x : Bool) → closed T (plan_at plan j) ≡ x → shape T c (plan_at plan i) ≡ when x (two cross (plan_at plan (i + 1)) (plan_at plan j))
      is-cross x l = ap (shape T c) (at_node each (each_node node is-each)).tree ∙ cross-shape T c (plan_at plan (i + 1)) (plan_at plan j) x l

      -- f names a column from outside itself
      pub cross-none : closed T (plan_at plan j) ≡ false → shape T c (plan_at plan i) ≡ none
      cross-none l = is-cross false l

      pub cross-made : closed T (plan_at plan j) ≡ true
          → Makes T c plan i (record { first = plain_node Cross 0 0 0 0 Equal 0 false Always; keep = j; more = Nothing; from = j })
      unfolding flatten
      cross-made l =
          let a = at_node each (each_node node is-each) in
          record {
            made = two cross (plan_at plan (i + 1)) (plan_at plan j);
            is = is-cross true l;
            inside = record {
              place = h;
              kept = omega (arith, a.first);
              end = omega (arith, a.second);
              rest = omega (arith, a.second);
              count = omega (arith, a.first, a.second, given.known.most);
            };
            before = omega (arith, a.end);
            bytes =
                ap₂ ◌++◌ (sym cross-image)
                (flat_map-joined node_bytes (flatten (plan_at plan (i + 1))) (flatten (plan_at plan j)) ∙ ap₂ ◌++◌ (first-bytes each a) (second-bytes each a));
          }
