-- A node's bytes, and the images of the nodes that the rules make. Assumes nothing.
use Prim.Native.Nat.{ℕ}
use mathlib.Core.Path.{◌≡◌, refl, sym, ap}
use mathlib.Core.Bool.{Bool, true, false, not, cond, ◌||◌, false≢true}
use mathlib.Core.List.{List, [], ◌∷◌, ◌++◌, append-nil}
use borrow.Rule.Slice.PartMut.{put_mid}
use lib.Dec.{eqb, leb}
use lib.ListN.{length, take, drop, replicate}
use lib.Seq.{take_at, drop_at}
use Rattle.algebra.specs.Plans.{test, select, project, group, cross, semi, pair}
use Rattle.algebra.specs.Places.{unary_node, binary_node}
use Rattle.reading.specs.Plan.{kind_number, comparison_number}
use Rattle.reading.specs.Tree.{comparison_of, aggregate_of, form_of}
use Rattle.reading.specs.Encoding.{comparison_byte, mark_byte, field_bytes, list_bytes, test_bytes, node_bytes, node_bytes_as}
use Rattle.reading.specs.declared.plan.Test.{Test}
use Rattle.reading.specs.declared.plan.Test.TheVariants.{Always, Columns, Number}
use Rattle.reading.specs.declared.kinds.Kind.TheVariants.{Select, Cross, Semi, Anti, Pair, Group}
use Rattle.reading.specs.declared.comparison.Comparison.{Comparison}
use Rattle.reading.specs.declared.comparison.Comparison.TheVariants.{Equal, Unequal, Less, AtMost, Greater, AtLeast, Other}
use Rattle.reading.specs.declared.plan.Node.{Node}
use Rattle.reading.proofs.FieldBytes.{aggregate-bytes}
use Rattle.reading.specs.declared.version.Version.TheVariants.{Second}
use Rattle.unnesting.specs.Images.{test_image, image, plain_node, project_node, is_named, test_comparison}

-- ---- a node's bytes

pub test-long : (m : Bool) (t : Test) → length (test_image m t) ≡ 16
test-long m Always = refl
test-long m (Columns c l r) = refl
test-long m (Number c l w) = refl

-- from its 7 list bytes and its 16 test bytes, copied over zeros behind the first 9
pub image-made : (node : Node) (t : List ℕ) → length node.list.ids ≡ 7 → length t ≡ 16 → t ≡ test_image node.negated node.test
    → put_mid 16 16
    (put_mid 9 7 (kind_number node.kind ∷ node.arg ∷ node.id ∷ node.left ∷ node.right ∷ comparison_number node.comparison ∷ node.column ∷ 0 ∷ node.list.count ∷ replicate 23 0) node.list.ids) t
    ≡ image node
unfolding image
image-made node t h g e =
    let front : take 7 (node.list.ids ++ replicate 16 0) ≡ node.list.ids = take_at node.list.ids (replicate 16 0) 7 h in
    let rest : drop 7 (node.list.ids ++ replicate 16 0) ≡ replicate 16 0 = drop_at node.list.ids (replicate 16 0) 7 h in
    rw (front, rest, e, append-nil)

-- ---- the nodes that the rules make

-- the byte of a comparison that one names
named-byte : (c : Comparison) → is_named c ≡ true → comparison_byte (comparison_of c) ≡ comparison_number c
named-byte Equal h = refl
named-byte Unequal h = refl
named-byte Less h = refl
named-byte AtMost h = refl
named-byte Greater h = refl
named-byte AtLeast h = refl
named-byte (Other byte) h = absurd (false≢true h)

-- a test's bytes, where its comparison is one
pub test-image : (m : Bool) (t : Test) → is_named (test_comparison t) ≡ true → test_image m t ≡ test_bytes Second (test m (form_of t))
test-image m Always h = refl
test-image m (Columns c l r) h = ap (λ (x : ℕ). 1 ∷ x ∷ mark_byte m ∷ l ∷ r ∷ replicate 11 0) (sym (named-byte c h))
test-image m (Number c l w) h = rw (named-byte c h)

module _ (m : Bool) (t : Test) (h : is_named (test_comparison t) ≡ true) where
  pub select-image : image (plain_node Select 0 0 0 0 Equal 0 m t) ≡ node_bytes (unary_node (select (test m (form_of t))))
  unfolding image node_bytes_as
  select-image = ap (λ (s : List ℕ). field_bytes 2 0 0 0 0 0 0 ++ (list_bytes [] ++ s)) (test-image m t h)

  -- Semi; with the mark, Anti
  pub keyed-image : (b : Bool) (l r : ℕ) → image (plain_node (cond b Anti Semi) 0 0 l r Equal 0 m t) ≡ node_bytes (binary_node (semi b l r (test m (form_of t))))
  unfolding image node_bytes_as
  keyed-image true l r = ap (λ (s : List ℕ). field_bytes 7 0 0 l r 0 0 ++ (list_bytes [] ++ s)) (test-image m t h)
  keyed-image false l r = ap (λ (s : List ℕ). field_bytes 6 0 0 l r 0 0 ++ (list_bytes [] ++ s)) (test-image m t h)

  module _ (a column : ℕ) (ha : leb a 3 ≡ true) (hk : leb column 255 ≡ true) (hn : (not (eqb a 0) || eqb column 0) ≡ true) (c : Comparison) (hc : is_named c ≡ true) (id l r : ℕ) where
    pub pair-image : image (plain_node Pair a id l r c column m t) ≡ node_bytes (binary_node (pair (aggregate_of a column) id l r (comparison_of c) (test m (form_of t))))
    unfolding image node_bytes_as
    pair-image =
        let g = aggregate-bytes a column ha hk hn in
        rw (g.code, g.column, named-byte c hc) (ap (λ (s : List ℕ). field_bytes 12 a id l r (comparison_number c) column ++ (list_bytes [] ++ s)) (test-image m t h))

    pub group-image : image (plain_node Group a id l r c column m t) ≡ node_bytes (unary_node (group (aggregate_of a column) id l r (comparison_of c) (test m (form_of t))))
    unfolding image node_bytes_as
    group-image =
        let g = aggregate-bytes a column ha hk hn in
        rw (g.code, g.column, named-byte c hc) (ap (λ (s : List ℕ). field_bytes 13 a id l r (comparison_number c) column ++ (list_bytes [] ++ s)) (test-image m t h))

pub cross-image : image (plain_node Cross 0 0 0 0 Equal 0 false Always) ≡ node_bytes (binary_node cross)
unfolding image node_bytes_as
cross-image = refl

pub project-image : (id : ℕ) → image (project_node id) ≡ node_bytes (unary_node (project (id ∷ [])))
unfolding image node_bytes_as
project-image id = refl
