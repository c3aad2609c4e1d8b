-- Laws of the row bound, capped at 4,097. Assumes nothing.
use Prim.Native.Nat.{ℕ, ◌*◌, ◌/◌, ◌≤◌, ◌<◌, min}
use native.Mathlib.Omega.{arith}
use native.Mathlib.Decide.{dec_le}
use native.Mathlib.Nat.{mul-le-mul, mul-zero, zero-mul, mul-one, le-div_iff_mul-le, div-lt_iff_lt-mul}
use mathlib.Core.Path.{◌≡◌, refl, ap, sym, ◌∙◌}
use mathlib.Core.Bool.{Bool, true, false}
use mathlib.Core.List.{List}
use lib.Dec.{leb}
use lib.ListN.{length, length-map}
use mir.Syntax.{w16}
use mir.Val.{Fits}
use borrow.Author.Tests.{le-leb, lt-leb, leb-true, leb-false}
use Rattle.algebra.specs.Plans.{Tables, Leaf, unit, Unary, Binary, cross, semi, quant, fold, each, pair, Plan, leaf, one, two}
use Rattle.algebra.specs.Places.{Operator, leaf_node, unary_node, binary_node}
use Rattle.algebra.specs.Refusals.{bound, per_row}
use Rattle.reading.specs.TableSet.{rows_of, table_rows, table_from, tables_of}
use Rattle.reading.specs.Tree.{operator_by}
use Rattle.reading.specs.Nodes.{operator_bound}
use Rattle.reading.specs.declared.kinds.Kind.{Kind}
use Rattle.reading.specs.declared.kinds.Kind.TheVariants.{Unit, Scan, Cross, Each, Other}
use Rattle.reading.specs.declared.plan.Node.{Node}
use Rattle.reading.proofs.Places.{upward-length}
use Rattle.reading.proofs.Operators.{each_kind}
use Rattle.reading.proofs.TreeNumbers.{Made}

-- ---- numbers capped at 4,097

-- a product that is capped may be taken of capped numbers
pub cap_mul : (a b : ℕ) → min (min a 4097 * min b 4097) 4097 ≡ min (a * b) 4097
cap_mul a b = go (dec_le a 4097) (dec_le b 4097)
  where
    big : (x y : ℕ) → 4097 ≤ x → 1 ≤ y → 4097 ≤ x * y
    big x y h k = let p = mul-le-mul h k in omega arith

    big' : (x y : ℕ) → 1 ≤ x → 4097 ≤ y → 4097 ≤ x * y
    big' x y h k = let p = mul-le-mul h k in omega arith

    go : Dec (a ≤ 4097) → Dec (b ≤ 4097) → min (min a 4097 * min b 4097) 4097 ≡ min (a * b) 4097
    go (yes h) (yes k) =
        let p : min a 4097 ≡ a = omega arith in
        let q : min b 4097 ≡ b = omega arith in
        rw (p, q)
    go (no h) (yes k) = low (dec_le b 0)
      where
        low : Dec (b ≤ 0) → min (min a 4097 * min b 4097) 4097 ≡ min (a * b) 4097
        low (yes z) = let q : b ≡ 0 = omega arith in rw (q, mul-zero, mul-zero)
        low (no z) = omega (arith, big (min a 4097) (min b 4097) (omega arith) (omega arith), big a b (omega arith) (omega arith))
    go d (no k) = low (dec_le a 0)
      where
        low : Dec (a ≤ 0) → min (min a 4097 * min b 4097) 4097 ≡ min (a * b) 4097
        low (yes z) = let q : a ≡ 0 = omega arith in rw (q, zero-mul, zero-mul)
        low (no z) = omega (arith, big' (min a 4097) (min b 4097) (omega arith) (omega arith), big' a b (omega arith) (omega arith))

-- the quotient tells whether a product is within a number, before the product is formed
pub product_test : (x y most : ℕ) → 0 < y → leb x (most / y) ≡ leb (x * y) most
product_test x y most h = go (dec_le x (most / y))
  where
    go : Dec (x ≤ most / y) → leb x (most / y) ≡ leb (x * y) most
    go (yes k) = le-leb x (most / y) k ∙ sym (le-leb (x * y) most ((le-div_iff_mul-le h).0 k))
    go (no k) = let q : most / y < x = omega arith in lt-leb x (most / y) q ∙ sym (lt-leb (x * y) most ((div-lt_iff_lt-mul h).0 q))

-- a number that passes the test fits 16 bits and is not changed by the cap; one that does not pass is capped to 4,097
module _ (passed : Bool) (n : ℕ) (e : passed ≡ leb n 4096) where
  pub low_fits : passed ≡ true → Fits w16 n
  low_fits t = let h = leb-true n 4096 (sym e ∙ t) in omega arith

  pub low_capped : passed ≡ true → n ≡ min n 4097
  low_capped t = let h = leb-true n 4096 (sym e ∙ t) in omega arith

  pub high_capped : passed ≡ false → 4097 ≡ min n 4097
  high_capped t = let h = leb-false n 4096 (sym e ∙ t) in omega arith

-- ---- a node's bound, of those of its children

module _ (T : Tables) where
  leaf-bound : (x : Leaf) (v w : ℕ) → operator_bound T (leaf_node x) v w ≡ bound T (leaf x)
  unfolding bound
  leaf-bound x v w = refl

  one-bound : (u : Unary) (p : Plan) (w : ℕ) → operator_bound T (unary_node u) (bound T p) w ≡ bound T (one u p)
  unfolding bound
  one-bound u p w = refl

  two-bound : (b : Binary) (p q : Plan) → operator_bound T (binary_node b) (bound T p) (bound T q) ≡ bound T (two b p q)
  unfolding bound
  two-bound b p q = refl

  -- the rows for a left row are capped with the bound that they are of
  capped_rows : (b : Binary) (y : ℕ) → min (per_row b (min y 4097)) 4097 ≡ min (per_row b y) 4097
  capped_rows cross y = omega arith
  capped_rows (semi m l r t) y = refl
  capped_rows (quant m t) y = refl
  capped_rows (fold g n t) y = refl
  capped_rows each y = omega arith
  capped_rows (pair g n l r c t) y = refl

  capped_bound : (op : Operator) (v w : ℕ) → min (operator_bound T op (min v 4097) (min w 4097)) 4097 ≡ min (operator_bound T op v w) 4097
  capped_bound (leaf_node x) v w = refl
  capped_bound (unary_node u) v w = omega arith
  capped_bound (binary_node b) v w =
      let q : min (min v 4097) 4097 ≡ min v 4097 = omega arith in
      rw (← cap_mul (min v 4097) (per_row b (min w 4097)), q, capped_rows b w) (cap_mul v (per_row b w))

  pub bounds : Made (bound T) (operator_bound T) 4097
  bounds = record { leaf-made = leaf-bound; one-made = one-bound; two_made = two-bound; capped_made = capped_bound }

  pub unit-bound : bound T (leaf unit) ≡ 1
  unfolding bound
  unit-bound = refl

-- ---- by the kind

pub length-rows : (table : List ℕ) → length (table_rows table) ≡ rows_of table
unfolding table_rows
length-rows table = simp length-map (upward-length (rows_of table) 0)

module _ (set : List ℕ) (node : Node) (x y : ℕ) where
  abbrev pub bound_by : Kind → ℕ
  bound_by k = operator_bound (tables_of set) (operator_by k node) x y

  pub scan-bound : node.kind ≡ Scan → bound_by node.kind ≡ rows_of (table_from node.arg set)
  unfolding operator_by
  scan-bound e = ap bound_by e ∙ length-rows (table_from node.arg set)

  -- the kinds whose rows are no more than their first child's
  pub first-bound : (k : Kind) → (k ≡ Unit → ⊥) → ((b : ℕ) → k ≡ Other b → ⊥) → (k ≡ Scan → ⊥) → (k ≡ Cross → ⊥) → (k ≡ Each → ⊥) → bound_by k ≡ x
  unfolding operator_by
  first-bound =
      each_kind (λ k. (k ≡ Unit → ⊥) → ((b : ℕ) → k ≡ Other b → ⊥) → (k ≡ Scan → ⊥) → (k ≡ Cross → ⊥) → (k ≡ Each → ⊥) → bound_by k ≡ x)
      (λ a b o p q. absurd (a refl)) (λ a b o p q. absurd (o refl)) (λ a b o p q. refl) (λ a b o p q. refl) (λ a b o p q. refl)
      (λ a b o p q. absurd (p refl)) (λ a b o p q. mul-one x) (λ a b o p q. mul-one x) (λ a b o p q. mul-one x) (λ a b o p q. mul-one x)
      (λ a b o p q. mul-one x) (λ a b o p q. absurd (q refl)) (λ a b o p q. mul-one x) (λ a b o p q. refl) (λ a b o p q. refl)
      (λ k a b o p q. absurd (b k refl))
