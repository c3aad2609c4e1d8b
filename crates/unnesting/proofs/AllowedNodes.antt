-- What the fields of an accepted plan's nodes keep to, so that nodes made of them can be written. Assumes nothing.
use Rattle.std.specs.Prelude.{if◌then◌else◌}
use Prim.Native.Nat.{ℕ, zero, suc, ◌+◌, ◌*◌, ◌≤◌, ◌<◌}
use native.Mathlib.Omega.{arith}
use mathlib.Core.Path.{◌≡◌, refl, sym, ap, subst, ◌∙◌}
use mathlib.Core.Bool.{Bool, true, false, not, ◌&&◌, ◌||◌}
use mathlib.Core.List.{List}
use mathlib.Core.Logic.{◌⊎◌, inl, inr}
use lib.Dec.{eqb, leb, ltb}
use lib.ListN.{take, drop, get_or-eq_default}
use lib.Seq.{get_or-drop}
use borrow.Author.Tests.{le-leb, leb-true, ltb-true}
use Rattle.algebra.specs.Cells.{in_range}
use Rattle.reading.specs.Bytes.{byte_at}
use Rattle.reading.specs.Plan.{kind_of, kind_number, comparison_from, kind_table, kind_entry, test_limits, test_row, limited, count_allowed, list_allowed, test_number, test_allowed, fields_allowed, node_part, test_of, node_of, node_at, nodes_of, nodes_allowed}
use Rattle.reading.specs.declared.plan.Test.TheVariants.{Always, Columns, Number}
use Rattle.reading.specs.declared.kinds.Kind.{Kind}
use Rattle.reading.specs.declared.kinds.Kind.TheVariants.{Fold, Pair, Group}
use Rattle.reading.specs.declared.plan.Node.{Node}
use Rattle.reading.proofs.Laws.{all-at}
use Rattle.reading.proofs.FieldBytes.{and_left, and_right}
use Rattle.reading.proofs.Operators.{by_kind, kind-back}
use Rattle.reading.proofs.PlanBytes.{PlanKnown, part-at, node_at_lem}
use Rattle.reading.specs.declared.version.Version.TheVariants.{Second}
use Rattle.unnesting.specs.Images.{is_named, test_comparison}

pub record AllowedNode (node : Node) : Type 0 where
  -- its test's comparison is one
  pub tested : is_named (test_comparison node.test) ≡ true
  -- its own comparison is one
  pub compared : is_named node.comparison ≡ true
  -- its aggregate is one, where it has one
  pub aggregated : (node.kind ≡ Fold) ⊎ ((node.kind ≡ Pair) ⊎ (node.kind ≡ Group)) → leb node.arg 3 ≡ true
  -- its aggregate column, 0 for count
  pub measured : leb node.column 255 ≡ true
  pub counted : (not (eqb node.arg 0) || eqb node.column 0) ≡ true

-- a limit below another
within : (x y m : ℕ) → leb x y ≡ true → y ≤ m → leb x m ≡ true
within x y m h l = le-leb x m (omega (arith, leb-true x y h))

-- a byte of at most 5 names a comparison
named-from : (c : ℕ) → leb c 5 ≡ true → is_named (comparison_from c) ≡ true
named-from c h = go c (leb-true c 5 h)
  where
    go : (c : ℕ) → c ≤ 5 → is_named (comparison_from c) ≡ true
    go zero l = refl
    go (suc zero) l = refl
    go (suc (suc zero)) l = refl
    go (suc (suc (suc zero))) l = refl
    go (suc (suc (suc (suc zero)))) l = refl
    go (suc (suc (suc (suc (suc zero))))) l = refl
    go (suc (suc (suc (suc (suc (suc c)))))) l = absurd (omega arith)

-- the limits of a kind's byte 5 and byte 6
comparison_limit : (k : ℕ) → k < 15 → kind_entry k 5 ≤ 5
comparison_limit =
    by_kind (λ k. k < 15 → kind_entry k 5 ≤ 5)
    (λ l. omega arith) (λ l. omega arith) (λ l. omega arith) (λ l. omega arith) (λ l. omega arith) (λ l. omega arith) (λ l. omega arith) (λ l. omega arith)
    (λ l. omega arith) (λ l. omega arith) (λ l. omega arith) (λ l. omega arith) (λ l. omega arith) (λ l. omega arith) (λ l. omega arith) (λ k h l. absurd (omega arith))

column_limit : (k : ℕ) → k < 15 → kind_entry k 6 ≤ 255
column_limit =
    by_kind (λ k. k < 15 → kind_entry k 6 ≤ 255)
    (λ l. omega arith) (λ l. omega arith) (λ l. omega arith) (λ l. omega arith) (λ l. omega arith) (λ l. omega arith) (λ l. omega arith) (λ l. omega arith)
    (λ l. omega arith) (λ l. omega arith) (λ l. omega arith) (λ l. omega arith) (λ l. omega arith) (λ l. omega arith) (λ l. omega arith) (λ k h l. absurd (omega arith))

-- the limit of a test's comparison
test_limit : (has form : ℕ) → byte_at (drop (test_row has form) test_limits) 1 ≤ 5
test_limit has form = by (eqb has 0) form
  where
    by : (b : Bool) (form : ℕ) → byte_at (drop (if b then 0 else 16 * (1 + form)) test_limits) 1 ≤ 5
    by true form = omega arith
    by false zero = omega arith
    by false (suc zero) = omega arith
    by false (suc (suc zero)) = omega arith
    by false (suc (suc (suc f))) =
        let h : 64 ≤ 16 * (1 + suc (suc (suc f))) + 1 = omega arith in
        rw (get_or-drop (16 * (1 + suc (suc (suc f)))) test_limits 1 0, get_or-eq_default test_limits 0 h) (omega arith)

module _ (part : List ℕ) (h : fields_allowed Second part ≡ true) where
  abbrev k : Bool
  k = ltb (byte_at part 0) 15

  abbrev l : Bool
  l = limited 7 (drop 1 part) (drop (10 * byte_at part 0 + 1) kind_table)

  abbrev c : Bool
  c = count_allowed part

  abbrev s : Bool
  s = list_allowed (kind_entry (byte_at part 0) 8) part

  abbrev t : Bool
  t = test_allowed Second (kind_entry (byte_at part 0) 9) part

  abbrev form : Bool
  form = limited 16 (drop 16 part) (drop (test_row (kind_entry (byte_at part 0) 9) (byte_at part 16)) test_limits)

  known-kind : byte_at part 0 < 15
  unfolding fields_allowed
  known-kind = ltb-true (byte_at part 0) 15 (and_left k (l && (c && (s && t))) h)

  -- byte j + 1 is at most what the table of kinds says
  field_limit : (j : ℕ) → j < 7 → leb (byte_at part (1 + j)) (kind_entry (byte_at part 0) (1 + j)) ≡ true
  unfolding fields_allowed
  field_limit j b =
      let q : 10 * byte_at part 0 + 1 + j ≡ 10 * byte_at part 0 + (1 + j) = omega arith in
      rw (get_or-drop 1 part j 0, get_or-drop (10 * byte_at part 0 + 1) kind_table j 0, q) at
      (all-at 7 (λ j. leb (byte_at (drop 1 part) j) (byte_at (drop (10 * byte_at part 0 + 1) kind_table) j)) (and_left l (c && (s && t)) (and_right k (l && (c && (s && t))) h)) j b)

  count_kept : c ≡ true
  unfolding fields_allowed
  count_kept = and_left c (s && t) (and_right l (c && (s && t)) (and_right k (l && (c && (s && t))) h))

  test-kept : leb (byte_at part 17) 5 ≡ true
  unfolding fields_allowed
  test-kept =
      let whole = and_right s t (and_right c (s && t) (and_right l (c && (s && t)) (and_right k (l && (c && (s && t))) h))) in
      let limit = all-at 16 (λ j. leb (byte_at (drop 16 part) j) (byte_at (drop (test_row (kind_entry (byte_at part 0) 9) (byte_at part 16)) test_limits) j))
      (and_left form (not (eqb (byte_at part 16) 2) || in_range (test_number Second part)) whole) 1 (omega arith) in
      rw (get_or-drop 16 part 1 0) at (within (byte_at (drop 16 part) 1) (byte_at (drop (test_row (kind_entry (byte_at part 0) 9) (byte_at part 16)) test_limits) 1) 5 limit (test_limit (kind_entry (byte_at part 0) 9) (byte_at part 16)))

  -- the byte of the kind that it names
  kind_byte : (kind : Kind) → kind_of (byte_at part 0) ≡ kind → byte_at part 0 ≡ kind_number kind
  kind_byte kind e = sym (kind-back (byte_at part 0)) ∙ ap kind_number e

  aggregate-kept : (kind_of (byte_at part 0) ≡ Fold) ⊎ ((kind_of (byte_at part 0) ≡ Pair) ⊎ (kind_of (byte_at part 0) ≡ Group)) → leb (byte_at part 1) 3 ≡ true
  aggregate-kept (inl e) = rw (kind_byte Fold e) at (field_limit 0 (omega arith))
  aggregate-kept (inr (inl e)) = rw (kind_byte Pair e) at (field_limit 0 (omega arith))
  aggregate-kept (inr (inr e)) = rw (kind_byte Group e) at (field_limit 0 (omega arith))

  part_node : AllowedNode (node_of Second part)
  unfolding node_of test_of
  part_node = record {
    tested = by (eqb (byte_at part 16) 0) (eqb (byte_at part 16) 1);
    compared = named-from (byte_at part 5) (within (byte_at part 5) (kind_entry (byte_at part 0) 5) 5 (field_limit 4 (omega arith)) (comparison_limit (byte_at part 0) known-kind));
    aggregated = aggregate-kept;
    measured = within (byte_at part 6) (kind_entry (byte_at part 0) 6) 255 (field_limit 5 (omega arith)) (column_limit (byte_at part 0) known-kind);
    counted = count_kept;
  }
    where
      by : (a b : Bool) → is_named (test_comparison (if a then Always else if b then Columns (comparison_from (byte_at part 17)) (byte_at part 19) (byte_at part 20) else Number (comparison_from (byte_at part 17)) (byte_at part 19) (test_number Second part))) ≡ true
      by true b = refl
      by false true = named-from (byte_at part 17) test-kept
      by false false = named-from (byte_at part 17) test-kept

-- the nodes of a plan that passes 6 to 9
pub allowed_node : (plan : List ℕ) → PlanKnown plan → (i : ℕ) → i < nodes_of plan → AllowedNode (node_at plan i)
unfolding nodes_allowed
allowed_node plan known i b =
    let part = take 32 (drop (6 + 32 * i) plan) in
    let allowed : fields_allowed Second part ≡ true =
    ap (fields_allowed Second) (sym (part-at Second plan known i)) ∙ all-at (nodes_of plan) (λ i. fields_allowed Second (node_part plan i)) known.nodes i b in
    subst AllowedNode (sym (node_at_lem Second plan known i b)) (part_node part allowed)
