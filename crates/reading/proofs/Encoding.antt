-- A node whose fields are allowed is the encoding of its operator, byte for byte, and its operator's fields can be written. Assumes nothing.
use Prim.Native.Nat.{ℕ, zero, suc, ◌+◌, ◌*◌, ◌≤◌}
use native.Mathlib.Omega.{arith}
use mathlib.Core.Path.{◌≡◌, refl, sym, ◌∙◌}
use mathlib.Core.Bool.{true, ◌&&◌}
use mathlib.Core.List.{List, [], ◌∷◌, ◌++◌}
use lib.ListN.{length, take, drop}
use lib.Dec.{leb, ltb}
use borrow.Author.Tests.{leb-true, ltb-true}
use Rattle.algebra.specs.Refusals.{fields}
use Rattle.reading.specs.Bytes.{byte_at, all_below}
use Rattle.reading.specs.Versions.{node_size}
use Rattle.reading.specs.declared.version.Version.{Version}
use Rattle.reading.specs.Plan.{kind_table, kind_entry, limited, list_ends, list_allowed, test_allowed, count_allowed, fields_allowed, test_of, node_of}
use Rattle.reading.specs.Tree.{operator_by, operator_of}
use Rattle.reading.specs.Encoding.{list_bytes, field_bytes, node_bytes_as, operator_within}
use Rattle.reading.proofs.VersionLaws.{test-room}
use Rattle.reading.proofs.Laws.{all-at}
use Rattle.reading.proofs.Operators.{by_kind}
use Rattle.reading.proofs.FieldBytes.{and_left, and_right, is_zero, is_byte, comparison-byte, mark-byte, aggregate-bytes, rest_size, test-bytes, no_test_lem, ends_in, list-bytes, list-fields, Bytes}

-- ---- a node's bytes: those of its fields, of its list, of its test

-- a list of length 8 and more starts with 8 numbers
eight : (P : List ℕ → Type 0) (n : ℕ) (s : List ℕ) → length s ≡ 8 + n
    → ((a b c d e f g h : ℕ) (r : List ℕ) → length r ≡ n → P (a ∷ b ∷ c ∷ d ∷ e ∷ f ∷ g ∷ h ∷ r)) → P s
eight P n [] q k = absurd (omega arith)
eight P n (a ∷ []) q k = absurd (omega arith)
eight P n (a ∷ b ∷ []) q k = absurd (omega arith)
eight P n (a ∷ b ∷ c ∷ []) q k = absurd (omega arith)
eight P n (a ∷ b ∷ c ∷ d ∷ []) q k = absurd (omega arith)
eight P n (a ∷ b ∷ c ∷ d ∷ e ∷ []) q k = absurd (omega arith)
eight P n (a ∷ b ∷ c ∷ d ∷ e ∷ f ∷ []) q k = absurd (omega arith)
eight P n (a ∷ b ∷ c ∷ d ∷ e ∷ f ∷ g ∷ []) q k = absurd (omega arith)
eight P n (a ∷ b ∷ c ∷ d ∷ e ∷ f ∷ g ∷ h ∷ r) q k = k a b c d e f g h r (omega arith)

four : (P : List ℕ → Type 0) (n : ℕ) (s : List ℕ) → length s ≡ 4 + n → ((a b c d : ℕ) (r : List ℕ) → length r ≡ n → P (a ∷ b ∷ c ∷ d ∷ r)) → P s
four P n [] q k = absurd (omega arith)
four P n (a ∷ []) q k = absurd (omega arith)
four P n (a ∷ b ∷ []) q k = absurd (omega arith)
four P n (a ∷ b ∷ c ∷ []) q k = absurd (omega arith)
four P n (a ∷ b ∷ c ∷ d ∷ r) q k = k a b c d r (omega arith)

-- what fields that are allowed say, one by one
record Allowed (v : Version) (part : List ℕ) : Type 0 where
  pub kind : ltb (byte_at part 0) 15 ≡ true
  pub arg : leb (byte_at (drop 1 part) 0) (byte_at (drop (10 * byte_at part 0 + 1) kind_table) 0) ≡ true
  pub id : leb (byte_at (drop 1 part) 1) (byte_at (drop (10 * byte_at part 0 + 1) kind_table) 1) ≡ true
  pub left : leb (byte_at (drop 1 part) 2) (byte_at (drop (10 * byte_at part 0 + 1) kind_table) 2) ≡ true
  pub right : leb (byte_at (drop 1 part) 3) (byte_at (drop (10 * byte_at part 0 + 1) kind_table) 3) ≡ true
  pub comparison : leb (byte_at (drop 1 part) 4) (byte_at (drop (10 * byte_at part 0 + 1) kind_table) 4) ≡ true
  pub column : leb (byte_at (drop 1 part) 5) (byte_at (drop (10 * byte_at part 0 + 1) kind_table) 5) ≡ true
  pub rest : leb (byte_at (drop 1 part) 6) (byte_at (drop (10 * byte_at part 0 + 1) kind_table) 6) ≡ true
  pub counts : count_allowed part ≡ true
  pub list : list_allowed (kind_entry (byte_at part 0) 8) part ≡ true
  pub test : test_allowed v (kind_entry (byte_at part 0) 9) part ≡ true

allowed-fields : (v : Version) (part : List ℕ) → fields_allowed v part ≡ true → Allowed v part
unfolding fields_allowed
allowed-fields v part h =
    let k = ltb (byte_at part 0) 15 in
    let l = limited 7 (drop 1 part) (drop (10 * byte_at part 0 + 1) kind_table) in
    let c = count_allowed part in
    let s = list_allowed (kind_entry (byte_at part 0) 8) part in
    let t = test_allowed v (kind_entry (byte_at part 0) 9) part in
    let h₁ = and_right k (l && (c && (s && t))) h in
    let h₂ = and_right l (c && (s && t)) h₁ in
    let h₃ = and_right c (s && t) h₂ in
    let at = all-at 7 (λ j. leb (byte_at (drop 1 part) j) (byte_at (drop (10 * byte_at part 0 + 1) kind_table) j)) (and_left l (c && (s && t)) h₁) in
    record {
      kind = and_left k (l && (c && (s && t))) h;
      arg = at 0 (omega arith);
      id = at 1 (omega arith);
      left = at 2 (omega arith);
      right = at 3 (omega arith);
      comparison = at 4 (omega arith);
      column = at 5 (omega arith);
      rest = at 6 (omega arith);
      counts = and_left c (s && t) h₂;
      list = and_left s t h₃;
      test = and_right s t h₃;
    }

-- a node is the encoding of its operator, and its operator's fields can be written, in its version too
pub record Encoded (v : Version) (part : List ℕ) : Type 0 where
  pub bytes : node_bytes_as v (operator_of (node_of v part)) ≡ part
  pub allowed : Bytes part → fields (operator_of (node_of v part)) ≡ true
  pub reached : operator_within v (operator_of (node_of v part)) ≡ true

together : {f f' l l' t t' : List ℕ} → f ≡ f' → l ≡ l' → t ≡ t' → f ++ (l ++ t) ≡ f' ++ (l' ++ t')
together p q r = cc

fields-are : (k : ℕ) {a a' i i' l l' r r' c c' q q' z : ℕ} → a ≡ a' → i ≡ i' → l ≡ l' → r ≡ r' → c ≡ c' → q ≡ q' → z ≡ 0
    → field_bytes k a i l r c q ≡ k ∷ a' ∷ i' ∷ l' ∷ r' ∷ c' ∷ q' ∷ z ∷ []
fields-are k p₁ p₂ p₃ p₄ p₅ p₆ p₇ = rw (p₁, p₂, p₃, p₄, p₅, p₆, p₇)

zero_is : (a : ℕ) → leb a 0 ≡ true → 0 ≡ a
zero_is a h = sym (is_zero a h)

-- a node's bytes after its kind; t are those of the test after its first four
module _ (v : Version) (a i l r c q z n l₁ l₂ l₃ l₄ l₅ l₆ l₇ f o m s : ℕ) (t : List ℕ) (long : length t ≡ rest_size v) where
  abbrev list_part : List ℕ
  list_part = l₁ ∷ l₂ ∷ l₃ ∷ l₄ ∷ l₅ ∷ l₆ ∷ l₇ ∷ []

  abbrev bytes_of : ℕ → List ℕ
  bytes_of k = k ∷ a ∷ i ∷ l ∷ r ∷ c ∷ q ∷ z ∷ n ∷ l₁ ∷ l₂ ∷ l₃ ∷ l₄ ∷ l₅ ∷ l₆ ∷ l₇ ∷ f ∷ o ∷ m ∷ s ∷ t

  list-ends : (k : ℕ) → list_ends (bytes_of k) n ≡ ends_in n list_part
  unfolding list_ends all_below
  list-ends k = refl

  no-list : (k : ℕ) → list_allowed 0 (bytes_of k) ≡ true → list_bytes [] ≡ n ∷ list_part
  no-list k h =
      let h₁ = and_right (leb 0 n) (leb n 0 && list_ends (bytes_of k) n) h in
      let e = is_zero n (and_left (leb n 0) (list_ends (bytes_of k) n) h₁) in
      let g : ends_in 0 list_part ≡ true = rw e at (sym (list-ends k) ∙ and_right (leb n 0) (list_ends (bytes_of k) n) h₁) in
      rw e (list-bytes list_part 0 refl (omega arith) g)

  has-list : (k : ℕ) → list_allowed 1 (bytes_of k) ≡ true → (list_bytes (take n list_part) ≡ n ∷ list_part) × (1 ≤ n) × (n ≤ 7)
  has-list k h =
      let h₁ = and_right (leb 1 n) (leb n 7 && list_ends (bytes_of k) n) h in
      let g = leb-true n 7 (and_left (leb n 7) (list_ends (bytes_of k) n) h₁) in
      (list-bytes list_part n refl g (sym (list-ends k) ∙ and_right (leb n 7) (list_ends (bytes_of k) n) h₁), leb-true 1 n (and_left _ _ h), g)

  -- the list's bytes are bytes
  list_of : {k : ℕ} → Bytes (bytes_of k) → Bytes list_part
  list_of b zero = b 9
  list_of b (suc zero) = b 10
  list_of b (suc (suc zero)) = b 11
  list_of b (suc (suc (suc zero))) = b 12
  list_of b (suc (suc (suc (suc zero)))) = b 13
  list_of b (suc (suc (suc (suc (suc zero))))) = b 14
  list_of b (suc (suc (suc (suc (suc (suc zero)))))) = b 15
  list_of b (suc (suc (suc (suc (suc (suc (suc j))))))) = omega arith

  unit-bytes : Allowed v (bytes_of 0) → Encoded v (bytes_of 0)
  unfolding node_bytes_as operator_by node_of test_of fields operator_within
  unit-bytes A =
      record {
        bytes =
            together
            (fields-are 0 (zero_is a A.arg) (zero_is i A.id) (zero_is l A.left) (zero_is r A.right) (zero_is c A.comparison) (zero_is q A.column) (is_zero z A.rest))
            (no-list 0 A.list)
            (sym (no_test_lem v f o m s t long (and_left _ _ A.test)));
        allowed = λ b. refl;
        reached = refl;
      }

  scan-bytes : Allowed v (bytes_of 1) → Encoded v (bytes_of 1)
  unfolding node_bytes_as operator_by node_of test_of fields operator_within
  scan-bytes A =
      record {
        bytes =
            together
            (fields-are 1 refl refl (zero_is l A.left) (zero_is r A.right) (zero_is c A.comparison) (zero_is q A.column) (is_zero z A.rest))
            (no-list 1 A.list)
            (sym (no_test_lem v f o m s t long (and_left _ _ A.test)));
        allowed = λ b. rw (is_byte a A.arg, is_byte i A.id);
        reached = refl;
      }

  select-bytes : Allowed v (bytes_of 2) → Encoded v (bytes_of 2)
  unfolding node_bytes_as operator_by node_of test_of fields operator_within
  select-bytes A =
      let T = test-bytes v f o m s t long A.test in
      record {
        bytes =
            together
            (fields-are 2 (zero_is a A.arg) (zero_is i A.id) (zero_is l A.left) (zero_is r A.right) (zero_is c A.comparison) (zero_is q A.column) (is_zero z A.rest))
            (no-list 2 A.list)
            T.bytes;
        allowed = λ b. T.allowed;
        reached = T.reached;
      }

  project-bytes : Allowed v (bytes_of 3) → Encoded v (bytes_of 3)
  unfolding node_bytes_as operator_by node_of test_of fields operator_within
  project-bytes A =
      let L = has-list 3 A.list in
      record {
        bytes =
            together
            (fields-are 3 (zero_is a A.arg) (zero_is i A.id) (zero_is l A.left) (zero_is r A.right) (zero_is c A.comparison) (zero_is q A.column) (is_zero z A.rest))
            L.0
            (sym (no_test_lem v f o m s t long (and_left _ _ A.test)));
        allowed = λ b. list-fields list_part n refl L.1 L.2 (list_of b);
        reached = refl;
      }

  distinct-bytes : Allowed v (bytes_of 4) → Encoded v (bytes_of 4)
  unfolding node_bytes_as operator_by node_of test_of fields operator_within
  distinct-bytes A =
      let L = has-list 4 A.list in
      record {
        bytes =
            together
            (fields-are 4 (zero_is a A.arg) (zero_is i A.id) (zero_is l A.left) (zero_is r A.right) (zero_is c A.comparison) (zero_is q A.column) (is_zero z A.rest))
            L.0
            (sym (no_test_lem v f o m s t long (and_left _ _ A.test)));
        allowed = λ b. list-fields list_part n refl L.1 L.2 (list_of b);
        reached = refl;
      }

  cross-bytes : Allowed v (bytes_of 5) → Encoded v (bytes_of 5)
  unfolding node_bytes_as operator_by node_of test_of fields operator_within
  cross-bytes A =
      record {
        bytes =
            together
            (fields-are 5 (zero_is a A.arg) (zero_is i A.id) (zero_is l A.left) (zero_is r A.right) (zero_is c A.comparison) (zero_is q A.column) (is_zero z A.rest))
            (no-list 5 A.list)
            (sym (no_test_lem v f o m s t long (and_left _ _ A.test)));
        allowed = λ b. refl;
        reached = refl;
      }

  semi-bytes : Allowed v (bytes_of 6) → Encoded v (bytes_of 6)
  unfolding node_bytes_as operator_by node_of test_of fields operator_within
  semi-bytes A =
      let T = test-bytes v f o m s t long A.test in
      record {
        bytes =
            together
            (fields-are 6 (zero_is a A.arg) (zero_is i A.id) refl refl (zero_is c A.comparison) (zero_is q A.column) (is_zero z A.rest))
            (no-list 6 A.list)
            T.bytes;
        allowed = λ b. rw (is_byte l A.left, is_byte r A.right, T.allowed);
        reached = T.reached;
      }

  anti_bytes : Allowed v (bytes_of 7) → Encoded v (bytes_of 7)
  unfolding node_bytes_as operator_by node_of test_of fields operator_within
  anti_bytes A =
      let T = test-bytes v f o m s t long A.test in
      record {
        bytes =
            together
            (fields-are 7 (zero_is a A.arg) (zero_is i A.id) refl refl (zero_is c A.comparison) (zero_is q A.column) (is_zero z A.rest))
            (no-list 7 A.list)
            T.bytes;
        allowed = λ b. rw (is_byte l A.left, is_byte r A.right, T.allowed);
        reached = T.reached;
      }

  some_bytes : Allowed v (bytes_of 8) → Encoded v (bytes_of 8)
  unfolding node_bytes_as operator_by node_of test_of fields operator_within
  some_bytes A =
      let T = test-bytes v f o m s t long A.test in
      record {
        bytes =
            together
            (fields-are 8 (zero_is a A.arg) (zero_is i A.id) (zero_is l A.left) (zero_is r A.right) (zero_is c A.comparison) (zero_is q A.column) (is_zero z A.rest))
            (no-list 8 A.list)
            T.bytes;
        allowed = λ b. T.allowed;
        reached = T.reached;
      }

  every-bytes : Allowed v (bytes_of 9) → Encoded v (bytes_of 9)
  unfolding node_bytes_as operator_by node_of test_of fields operator_within
  every-bytes A =
      let T = test-bytes v f o m s t long A.test in
      record {
        bytes =
            together
            (fields-are 9 (zero_is a A.arg) (zero_is i A.id) (zero_is l A.left) (zero_is r A.right) (zero_is c A.comparison) (zero_is q A.column) (is_zero z A.rest))
            (no-list 9 A.list)
            T.bytes;
        allowed = λ b. T.allowed;
        reached = T.reached;
      }

  fold-bytes : Allowed v (bytes_of 10) → Encoded v (bytes_of 10)
  unfolding node_bytes_as operator_by node_of test_of fields operator_within
  fold-bytes A =
      let T = test-bytes v f o m s t long A.test in
      let G = aggregate-bytes a q A.arg A.column A.counts in
      record {
        bytes =
            together
            (fields-are 10 G.code refl (zero_is l A.left) (zero_is r A.right) (zero_is c A.comparison) G.column (is_zero z A.rest))
            (no-list 10 A.list)
            T.bytes;
        allowed = λ b. rw (G.allowed, is_byte i A.id, T.allowed);
        reached = T.reached;
      }

  each-bytes : Allowed v (bytes_of 11) → Encoded v (bytes_of 11)
  unfolding node_bytes_as operator_by node_of test_of fields operator_within
  each-bytes A =
      record {
        bytes =
            together
            (fields-are 11 (zero_is a A.arg) (zero_is i A.id) (zero_is l A.left) (zero_is r A.right) (zero_is c A.comparison) (zero_is q A.column) (is_zero z A.rest))
            (no-list 11 A.list)
            (sym (no_test_lem v f o m s t long (and_left _ _ A.test)));
        allowed = λ b. refl;
        reached = refl;
      }

  pair-bytes : Allowed v (bytes_of 12) → Encoded v (bytes_of 12)
  unfolding node_bytes_as operator_by node_of test_of fields operator_within
  pair-bytes A =
      let T = test-bytes v f o m s t long A.test in
      let G = aggregate-bytes a q A.arg A.column A.counts in
      record {
        bytes =
            together
            (fields-are 12 G.code refl refl refl (comparison-byte c A.comparison) G.column (is_zero z A.rest))
            (no-list 12 A.list)
            T.bytes;
        allowed = λ b. rw (G.allowed, is_byte i A.id, is_byte l A.left, is_byte r A.right, T.allowed);
        reached = T.reached;
      }

  group-bytes : Allowed v (bytes_of 13) → Encoded v (bytes_of 13)
  unfolding node_bytes_as operator_by node_of test_of fields operator_within
  group-bytes A =
      let T = test-bytes v f o m s t long A.test in
      let G = aggregate-bytes a q A.arg A.column A.counts in
      record {
        bytes =
            together
            (fields-are 13 G.code refl refl refl (comparison-byte c A.comparison) G.column (is_zero z A.rest))
            (no-list 13 A.list)
            T.bytes;
        allowed = λ b. rw (G.allowed, is_byte i A.id, is_byte l A.left, is_byte r A.right, T.allowed);
        reached = T.reached;
      }

  sort-bytes : Allowed v (bytes_of 14) → Encoded v (bytes_of 14)
  unfolding node_bytes_as operator_by node_of test_of fields operator_within
  sort-bytes A =
      let L = has-list 14 A.list in
      record {
        bytes =
            together
            (fields-are 14 (mark-byte a A.arg) (zero_is i A.id) (zero_is l A.left) (zero_is r A.right) (zero_is c A.comparison) (zero_is q A.column) (is_zero z A.rest))
            L.0
            (sym (no_test_lem v f o m s t long (and_left _ _ A.test)));
        allowed = λ b. list-fields list_part n refl L.1 L.2 (list_of b);
        reached = refl;
      }

  by-every-kind : (k : ℕ) → Allowed v (bytes_of k) → Encoded v (bytes_of k)
  by-every-kind =
      by_kind (λ k. Allowed v (bytes_of k) → Encoded v (bytes_of k)) unit-bytes scan-bytes select-bytes project-bytes distinct-bytes cross-bytes semi-bytes anti_bytes some_bytes every-bytes fold-bytes each-bytes pair-bytes group-bytes sort-bytes
      (λ k h A. absurd (omega (arith, ltb-true k 15 A.kind)))

pub node_encoded : (v : Version) (part : List ℕ) → length part ≡ node_size v → fields_allowed v part ≡ true → Encoded v part
node_encoded v part e =
    eight (λ s. fields_allowed v s ≡ true → Encoded v s) (12 + rest_size v) part (omega (arith, e, test-room v))
    (λ k a i l r c q z s₁ e₁.
    eight (λ s. fields_allowed v (k ∷ a ∷ i ∷ l ∷ r ∷ c ∷ q ∷ z ∷ s) ≡ true → Encoded v (k ∷ a ∷ i ∷ l ∷ r ∷ c ∷ q ∷ z ∷ s)) (4 + rest_size v) s₁ (omega arith)
    (λ n l₁ l₂ l₃ l₄ l₅ l₆ l₇ s₂ e₂.
    four (λ s. fields_allowed v (k ∷ a ∷ i ∷ l ∷ r ∷ c ∷ q ∷ z ∷ n ∷ l₁ ∷ l₂ ∷ l₃ ∷ l₄ ∷ l₅ ∷ l₆ ∷ l₇ ∷ s) ≡ true → Encoded v (k ∷ a ∷ i ∷ l ∷ r ∷ c ∷ q ∷ z ∷ n ∷ l₁ ∷ l₂ ∷ l₃ ∷ l₄ ∷ l₅ ∷ l₆ ∷ l₇ ∷ s)) (rest_size v) s₂ (omega arith)
    (λ f o m s t long h. by-every-kind v a i l r c q z n l₁ l₂ l₃ l₄ l₅ l₆ l₇ f o m s t long k (allowed-fields v _ h))))

-- A node whose fields are allowed is the encoding of its operator, byte for byte.
pub node-bytes : (v : Version) (part : List ℕ) → length part ≡ node_size v → fields_allowed v part ≡ true → node_bytes_as v (operator_of (node_of v part)) ≡ part
node-bytes v part e h = (node_encoded v part e h).bytes

-- Its operator's fields can be written. A list's entries have no limit of their own, so this asks that they are bytes.
pub fields-of : (v : Version) (part : List ℕ) → length part ≡ node_size v → fields_allowed v part ≡ true → Bytes part → fields (operator_of (node_of v part)) ≡ true
fields-of v part e h = (node_encoded v part e h).allowed

-- Its test's number is in the version's range.
pub within_of : (v : Version) (part : List ℕ) → length part ≡ node_size v → fields_allowed v part ≡ true → operator_within v (operator_of (node_of v part)) ≡ true
within_of v part e h = (node_encoded v part e h).reached
