-- An operator whose fields can be written is read back from its bytes, and they are allowed. Assumes nothing.
use Prim.Native.Nat.{ℕ, ◌+◌, ◌*◌}
use native.Mathlib.Omega.{arith}
use mathlib.Core.Path.{◌≡◌, refl, ap, ◌∙◌}
use mathlib.Core.Bool.{Bool, true, false, not, ◌&&◌, ◌||◌}
use mathlib.Core.List.{List, [], ◌∷◌, ◌++◌}
use lib.ListN.{length, drop, length-append, length-replicate}
use lib.Dec.{ltb, eqb}
use Rattle.algebra.specs.Lists.{all, every}
use Rattle.algebra.specs.Cells.{Comparison, Aggregate, within_reach, in_range}
use Rattle.algebra.specs.Plans.{always, columns_of, number_of, Test, test, unit, scan, Unary, select, project, distinct, group, sort, Binary, cross, semi, quant, fold, each, pair}
use Rattle.algebra.specs.Places.{Operator, leaf_node, unary_node, binary_node}
use Rattle.algebra.specs.Refusals.{byte, list_fields, test_fields, aggregate_fields, fields, unary_fields, binary_fields}
use Rattle.reading.specs.Bytes.{byte_at, unsigned_at, all_below}
use Rattle.reading.specs.Versions.{cell_size, node_size, test_size, reach_of, word_of}
use Rattle.reading.specs.declared.version.Version.{Version}
use Rattle.reading.specs.declared.version.Version.TheVariants.{First, Second}
use Rattle.reading.specs.Plan.{kind_table, kind_entry, test_limits, limited, list_ends, list_allowed, test_allowed, count_allowed, fields_allowed, test_of, node_of}
use Rattle.reading.specs.Tree.{operator_by, operator_of}
use Rattle.reading.specs.Encoding.{comparison_byte, mark_byte, aggregate_byte, column_byte, test_bytes, no_test, list_bytes, field_bytes, node_bytes_as, test_within, unary_within, binary_within, operator_within}
use Rattle.reading.proofs.FieldBytes.{and_left, and_right, byte-is, comparison-back, comparison_limit, comparison-small, mark-back, mark_limit, mark-small, aggregate-back, aggregate_limit, aggregate-small, column_limit, column-small, column-count, zeros_small, TestBack, test_back, ListBack, list_back}
use Rattle.reading.proofs.VersionLaws.{test-room}

both : (a b : Bool) → a ≡ true → b ≡ true → (a && b) ≡ true
both a b e h = rw (e, h)

-- the fields of a node are allowed where its parts are
allowed-when : (v : Version) (part : List ℕ) → ltb (byte_at part 0) 15 ≡ true → limited 7 (drop 1 part) (drop (10 * byte_at part 0 + 1) kind_table) ≡ true
    → count_allowed part ≡ true → list_allowed (kind_entry (byte_at part 0) 8) part ≡ true → test_allowed v (kind_entry (byte_at part 0) 9) part ≡ true
    → fields_allowed v part ≡ true
unfolding fields_allowed
allowed-when v part k l c s t = both _ _ k (both _ _ l (both _ _ c (both _ _ s t)))

-- an operator is read back from its bytes, which are a node's and allowed
pub record Decoded (v : Version) (op : Operator) : Type 0 where
  pub kept : operator_of (node_of v (node_bytes_as v op)) ≡ op
  pub allowed : fields_allowed v (node_bytes_as v op) ≡ true
  pub long : length (node_bytes_as v op) ≡ node_size v
  pub small : all byte (node_bytes_as v op) ≡ true

-- the bytes of a test, and of a list, written out
abbrev test_out : {v : Version} {t : Test} → TestBack v t → List ℕ
test_out B = B.f ∷ B.c ∷ B.m ∷ B.l ∷ B.rest

abbrev list_out : {ids : List ℕ} → ListBack ids → List ℕ
list_out B = B.n ∷ B.a ∷ B.b ∷ B.c ∷ B.d ∷ B.e ∷ B.f ∷ B.g ∷ []

or-true : (b : Bool) → (b || true) ≡ true
or-true true = refl
or-true false = refl

-- the bytes of no test
none-long : (v : Version) → 16 + length (no_test v) ≡ node_size v
none-long v = omega (arith, length-replicate {A = ℕ} (test_size v) 0, test-room v)

none_allowed : (v : Version)
    → limited (test_size v) (no_test v) test_limits && (not (eqb (byte_at (no_test v) 0) 2) || within_reach (reach_of v) (word_of v (unsigned_at (cell_size v) (drop 4 (no_test v)) 0))) ≡ true
unfolding all_below
none_allowed First = refl
none_allowed Second = refl

module _ (v : Version) {op : Operator} where
  decoded-from : (part : List ℕ) → node_bytes_as v op ≡ part → operator_of (node_of v part) ≡ op → fields_allowed v part ≡ true → length part ≡ node_size v → all byte part ≡ true
      → Decoded v op
  decoded-from part e k a l b =
      record { kept = ap (λ (s : List ℕ). operator_of (node_of v s)) e ∙ k; allowed = ap (fields_allowed v) e ∙ a; long = ap length e ∙ l; small = ap (all byte) e ∙ b }

  -- a node with a test, and one with a list, after the bytes of its other fields
  from-test : {t : Test} (head : List ℕ) (B : TestBack v t) → node_bytes_as v op ≡ head ++ (list_bytes [] ++ test_bytes v t) → length head ≡ 8
      → operator_of (node_of v (head ++ (list_bytes [] ++ test_out B))) ≡ op → fields_allowed v (head ++ (list_bytes [] ++ test_out B)) ≡ true
      → all byte (head ++ (list_bytes [] ++ test_out B)) ≡ true → Decoded v op
  from-test head B e l k a b =
      decoded-from (head ++ (list_bytes [] ++ test_out B)) (e ∙ ap (λ (s : List ℕ). head ++ (list_bytes [] ++ s)) B.bytes) k a
      (length-append head (list_bytes [] ++ test_out B) ∙ omega (arith, l, B.long, test-room v)) b

  from_list : {ids : List ℕ} (head : List ℕ) (B : ListBack ids) → node_bytes_as v op ≡ head ++ (list_bytes ids ++ no_test v) → length head ≡ 8
      → operator_of (node_of v (head ++ (list_out B ++ no_test v))) ≡ op → fields_allowed v (head ++ (list_out B ++ no_test v)) ≡ true
      → all byte (head ++ (list_out B ++ no_test v)) ≡ true → Decoded v op
  from_list head B e l k a b =
      decoded-from (head ++ (list_out B ++ no_test v)) (e ∙ ap (λ (s : List ℕ). head ++ (s ++ no_test v)) B.bytes) k a
      (length-append head (list_out B ++ no_test v) ∙ omega (arith, l, none-long v)) b

  -- .. and one with neither
  from-none : (head : List ℕ) → node_bytes_as v op ≡ head ++ (list_bytes [] ++ no_test v) → length head ≡ 8
      → operator_of (node_of v (head ++ (list_bytes [] ++ no_test v))) ≡ op → fields_allowed v (head ++ (list_bytes [] ++ no_test v)) ≡ true
      → all byte (head ++ (list_bytes [] ++ no_test v)) ≡ true → Decoded v op
  from-none head e l k a b =
      decoded-from (head ++ (list_bytes [] ++ no_test v)) e k a (length-append head (list_bytes [] ++ no_test v) ∙ omega (arith, l, none-long v)) b

module _ (v : Version) where
  unit-back : Decoded v (leaf_node unit)
  unfolding node_bytes_as operator_by node_of test_of all_below list_ends
  unit-back = from-none v (field_bytes 0 0 0 0 0 0 0) refl refl refl (allowed-when v _ refl refl refl refl (none_allowed v)) (zeros_small (test_size v))

  cross-back : Decoded v (binary_node cross)
  unfolding node_bytes_as operator_by node_of test_of all_below list_ends
  cross-back = from-none v (field_bytes 5 0 0 0 0 0 0) refl refl refl (allowed-when v _ refl refl refl refl (none_allowed v)) (zeros_small (test_size v))

  each_back : Decoded v (binary_node each)
  unfolding node_bytes_as operator_by node_of test_of all_below list_ends
  each_back = from-none v (field_bytes 11 0 0 0 0 0 0) refl refl refl (allowed-when v _ refl refl refl refl (none_allowed v)) (zeros_small (test_size v))

  scan-back : (t n : ℕ) → byte t ≡ true → byte n ≡ true → Decoded v (leaf_node (scan t n))
  unfolding node_bytes_as operator_by node_of test_of all_below list_ends
  scan-back t n ht hn =
      from-none v (field_bytes 1 t n 0 0 0 0) refl refl refl
      (allowed-when v _ refl (rw (byte-is t ht, byte-is n hn)) (or-true (not (eqb t 0))) refl (none_allowed v))
      (rw (ht, hn) (zeros_small (test_size v)))

  project-back : (ids : List ℕ) → list_fields ids ≡ true → Decoded v (unary_node (project ids))
  unfolding node_bytes_as operator_by node_of test_of all_below list_ends
  project-back ids h =
      let B = list_back ids h in
      from_list v (field_bytes 3 0 0 0 0 0 0) B refl refl
      (ap (λ (s : List ℕ). unary_node (project s)) B.kept)
      (allowed-when v _ refl refl refl (both _ _ B.low (both _ _ B.high B.ends)) (none_allowed v))
      (rw (zeros_small (test_size v)) B.small)

  distinct-back : (ids : List ℕ) → list_fields ids ≡ true → Decoded v (unary_node (distinct ids))
  unfolding node_bytes_as operator_by node_of test_of all_below list_ends
  distinct-back ids h =
      let B = list_back ids h in
      from_list v (field_bytes 4 0 0 0 0 0 0) B refl refl
      (ap (λ (s : List ℕ). unary_node (distinct s)) B.kept)
      (allowed-when v _ refl refl refl (both _ _ B.low (both _ _ B.high B.ends)) (none_allowed v))
      (rw (zeros_small (test_size v)) B.small)

  sort-back : (d : Bool) (ids : List ℕ) → list_fields ids ≡ true → Decoded v (unary_node (sort d ids))
  unfolding node_bytes_as operator_by node_of test_of all_below list_ends
  sort-back d ids h =
      let B = list_back ids h in
      from_list v (field_bytes 14 (mark_byte d) 0 0 0 0 0) B refl refl
      (rw (mark-back d) (ap (λ (s : List ℕ). unary_node (sort d s)) B.kept))
      (allowed-when v _ refl (rw (mark_limit d)) (or-true (not (eqb (mark_byte d) 0))) (both _ _ B.low (both _ _ B.high B.ends)) (none_allowed v))
      (rw (mark-small d, zeros_small (test_size v)) B.small)

  select-back : (t : Test) → test_fields t ≡ true → test_within v t ≡ true → Decoded v (unary_node (select t))
  unfolding node_bytes_as operator_by node_of test_of all_below list_ends
  select-back t h w =
      let B = test_back v t h w in
      from-test v (field_bytes 2 0 0 0 0 0 0) B refl refl
      (ap (λ (t : Test). unary_node (select t)) B.kept)
      (allowed-when v _ refl refl refl refl B.limits)
      B.small

  semi-back : (l r : ℕ) (t : Test) → byte l ≡ true → byte r ≡ true → test_fields t ≡ true → test_within v t ≡ true → Decoded v (binary_node (semi false l r t))
  unfolding node_bytes_as operator_by node_of test_of all_below list_ends
  semi-back l r t hl hr h w =
      let B = test_back v t h w in
      from-test v (field_bytes 6 0 0 l r 0 0) B refl refl
      (ap (λ (t : Test). binary_node (semi false l r t)) B.kept)
      (allowed-when v _ refl (rw (byte-is l hl, byte-is r hr)) refl refl B.limits)
      (rw (hl, hr) B.small)

  anti_back : (l r : ℕ) (t : Test) → byte l ≡ true → byte r ≡ true → test_fields t ≡ true → test_within v t ≡ true → Decoded v (binary_node (semi true l r t))
  unfolding node_bytes_as operator_by node_of test_of all_below list_ends
  anti_back l r t hl hr h w =
      let B = test_back v t h w in
      from-test v (field_bytes 7 0 0 l r 0 0) B refl refl
      (ap (λ (t : Test). binary_node (semi true l r t)) B.kept)
      (allowed-when v _ refl (rw (byte-is l hl, byte-is r hr)) refl refl B.limits)
      (rw (hl, hr) B.small)

  some_back : (t : Test) → test_fields t ≡ true → test_within v t ≡ true → Decoded v (binary_node (quant false t))
  unfolding node_bytes_as operator_by node_of test_of all_below list_ends
  some_back t h w =
      let B = test_back v t h w in
      from-test v (field_bytes 8 0 0 0 0 0 0) B refl refl
      (ap (λ (t : Test). binary_node (quant false t)) B.kept)
      (allowed-when v _ refl refl refl refl B.limits)
      B.small

  every_back : (t : Test) → test_fields t ≡ true → test_within v t ≡ true → Decoded v (binary_node (quant true t))
  unfolding node_bytes_as operator_by node_of test_of all_below list_ends
  every_back t h w =
      let B = test_back v t h w in
      from-test v (field_bytes 9 0 0 0 0 0 0) B refl refl
      (ap (λ (t : Test). binary_node (quant true t)) B.kept)
      (allowed-when v _ refl refl refl refl B.limits)
      B.small

  fold-back : (g : Aggregate) (n : ℕ) (t : Test) → aggregate_fields g ≡ true → byte n ≡ true → test_fields t ≡ true → test_within v t ≡ true → Decoded v (binary_node (fold g n t))
  unfolding node_bytes_as operator_by node_of test_of all_below list_ends
  fold-back g n t hg hn h w =
      let B = test_back v t h w in
      from-test v (field_bytes 10 (aggregate_byte g) n 0 0 0 (column_byte g)) B refl refl
      (rw (aggregate-back g) (ap (λ (t : Test). binary_node (fold g n t)) B.kept))
      (allowed-when v _ refl (rw (aggregate_limit g, byte-is n hn, column_limit g hg)) (column-count g) refl B.limits)
      (rw (aggregate-small g, hn, column-small g hg) B.small)

  pair-back : (g : Aggregate) (n l r : ℕ) (c : Comparison) (t : Test) → aggregate_fields g ≡ true → byte n ≡ true → byte l ≡ true → byte r ≡ true → test_fields t ≡ true → test_within v t ≡ true → Decoded v (binary_node (pair g n l r c t))
  unfolding node_bytes_as operator_by node_of test_of all_below list_ends
  pair-back g n l r c t hg hn hl hr h w =
      let B = test_back v t h w in
      from-test v (field_bytes 12 (aggregate_byte g) n l r (comparison_byte c) (column_byte g)) B refl refl
      (rw (aggregate-back g, comparison-back c) (ap (λ (t : Test). binary_node (pair g n l r c t)) B.kept))
      (allowed-when v _ refl (rw (aggregate_limit g, byte-is n hn, byte-is l hl, byte-is r hr, comparison_limit c, column_limit g hg)) (column-count g) refl B.limits)
      (rw (aggregate-small g, hn, hl, hr, comparison-small c, column-small g hg) B.small)

  group-back : (g : Aggregate) (n l r : ℕ) (c : Comparison) (t : Test) → aggregate_fields g ≡ true → byte n ≡ true → byte l ≡ true → byte r ≡ true → test_fields t ≡ true → test_within v t ≡ true → Decoded v (unary_node (group g n l r c t))
  unfolding node_bytes_as operator_by node_of test_of all_below list_ends
  group-back g n l r c t hg hn hl hr h w =
      let B = test_back v t h w in
      from-test v (field_bytes 13 (aggregate_byte g) n l r (comparison_byte c) (column_byte g)) B refl refl
      (rw (aggregate-back g, comparison-back c) (ap (λ (t : Test). unary_node (group g n l r c t)) B.kept))
      (allowed-when v _ refl (rw (aggregate_limit g, byte-is n hn, byte-is l hl, byte-is r hr, comparison_limit c, column_limit g hg)) (column-count g) refl B.limits)
      (rw (aggregate-small g, hn, hl, hr, comparison-small c, column-small g hg) B.small)

three : (a b c : Bool) → every (a ∷ b ∷ c ∷ []) ≡ true → (a ≡ true) × (b ≡ true) × (c ≡ true)
three a b c h =
    let h₁ = and_right a (b && (c && true)) h in
    let h₂ = and_right b (c && true) h₁ in
    (and_left a (b && (c && true)) h, and_left b (c && true) h₁, and_left c true h₂)

five : (a b c d e : Bool) → every (a ∷ b ∷ c ∷ d ∷ e ∷ []) ≡ true → (a ≡ true) × (b ≡ true) × (c ≡ true) × (d ≡ true) × (e ≡ true)
five a b c d e h =
    let h₁ = and_right a (b && (c && (d && (e && true)))) h in
    let h₂ = and_right b (c && (d && (e && true))) h₁ in
    let t = three c d e h₂ in
    (and_left a (b && (c && (d && (e && true)))) h, and_left b (c && (d && (e && true))) h₁, t.0, t.1, t.2)

unary-back : (v : Version) (u : Unary) → unary_fields u ≡ true → unary_within v u ≡ true → Decoded v (unary_node u)
unary-back v (select t) h w = select-back v t h w
unary-back v (project ids) h w = project-back v ids h
unary-back v (distinct ids) h w = distinct-back v ids h
unary-back v (group g n l r c t) h w =
    let q = five (aggregate_fields g) (byte n) (byte l) (byte r) (test_fields t) h in
    group-back v g n l r c t q.0 q.1 q.2 q.3 q.4 w
unary-back v (sort d ids) h w = sort-back v d ids h

binary-back : (v : Version) (b : Binary) → binary_fields b ≡ true → binary_within v b ≡ true → Decoded v (binary_node b)
binary-back v cross h w = cross-back v
binary-back v (semi false l r t) h w = let q = three (byte l) (byte r) (test_fields t) h in semi-back v l r t q.0 q.1 q.2 w
binary-back v (semi true l r t) h w = let q = three (byte l) (byte r) (test_fields t) h in anti_back v l r t q.0 q.1 q.2 w
binary-back v (quant false t) h w = some_back v t h w
binary-back v (quant true t) h w = every_back v t h w
binary-back v (fold g n t) h w = let q = three (aggregate_fields g) (byte n) (test_fields t) h in fold-back v g n t q.0 q.1 q.2 w
binary-back v each h w = each_back v
binary-back v (pair g n l r c t) h w =
    let q = five (aggregate_fields g) (byte n) (byte l) (byte r) (test_fields t) h in
    pair-back v g n l r c t q.0 q.1 q.2 q.3 q.4 w

-- An operator whose fields can be written, in this version too, is read back from its bytes.
pub decoded : (v : Version) (op : Operator) → fields op ≡ true → operator_within v op ≡ true → Decoded v op
unfolding fields operator_within
decoded v (leaf_node unit) h w = unit-back v
decoded v (leaf_node (scan t n)) h w = scan-back v t n (and_left (byte t) (byte n) h) (and_right (byte t) (byte n) h)
decoded v (unary_node u) h w = unary-back v u h w
decoded v (binary_node b) h w = binary-back v b h w

-- ---- what can be written can be written in version 2

test-second : (t : Test) → test_fields t ≡ true → test_within Second t ≡ true
test-second (test m always) h = refl
test-second (test m (columns_of c l r)) h = refl
test-second (test m (number_of c l w)) h = and_right (byte l) (in_range w) h

pub within-second : (op : Operator) → fields op ≡ true → operator_within Second op ≡ true
unfolding fields operator_within
within-second (leaf_node x) h = refl
within-second (unary_node (select t)) h = test-second t h
within-second (unary_node (project ids)) h = refl
within-second (unary_node (distinct ids)) h = refl
within-second (unary_node (group g n l r c t)) h = test-second t (five (aggregate_fields g) (byte n) (byte l) (byte r) (test_fields t) h).4
within-second (unary_node (sort d ids)) h = refl
within-second (binary_node cross) h = refl
within-second (binary_node (semi m l r t)) h = test-second t (three (byte l) (byte r) (test_fields t) h).2
within-second (binary_node (quant m t)) h = test-second t h
within-second (binary_node (fold g n t)) h = test-second t (three (aggregate_fields g) (byte n) (test_fields t) h).2
within-second (binary_node each) h = refl
within-second (binary_node (pair g n l r c t)) h = test-second t (five (aggregate_fields g) (byte n) (byte l) (byte r) (test_fields t) h).4
