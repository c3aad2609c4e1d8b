-- A node's fields and their bytes, there and back: comparisons, marks, aggregates, tests and lists. Assumes nothing.
use Rattle.std.specs.Prelude.{if◌then◌else◌}
use Prim.Native.Nat.{ℕ, zero, suc, ◌+◌, ◌-◌, ◌*◌, ◌/◌, ◌%◌, ◌≤◌, ◌<◌}
use native.Mathlib.Omega.{arith}
use mathlib.Core.Path.{◌≡◌, refl, sym, ap, ap₂, ◌∙◌}
use mathlib.Core.Bool.{Bool, true, false, not, ◌&&◌, ◌||◌, false≢true}
use mathlib.Core.List.{List, [], ◌∷◌, ◌++◌}
use lib.ListN.{length, take, drop, replicate, length-drop, length-replicate, take-append-drop, drop_of_length-le}
use lib.Dec.{leb, ltb, eqb}
use lib.Seq.{length-take-le, get_or-drop, drop_at}
use borrow.Author.Tests.{leb-true, le-leb, ltb-true, lt-ltb, le-ltb, eqb-true}
use Rattle.algebra.specs.Lists.{all}
use Rattle.algebra.specs.Cells.{Comparison, eq, ne, lt, le, gt, ge, sum, least, greatest, Aggregate, count, over, within_reach, in_range}
use Rattle.algebra.specs.Plans.{always, columns_of, number_of, Test, test}
use Rattle.algebra.specs.Refusals.{byte, list_fields, test_fields, aggregate_fields}
use Rattle.reading.specs.Bytes.{byte_at, unsigned_at, all_below}
use Rattle.reading.specs.Versions.{cell_size, test_size, reach_of, word_of, unsigned_code}
use Rattle.reading.specs.declared.version.Version.{Version}
use Rattle.reading.specs.declared.version.Version.TheVariants.{First, Second}
use Rattle.reading.specs.Plan.{comparison_from, test_limits, limited, test_row}
use Rattle.reading.specs.Tree.{comparison_of, aggregate_of, form_of}
use Rattle.reading.specs.declared.plan.Test.TheVariants.{Always, Columns, Number}
use Rattle.reading.specs.Encoding.{comparison_byte, mark_byte, aggregate_byte, column_byte, low_bytes, number_bytes, test_bytes, no_test, test_within, list_bytes}
use Rattle.reading.proofs.VersionLaws.{reach_in, number-allowed, code-bound, code-word, word-code, test-room}
use Rattle.reading.proofs.Laws.{all-at, all-holds}
use Rattle.reading.proofs.NumberBytes.{unsigned_bound, low_value, value_low}

-- ---- tests that hold

pub and_left : (a b : Bool) → (a && b) ≡ true → a ≡ true
and_left true b e = refl
and_left false b e = absurd (false≢true e)

pub and_right : (a b : Bool) → (a && b) ≡ true → b ≡ true
and_right true b e = e
and_right false b e = absurd (false≢true e)

pub is_zero : (a : ℕ) → leb a 0 ≡ true → a ≡ 0
is_zero a h = omega (arith, leb-true a 0 h)

pub is_byte : (a : ℕ) → leb a 255 ≡ true → byte a ≡ true
is_byte a h = lt-ltb a 256 (omega (arith, leb-true a 255 h))

pub is-small : (a : ℕ) → a ≤ 255 → byte a ≡ true
is-small a h = lt-ltb a 256 (omega arith)

pub byte-is : (a : ℕ) → byte a ≡ true → leb a 255 ≡ true
byte-is a h = le-leb a 255 (omega (arith, ltb-true a 256 h))

-- ---- comparisons, marks, aggregates

pub comparison-back : (c : Comparison) → comparison_of (comparison_from (comparison_byte c)) ≡ c
comparison-back eq = refl
comparison-back ne = refl
comparison-back lt = refl
comparison-back le = refl
comparison-back gt = refl
comparison-back ge = refl

pub comparison_limit : (c : Comparison) → leb (comparison_byte c) 5 ≡ true
comparison_limit eq = refl
comparison_limit ne = refl
comparison_limit lt = refl
comparison_limit le = refl
comparison_limit gt = refl
comparison_limit ge = refl

pub comparison-small : (c : Comparison) → byte (comparison_byte c) ≡ true
comparison-small c = lt-ltb (comparison_byte c) 256 (omega (arith, leb-true (comparison_byte c) 5 (comparison_limit c)))

pub comparison-byte : (c : ℕ) → leb c 5 ≡ true → comparison_byte (comparison_of (comparison_from c)) ≡ c
comparison-byte c h = go c (leb-true c 5 h)
  where
    go : (c : ℕ) → c ≤ 5 → comparison_byte (comparison_of (comparison_from c)) ≡ c
    go zero l = refl
    go (suc zero) l = refl
    go (suc (suc zero)) l = refl
    go (suc (suc (suc zero))) l = refl
    go (suc (suc (suc (suc zero)))) l = refl
    go (suc (suc (suc (suc (suc zero))))) l = refl
    go (suc (suc (suc (suc (suc (suc c)))))) l = absurd (omega arith)

pub mark-back : (m : Bool) → eqb (mark_byte m) 1 ≡ m
mark-back true = refl
mark-back false = refl

pub mark_limit : (m : Bool) → leb (mark_byte m) 1 ≡ true
mark_limit true = refl
mark_limit false = refl

pub mark-small : (m : Bool) → byte (mark_byte m) ≡ true
mark-small m = lt-ltb (mark_byte m) 256 (omega (arith, leb-true (mark_byte m) 1 (mark_limit m)))

pub mark-byte : (m : ℕ) → leb m 1 ≡ true → mark_byte (eqb m 1) ≡ m
mark-byte m h = go m (leb-true m 1 h)
  where
    go : (m : ℕ) → m ≤ 1 → mark_byte (eqb m 1) ≡ m
    go zero l = refl
    go (suc zero) l = refl
    go (suc (suc m)) l = absurd (omega arith)

pub aggregate-back : (g : Aggregate) → aggregate_of (aggregate_byte g) (column_byte g) ≡ g
aggregate-back count = refl
aggregate-back (over sum c) = refl
aggregate-back (over least c) = refl
aggregate-back (over greatest c) = refl

pub aggregate_limit : (g : Aggregate) → leb (aggregate_byte g) 3 ≡ true
aggregate_limit count = refl
aggregate_limit (over sum c) = refl
aggregate_limit (over least c) = refl
aggregate_limit (over greatest c) = refl

pub aggregate-small : (g : Aggregate) → byte (aggregate_byte g) ≡ true
aggregate-small g = lt-ltb (aggregate_byte g) 256 (omega (arith, leb-true (aggregate_byte g) 3 (aggregate_limit g)))

-- the column is a byte, and 0 for count
pub column-small : (g : Aggregate) → aggregate_fields g ≡ true → byte (column_byte g) ≡ true
column-small count h = refl
column-small (over k c) h = h

pub column_limit : (g : Aggregate) → aggregate_fields g ≡ true → leb (column_byte g) 255 ≡ true
column_limit count h = refl
column_limit (over k c) h = byte-is c h

pub column-count : (g : Aggregate) → (not (eqb (aggregate_byte g) 0) || eqb (column_byte g) 0) ≡ true
column-count count = refl
column-count (over sum c) = refl
column-count (over least c) = refl
column-count (over greatest c) = refl

-- what the bytes of an aggregate are
pub record AggregateBytes (a c : ℕ) : Type 0 where
  pub code : aggregate_byte (aggregate_of a c) ≡ a
  pub column : column_byte (aggregate_of a c) ≡ c
  pub allowed : aggregate_fields (aggregate_of a c) ≡ true

pub aggregate-bytes : (a c : ℕ) → leb a 3 ≡ true → leb c 255 ≡ true → (not (eqb a 0) || eqb c 0) ≡ true → AggregateBytes a c
aggregate-bytes a c h k z = go a (leb-true a 3 h) z
  where
    go : (a : ℕ) → a ≤ 3 → (not (eqb a 0) || eqb c 0) ≡ true → AggregateBytes a c
    go zero l z = record { code = refl; column = sym (eqb-true c 0 z); allowed = refl }
    go (suc zero) l z = record { code = refl; column = refl; allowed = is_byte c k }
    go (suc (suc zero)) l z = record { code = refl; column = refl; allowed = is_byte c k }
    go (suc (suc (suc zero))) l z = record { code = refl; column = refl; allowed = is_byte c k }
    go (suc (suc (suc (suc a)))) l z = absurd (omega arith)

-- ---- bytes and their limits

limited-at : (n : ℕ) (s limits : List ℕ) → limited n s limits ≡ true → (k : ℕ) → k < n → byte_at s k ≤ byte_at limits k
limited-at n s limits h k l = leb-true _ _ (all-at n (λ j. leb (byte_at s j) (byte_at limits j)) h k l)

-- four bytes, and the rest after them
four-limited : (n f c m l a b d e : ℕ) (s limits : List ℕ) → leb f a ≡ true → leb c b ≡ true → leb m d ≡ true → leb l e ≡ true
    → ((k : ℕ) → byte_at s k ≤ byte_at limits k) → limited (4 + n) (f ∷ c ∷ m ∷ l ∷ s) (a ∷ b ∷ d ∷ e ∷ limits) ≡ true
four-limited n f c m l a b d e s limits p q r t h =
    all-holds (4 + n) (λ j. leb (byte_at (f ∷ c ∷ m ∷ l ∷ s) j) (byte_at (a ∷ b ∷ d ∷ e ∷ limits) j)) (λ k _. at k)
  where
    at : (k : ℕ) → leb (byte_at (f ∷ c ∷ m ∷ l ∷ s) k) (byte_at (a ∷ b ∷ d ∷ e ∷ limits) k) ≡ true
    at zero = p
    at (suc zero) = q
    at (suc (suc zero)) = r
    at (suc (suc (suc zero))) = t
    at (suc (suc (suc (suc k)))) = le-leb _ _ (h k)

-- n equal limits in a row
same_limit : (n x k : ℕ) (more : List ℕ) → k < n → byte_at (replicate n x ++ more) k ≡ x
same_limit zero x k more h = absurd (omega arith)
same_limit (suc n) x zero more h = refl
same_limit (suc n) x (suc k) more h = same_limit n x k more (omega arith)

-- bytes with the limit 0
zeros_are : (n : ℕ) (s more : List ℕ) → length s ≡ n → ((k : ℕ) → k < n → byte_at s k ≤ byte_at (replicate n 0 ++ more) k) → s ≡ replicate n 0
zeros_are zero [] more e h = refl
zeros_are zero (x ∷ s) more e h = absurd (omega arith)
zeros_are (suc n) [] more e h = absurd (omega arith)
zeros_are (suc n) (x ∷ s) more e h =
    let z : x ≡ 0 = omega (arith, h 0 (omega arith)) in
    rw z (ap (◌∷◌ 0) (zeros_are n s more (omega arith) (λ k l. h (suc k) (omega arith))))

zeros-below : (n : ℕ) (s : List ℕ) → length s ≡ n → ((k : ℕ) → k < n → byte_at s k ≤ 0) → s ≡ replicate n 0
zeros-below n s e h = zeros_are n s [] e (λ k l. rw (same_limit n 0 k [] l) (h k l))

-- zeros have any limits
zero-limits : (n : ℕ) (limits : List ℕ) (k : ℕ) → byte_at (replicate n 0) k ≤ byte_at limits k
zero-limits n limits k = omega (arith, zero-at n k)
  where
    zero-at : (n k : ℕ) → byte_at (replicate n 0) k ≡ 0
    zero-at zero k = refl
    zero-at (suc n) zero = refl
    zero-at (suc n) (suc k) = zero-at n k

-- a number's n bytes have no limit
number_small : (n : ℕ) (s more : List ℕ) → ((k : ℕ) → k < n → byte_at s k ≤ byte_at (replicate n 255 ++ more) k) → (k : ℕ) → k < n → byte_at s k ≤ 255
number_small n s more h k l = omega (arith, h k l, same_limit n 255 k more l)

limit_past : (n k : ℕ) (more : List ℕ) → byte_at (replicate n 255 ++ more) (n + k) ≡ byte_at more k
limit_past n k more = rw (← get_or-drop n (replicate n 255 ++ more) k 0, drop_at (replicate n 255) more n (length-replicate n 255))

-- a number's n bytes, and z zeros after them
number-are : (n z : ℕ) (s more : List ℕ) → length s ≡ n + z → ((k : ℕ) → k < n + z → byte_at s k ≤ byte_at (replicate n 255 ++ (replicate z 0 ++ more)) k)
    → low_bytes n (unsigned_at n s 0) ++ replicate z 0 ≡ s
number-are n z s more e h =
    ap₂ ◌++◌
    (value_low n s (omega arith) (number_small n s (replicate z 0 ++ more) (λ k l. h k (omega arith))))
    (sym (zeros_are z (drop n s) more (length-drop n s ∙ omega arith) past))
    ∙ take-append-drop n s
  where
    past : (k : ℕ) → k < z → byte_at (drop n s) k ≤ byte_at (replicate z 0 ++ more) k
    past k l = rw (get_or-drop n s k 0, ← limit_past n k (replicate z 0 ++ more)) (h (n + k) (omega arith))

-- a number's bytes are within its limits
low-limits : (n z : ℕ) (more : List ℕ) (x k : ℕ) → byte_at (low_bytes n x ++ replicate z 0) k ≤ byte_at (replicate n 255 ++ (replicate z 0 ++ more)) k
low-limits zero z more x k = zero-limits z (replicate z 0 ++ more) k
low-limits (suc n) z more x zero = omega arith
low-limits (suc n) z more x (suc k) = low-limits n z more (x / 256) k

pub zeros_small : (z : ℕ) → all byte (replicate z 0) ≡ true
zeros_small zero = refl
zeros_small (suc z) = zeros_small z

low_small : (n z x : ℕ) → all byte (low_bytes n x ++ replicate z 0) ≡ true
low_small zero z x = zeros_small z
low_small (suc n) z x = rw (is-small (x % 256) (omega arith), low_small n z (x / 256))

-- ---- a test's bytes: the first four, and the rest as a list

-- how many the rest are, and how many zeros follow a number in it
abbrev pub rest_size : Version → ℕ
rest_size v = test_size v - 4

abbrev zeros_after : Version → ℕ
zeros_after v = rest_size v - cell_size v

-- the test that they are
abbrev pub test_on : Version → ℕ → ℕ → ℕ → ℕ → List ℕ → Test
test_on v f c m l s =
    test (eqb m 1) (form_of (if eqb f 0 then Always else if eqb f 1 then Columns (comparison_from c) l (byte_at s 0) else Number (comparison_from c) l (word_of v (unsigned_at (cell_size v) s 0))))

abbrev pub test_limited : Version → ℕ → ℕ → ℕ → ℕ → List ℕ → Bool
test_limited v f c m l s =
    limited (test_size v) (f ∷ c ∷ m ∷ l ∷ s) (drop (test_row 1 f) test_limits)
    && (not (eqb f 2) || within_reach (reach_of v) (word_of v (unsigned_at (cell_size v) s 0)))

pub record TestBytes (v : Version) (f c m l : ℕ) (s : List ℕ) : Type 0 where
  pub bytes : test_bytes v (test_on v f c m l s) ≡ f ∷ c ∷ m ∷ l ∷ s
  pub allowed : test_fields (test_on v f c m l s) ≡ true
  pub reached : test_within v (test_on v f c m l s) ≡ true

-- a row's limits after its first four, for the first bytes that a version has of them
rest-room : (v : Version) (k : ℕ) → k < rest_size v → suc (suc (suc (suc k))) < test_size v
rest-room First k h = omega arith
rest-room Second k h = omega arith

rest-low : (v : Version) → rest_size v ≤ 12
rest-low First = omega arith
rest-low Second = omega arith

more_limits : Version → List ℕ
more_limits First = drop 56 test_limits
more_limits Second = []

number-row : (v : Version) → drop 52 test_limits ≡ replicate (cell_size v) 255 ++ (replicate (zeros_after v) 0 ++ more_limits v)
unfolding more_limits
number-row First = refl
number-row Second = refl

sizes : (v : Version) → rest_size v ≡ cell_size v + zeros_after v
sizes First = refl
sizes Second = refl

module _ (v : Version) (c m l : ℕ) (s : List ℕ) (long : length s ≡ rest_size v) where
  always-bytes : limited (test_size v) (0 ∷ c ∷ m ∷ l ∷ s) (drop 16 test_limits) ≡ true → TestBytes v 0 c m l s
  always-bytes h =
      let at = all-at (test_size v) _ h in
      let room = test-room v in
      let below = limited-at (test_size v) (0 ∷ c ∷ m ∷ l ∷ s) (drop 16 test_limits) h in
      let rest = zeros-below (rest_size v) s long (λ k p.
      let q = below (suc (suc (suc (suc k)))) (rest-room v k p) in
      omega (arith, q, same_limit 12 0 k (drop 32 test_limits) (omega (arith, rest-low v)))) in
      record {
        bytes = rw (mark-byte m (at 2 (omega arith)), is_zero c (at 1 (omega arith)), is_zero l (at 3 (omega arith)), rest);
        allowed = refl;
        reached = refl;
      }

  number-test-bytes : limited (test_size v) (2 ∷ c ∷ m ∷ l ∷ s) (drop 48 test_limits) ≡ true → within_reach (reach_of v) (word_of v (unsigned_at (cell_size v) s 0)) ≡ true → TestBytes v 2 c m l s
  number-test-bytes h r =
      let at = all-at (test_size v) _ h in
      let room = test-room v in
      let n : ℕ = cell_size v in
      let z : ℕ = zeros_after v in
      let x : ℕ = unsigned_at n s 0 in
      let limits : (k : ℕ) → k < n + z → byte_at s k ≤ byte_at (replicate n 255 ++ (replicate z 0 ++ more_limits v)) k =
      λ k p. rw (← number-row v) (limited-at (test_size v) (2 ∷ c ∷ m ∷ l ∷ s) (drop 48 test_limits) h (suc (suc (suc (suc k)))) (rest-room v k (rw (sizes v) p))) in
      let small = number_small n s (replicate z 0 ++ more_limits v) (λ k p. limits k (omega arith)) in
      let e : unsigned_code v (word_of v x) ≡ x = code-word v x (unsigned_bound n s 0 (λ k p q. small k (omega arith))) in
      record {
        bytes =
            rw (comparison-byte c (at 1 (omega arith)), mark-byte m (at 2 (omega arith)))
            (ap (λ (y : ℕ). 2 ∷ c ∷ m ∷ l ∷ (low_bytes n y ++ replicate z 0)) e ∙ ap (λ (s : List ℕ). 2 ∷ c ∷ m ∷ l ∷ s) (number-are n z s (more_limits v) (long ∙ sizes v) limits));
        allowed = rw (is_byte l (at 3 (omega arith)), reach_in v (word_of v x) r);
        reached = r;
      }

  form-past : (f : ℕ) → 2 < f → limited (test_size v) (f ∷ c ∷ m ∷ l ∷ s) (drop (16 * (1 + f)) test_limits) ≡ true → ⊥
  form-past f h e =
      let past : 64 ≤ 16 * (1 + f) = omega arith in
      let q : drop (16 * (1 + f)) test_limits ≡ [] = drop_of_length-le test_limits past in
      let at : leb f (byte_at (drop (16 * (1 + f)) test_limits) 0) ≡ true = all-at (test_size v) _ e 0 (omega (arith, test-room v)) in
      let zero-limit : leb f 0 ≡ true = rw q at at in
      omega (arith, leb-true f 0 zero-limit)

columns-bytes : (v : Version) (c m l : ℕ) (s : List ℕ) → length s ≡ rest_size v → limited (test_size v) (1 ∷ c ∷ m ∷ l ∷ s) (drop 32 test_limits) ≡ true → TestBytes v 1 c m l s
columns-bytes v c m l [] long h = absurd (omega (arith, test-room v))
columns-bytes v c m l (x ∷ s) long h =
    let at = all-at (test_size v) _ h in
    let room = test-room v in
    let below = limited-at (test_size v) (1 ∷ c ∷ m ∷ l ∷ x ∷ s) (drop 32 test_limits) h in
    let rest : s ≡ replicate (test_size v - 5) 0 = zeros-below (test_size v - 5) s (omega arith) (λ k p.
    let q = below (suc (suc (suc (suc (suc k))))) (omega arith) in
    omega (arith, q, same_limit 11 0 k (drop 48 test_limits) (omega (arith, rest-low v)))) in
    record {
      bytes = rw (comparison-byte c (at 1 (omega arith)), mark-byte m (at 2 (omega arith)), rest);
      allowed = rw (is_byte l (at 3 (omega arith)), is_byte x (at 4 (omega arith)));
      reached = refl;
    }

pub test-bytes : (v : Version) (f c m l : ℕ) (s : List ℕ) → length s ≡ rest_size v → test_limited v f c m l s ≡ true → TestBytes v f c m l s
test-bytes v zero c m l s long h = always-bytes v c m l s long (and_left _ _ h)
test-bytes v (suc zero) c m l s long h = columns-bytes v c m l s long (and_left _ _ h)
test-bytes v (suc (suc zero)) c m l s long h = number-test-bytes v c m l s long (and_left _ _ h) (and_right (limited (test_size v) (2 ∷ c ∷ m ∷ l ∷ s) (drop 48 test_limits)) _ h)
test-bytes v (suc (suc (suc f))) c m l s long h = absurd (form-past v c m l s long (suc (suc (suc f))) (omega arith) (and_left _ _ h))

-- a kind with no test has zeros there
pub no_test_lem : (v : Version) (f c m l : ℕ) (s : List ℕ) → length s ≡ rest_size v → limited (test_size v) (f ∷ c ∷ m ∷ l ∷ s) test_limits ≡ true → f ∷ c ∷ m ∷ l ∷ s ≡ no_test v
no_test_lem v f c m l s long h =
    zeros-below (test_size v) (f ∷ c ∷ m ∷ l ∷ s) (omega (arith, test-room v)) (λ k p.
    let q = limited-at (test_size v) (f ∷ c ∷ m ∷ l ∷ s) test_limits h k p in
    omega (arith, q, same_limit 16 0 k (drop 16 test_limits) (omega (arith, rest-low v))))

-- the way back
pub record TestBack (v : Version) (t : Test) : Type 0 where
  pub f : ℕ
  pub c : ℕ
  pub m : ℕ
  pub l : ℕ
  pub rest : List ℕ
  pub long : length rest ≡ rest_size v
  pub bytes : test_bytes v t ≡ f ∷ c ∷ m ∷ l ∷ rest
  pub kept : test_on v f c m l rest ≡ t
  pub limits : test_limited v f c m l rest ≡ true
  pub small : all byte (f ∷ c ∷ m ∷ l ∷ rest) ≡ true

number-kept : (v : Version) (k : Bool) (o : Comparison) (a w : ℕ) (s : List ℕ) → word_of v (unsigned_at (cell_size v) s 0) ≡ w
    → test_on v 2 (comparison_byte o) (mark_byte k) a s ≡ test k (number_of o a w)
number-kept v k o a w s e = rw (mark-back k, comparison-back o, e)

-- limits that hold of any bytes after the first four
rest-limited : (v : Version) (f c m l a b d e : ℕ) (s limits : List ℕ) → leb f a ≡ true → leb c b ≡ true → leb m d ≡ true → leb l e ≡ true
    → ((k : ℕ) → byte_at s k ≤ byte_at limits k) → limited (test_size v) (f ∷ c ∷ m ∷ l ∷ s) (a ∷ b ∷ d ∷ e ∷ limits) ≡ true
rest-limited First f c m l a b d e s limits p q r t h = four-limited 4 f c m l a b d e s limits p q r t h
rest-limited Second f c m l a b d e s limits p q r t h = four-limited 12 f c m l a b d e s limits p q r t h

-- a number's bytes are within their limits
number-limits : (v : Version) (x k : ℕ) → byte_at (low_bytes (cell_size v) x ++ replicate (zeros_after v) 0) k ≤ byte_at (drop 52 test_limits) k
number-limits First x k = low-limits 4 0 (replicate 4 255 ++ replicate 4 0) x k
number-limits Second x k = low-limits 8 4 [] x k

always-limited : (v : Version) (k : Bool) → test_limited v 0 0 (mark_byte k) 0 (replicate (rest_size v) 0) ≡ true
always-limited v k = rw (rest-limited v 0 0 (mark_byte k) 0 0 0 1 0 (replicate (rest_size v) 0) (drop 20 test_limits) refl refl (mark_limit k) refl (zero-limits (rest_size v) (drop 20 test_limits)))

columns-limited : (v : Version) (k : Bool) (o : Comparison) (a b : ℕ) → byte a ≡ true → byte b ≡ true → test_limited v 1 (comparison_byte o) (mark_byte k) a (b ∷ replicate (test_size v - 5) 0) ≡ true
columns-limited v k o a b ha hb =
    rw (rest-limited v 1 (comparison_byte o) (mark_byte k) a 1 5 1 255 (b ∷ replicate (test_size v - 5) 0) (drop 36 test_limits) refl (comparison_limit o) (mark_limit k) (byte-is a ha) at)
  where
    at : (j : ℕ) → byte_at (b ∷ replicate (test_size v - 5) 0) j ≤ byte_at (drop 36 test_limits) j
    at zero = leb-true b 255 (byte-is b hb)
    at (suc j) = zero-limits (test_size v - 5) (drop 37 test_limits) j

number-limited : (v : Version) (o : Comparison) (k : Bool) (a : ℕ) (s : List ℕ) → byte a ≡ true → ((j : ℕ) → byte_at s j ≤ byte_at (drop 52 test_limits) j)
    → within_reach (reach_of v) (word_of v (unsigned_at (cell_size v) s 0)) ≡ true → test_limited v 2 (comparison_byte o) (mark_byte k) a s ≡ true
number-limited v o k a s h g r =
    rw (rest-limited v 2 (comparison_byte o) (mark_byte k) a 2 5 1 255 s (drop 52 test_limits) refl (comparison_limit o) (mark_limit k) (byte-is a h) g) r

rest-long : (v : Version) (x : ℕ) → length (low_bytes (cell_size v) x ++ replicate (zeros_after v) 0) ≡ rest_size v
rest-long First x = refl
rest-long Second x = refl

number-back : (v : Version) (w : ℕ) → within_reach (reach_of v) w ≡ true → word_of v (unsigned_at (cell_size v) (number_bytes v w ++ replicate (zeros_after v) 0) 0) ≡ w
number-back v w r =
    ap (word_of v) (low_value (cell_size v) (unsigned_code v w) (replicate (zeros_after v) 0) (code-bound v w)) ∙ word-code v w (number-allowed v w r)

pub test_back : (v : Version) (t : Test) → test_fields t ≡ true → test_within v t ≡ true → TestBack v t
test_back v (test k always) h g =
    record {
      f = 0;
      c = 0;
      m = mark_byte k;
      l = 0;
      rest = replicate (rest_size v) 0;
      long = length-replicate (rest_size v) 0;
      bytes = refl;
      kept = rw (mark-back k);
      limits = always-limited v k;
      small = rw (mark-small k) (zeros_small (rest_size v));
    }
test_back v (test k (columns_of o a b)) h g =
    let ha = and_left (byte a) (byte b) h in
    let hb = and_right (byte a) (byte b) h in
    record {
      f = 1;
      c = comparison_byte o;
      m = mark_byte k;
      l = a;
      rest = b ∷ replicate (test_size v - 5) 0;
      long = omega (arith, length-replicate {A = ℕ} (test_size v - 5) 0, test-room v);
      bytes = refl;
      kept = rw (mark-back k, comparison-back o);
      limits = columns-limited v k o a b ha hb;
      small = rw (comparison-small o, mark-small k, ha, hb) (zeros_small (test_size v - 5));
    }
test_back v (test k (number_of o a w)) h g =
    let ha = and_left (byte a) (in_range w) h in
    let e = number-back v w g in
    let rest : List ℕ = number_bytes v w ++ replicate (zeros_after v) 0 in
    record {
      f = 2;
      c = comparison_byte o;
      m = mark_byte k;
      l = a;
      rest = rest;
      long = rest-long v (unsigned_code v w);
      bytes = refl;
      kept = number-kept v k o a w rest e;
      limits = number-limited v o k a rest ha (number-limits v (unsigned_code v w)) (ap (within_reach (reach_of v)) e ∙ g);
      small = rw (comparison-small o, mark-small k, ha) (low_small (cell_size v) (zeros_after v) (unsigned_code v w));
    }

-- ---- a list's 8 bytes

-- bytes past a list's length are 0
abbrev pub ends_in : ℕ → List ℕ → Bool
ends_in n list = all_below 7 (λ j. ltb j n || eqb (byte_at list j) 0)

-- a list cut where its zeros begin, and filled up again
ends_again : (list : List ℕ) (n m k : ℕ) → length list ≡ m → m ≤ k → ((j : ℕ) → n ≤ j → j < m → byte_at list j ≡ 0) → take m (take n list ++ replicate k 0) ≡ list
ends_again [] n zero k e l h = refl
ends_again [] n (suc m) k e l h = absurd (omega arith)
ends_again (x ∷ list) n zero k e l h = absurd (omega arith)
ends_again (x ∷ list) n (suc m) zero e l h = absurd (omega arith)
ends_again (x ∷ list) zero (suc m) (suc k) e l h =
    rw (h 0 (omega arith) (omega arith)) (ap (◌∷◌ 0) (ends_again list 0 m k (omega arith) (omega arith) (λ j p q. h (suc j) (omega arith) (omega arith))))
ends_again (x ∷ list) (suc n) (suc m) (suc k) e l h =
    ap (◌∷◌ x) (ends_again list n m (suc k) (omega arith) (omega arith) (λ j p q. h (suc j) (omega arith) (omega arith)))

pub list-bytes : (list : List ℕ) (n : ℕ) → length list ≡ 7 → n ≤ 7 → ends_in n list ≡ true → list_bytes (take n list) ≡ n ∷ list
list-bytes list n e l h =
    rw (length-take-le n list (omega arith), ends_again list n 7 7 e (omega arith) past)
  where
    or_is : (b : Bool) → (false || b) ≡ true → b ≡ true
    or_is b e = e

    past : (j : ℕ) → n ≤ j → j < 7 → byte_at list j ≡ 0
    past j p q = eqb-true _ _ (or_is _ (rw (le-ltb j n p) at (all-at 7 (λ j. ltb j n || eqb (byte_at list j) 0) h j q)))

-- a byte at every place
abbrev pub Bytes : List ℕ → Type 0
Bytes s = (k : ℕ) → byte_at s k < 256

all-bytes : (n : ℕ) (list : List ℕ) → Bytes list → all byte (take n list) ≡ true
all-bytes zero list h = refl
all-bytes (suc n) [] h = refl
all-bytes (suc n) (x ∷ list) h = rw (lt-ltb x 256 (h 0), all-bytes n list (λ k. h (suc k)))

pub list-fields : (list : List ℕ) (n : ℕ) → length list ≡ 7 → 1 ≤ n → n ≤ 7 → Bytes list → list_fields (take n list) ≡ true
list-fields list n e l k h = rw (length-take-le n list (omega arith), le-leb 1 n l, le-leb n 7 k, all-bytes n list h)

-- the way back
pub record ListBack (ids : List ℕ) : Type 0 where
  pub n : ℕ
  pub a : ℕ
  pub b : ℕ
  pub c : ℕ
  pub d : ℕ
  pub e : ℕ
  pub f : ℕ
  pub g : ℕ
  pub bytes : list_bytes ids ≡ n ∷ a ∷ b ∷ c ∷ d ∷ e ∷ f ∷ g ∷ []
  pub kept : take n (a ∷ b ∷ c ∷ d ∷ e ∷ f ∷ g ∷ []) ≡ ids
  pub low : leb 1 n ≡ true
  pub high : leb n 7 ≡ true
  pub ends : ends_in n (a ∷ b ∷ c ∷ d ∷ e ∷ f ∷ g ∷ []) ≡ true
  pub small : all byte (n ∷ a ∷ b ∷ c ∷ d ∷ e ∷ f ∷ g ∷ []) ≡ true

list-small : (ids : List ℕ) → list_fields ids ≡ true → all byte ids ≡ true
list-small ids h =
    and_left (all byte ids) true (and_right (leb (length ids) 7) (all byte ids && true) (and_right (leb 1 (length ids)) (leb (length ids) 7 && (all byte ids && true)) h))

too_long : {C : Type 0} (ids : List ℕ) → list_fields ids ≡ true → 7 < length ids → C
too_long ids h l =
    let k = leb-true (length ids) 7 (and_left (leb (length ids) 7) (all byte ids && true) (and_right (leb 1 (length ids)) (leb (length ids) 7 && (all byte ids && true)) h)) in
    absurd (omega arith)

pub list_back : (ids : List ℕ) → list_fields ids ≡ true → ListBack ids
unfolding all_below
list_back [] h = absurd (false≢true h)
list_back (a ∷ []) h = record { n = 1; a = a; b = 0; c = 0; d = 0; e = 0; f = 0; g = 0; bytes = refl; kept = refl; low = refl; high = refl; ends = refl; small = list-small (a ∷ []) h }
list_back (a ∷ b ∷ []) h = record { n = 2; a = a; b = b; c = 0; d = 0; e = 0; f = 0; g = 0; bytes = refl; kept = refl; low = refl; high = refl; ends = refl; small = list-small (a ∷ b ∷ []) h }
list_back (a ∷ b ∷ c ∷ []) h = record { n = 3; a = a; b = b; c = c; d = 0; e = 0; f = 0; g = 0; bytes = refl; kept = refl; low = refl; high = refl; ends = refl; small = list-small (a ∷ b ∷ c ∷ []) h }
list_back (a ∷ b ∷ c ∷ d ∷ []) h = record { n = 4; a = a; b = b; c = c; d = d; e = 0; f = 0; g = 0; bytes = refl; kept = refl; low = refl; high = refl; ends = refl; small = list-small (a ∷ b ∷ c ∷ d ∷ []) h }
list_back (a ∷ b ∷ c ∷ d ∷ e ∷ []) h = record { n = 5; a = a; b = b; c = c; d = d; e = e; f = 0; g = 0; bytes = refl; kept = refl; low = refl; high = refl; ends = refl; small = list-small (a ∷ b ∷ c ∷ d ∷ e ∷ []) h }
list_back (a ∷ b ∷ c ∷ d ∷ e ∷ f ∷ []) h = record { n = 6; a = a; b = b; c = c; d = d; e = e; f = f; g = 0; bytes = refl; kept = refl; low = refl; high = refl; ends = refl; small = list-small (a ∷ b ∷ c ∷ d ∷ e ∷ f ∷ []) h }
list_back (a ∷ b ∷ c ∷ d ∷ e ∷ f ∷ g ∷ []) h = record { n = 7; a = a; b = b; c = c; d = d; e = e; f = f; g = g; bytes = refl; kept = refl; low = refl; high = refl; ends = refl; small = list-small (a ∷ b ∷ c ∷ d ∷ e ∷ f ∷ g ∷ []) h }
list_back (a ∷ b ∷ c ∷ d ∷ e ∷ f ∷ g ∷ i ∷ ids) h = too_long (a ∷ b ∷ c ∷ d ∷ e ∷ f ∷ g ∷ i ∷ ids) h (omega arith)
