-- A node's bytes in both versions: bytes 0 to 19 are the same, and the rest goes by its test. Assumes nothing.
use Rattle.std.specs.Prelude.{if◌then◌else◌, Ok}
use Prim.Native.Nat.{ℕ, zero, suc, ◌+◌, ◌-◌, ◌*◌, ◌≤◌, ◌<◌}
use native.Mathlib.Omega.{arith}
use native.Mathlib.Nat.{le_refl}
use mathlib.Core.Path.{◌≡◌, refl, sym, ap, ap₂, ◌∙◌}
use mathlib.Core.Bool.{Bool, true, false, ◌&&◌}
use mathlib.Core.List.{List, [], ◌∷◌, ◌++◌, append_assoc}
use lib.Dec.{eqb}
use lib.ListN.{length, take, drop, replicate, length-append, length-drop}
use lib.Seq.{take_at, drop_at, drop-cons, drop-drop, get_or-drop, take-take, length-take-le}
use Rattle.algebra.specs.Lists.{all, flat_map, upward}
use Rattle.algebra.specs.Plans.{always, columns_of, number_of, Test, test, unit, scan, select, project, distinct, group, sort, cross, semi, quant, fold, each, pair}
use Rattle.algebra.specs.Places.{Operator, leaf_node, unary_node, binary_node}
use Rattle.algebra.proofs.Lists.{all_map}
use Rattle.reading.specs.Bytes.{byte_at, unsigned_at, all_below}
use Rattle.reading.specs.Versions.{cell_size, node_size, test_size, word_of, unsigned_code}
use Rattle.reading.specs.Plan.{comparison_from, plan_version, test_of, node_of, node_at, plan_mark, nodes_of, read_plan_as}
use Rattle.reading.specs.Tree.{operator_at, whole_tree}
use Rattle.reading.specs.Encoding.{comparison_byte, mark_byte, aggregate_byte, column_byte, test_bytes, no_test, list_bytes, field_bytes, node_bytes_as, plan_bytes_as, test_within, operator_within}
use Rattle.reading.specs.Check.{plan_number}
use Rattle.reading.specs.declared.version.Version.{Version}
use Rattle.reading.specs.declared.version.Version.TheVariants.{First, Second}
use Rattle.reading.specs.declared.plan.Test.{Test as Read}
use Rattle.reading.specs.declared.plan.Test.TheVariants.{Always, Columns, Number}
use Rattle.reading.specs.declared.plan.Node.{Node}
use Rattle.reading.proofs.VersionLaws.{number-allowed, code-bound, word-code, node_least, node_room}
use Rattle.reading.proofs.NumberBytes.{low_value}
use Rattle.reading.proofs.Laws.{all-at}
use Rattle.reading.proofs.Places.{whole-size, whole-flatten, flat_map-map, all-upward}
use Rattle.reading.proofs.PlanBytes.{PlanKnownAs, plan_known-as, node_at_lem, node_at-bytes-as, plan_within}
use Rattle.conversion.specs.Bytes.{plan_in, plan_fits}
use Rattle.conversion.specs.Helpers.{bytes_written, test_fits, test_tail, nodes_fit, node_in, nodes_in}
use Rattle.conversion.proofs.Writing.{written-more, three-written, flat_same, flat_long, flat_next}

-- ---- the tail of a test

pub tail_long : (v : Version) (t : Read) → length (test_tail v t) ≡ node_size v - 20
tail_long First Always = refl
tail_long First (Columns c l r) = refl
tail_long First (Number c l w) = refl
tail_long Second Always = refl
tail_long Second (Columns c l r) = refl
tail_long Second (Number c l w) = refl

-- ---- an operator's bytes in parts, the same in both versions but for the test's last

record Parts (op : Operator) : Type 0 where
  fields : List ℕ
  long : length fields ≡ 8
  ids : List ℕ
  tested : Test
  bytes : (v : Version) → node_bytes_as v op ≡ fields ++ (list_bytes ids ++ test_bytes v tested)
  within : (v : Version) → operator_within v op ≡ test_within v tested

no_test_lem : (v : Version) → no_test v ≡ test_bytes v (test false always)
no_test_lem First = refl
no_test_lem Second = refl

-- an operator with no test
untested : {op : Operator} (fields ids : List ℕ) → length fields ≡ 8 → ((v : Version) → node_bytes_as v op ≡ fields ++ (list_bytes ids ++ no_test v))
    → ((v : Version) → operator_within v op ≡ true) → Parts op
untested f ids l b w =
    record { fields = f; long = l; ids = ids; tested = test false always; bytes = λ v. b v ∙ ap (λ (s : List ℕ). f ++ (list_bytes ids ++ s)) (no_test_lem v); within = w }

-- .. and one with a test
testing : {op : Operator} (fields : List ℕ) (t : Test) → length fields ≡ 8 → ((v : Version) → node_bytes_as v op ≡ fields ++ (list_bytes [] ++ test_bytes v t))
    → ((v : Version) → operator_within v op ≡ test_within v t) → Parts op
testing f t l b w = record { fields = f; long = l; ids = []; tested = t; bytes = b; within = w }

parts : (op : Operator) → Parts op
unfolding node_bytes_as operator_within
parts (leaf_node unit) = untested (field_bytes 0 0 0 0 0 0 0) [] refl (λ v. refl) (λ v. refl)
parts (leaf_node (scan t n)) = untested (field_bytes 1 t n 0 0 0 0) [] refl (λ v. refl) (λ v. refl)
parts (unary_node (select t)) = testing (field_bytes 2 0 0 0 0 0 0) t refl (λ v. refl) (λ v. refl)
parts (unary_node (project ids)) = untested (field_bytes 3 0 0 0 0 0 0) ids refl (λ v. refl) (λ v. refl)
parts (unary_node (distinct ids)) = untested (field_bytes 4 0 0 0 0 0 0) ids refl (λ v. refl) (λ v. refl)
parts (unary_node (group g n l r c t)) = testing (field_bytes 13 (aggregate_byte g) n l r (comparison_byte c) (column_byte g)) t refl (λ v. refl) (λ v. refl)
parts (unary_node (sort d ids)) = untested (field_bytes 14 (mark_byte d) 0 0 0 0 0) ids refl (λ v. refl) (λ v. refl)
parts (binary_node cross) = untested (field_bytes 5 0 0 0 0 0 0) [] refl (λ v. refl) (λ v. refl)
parts (binary_node (semi m l r t)) = testing (field_bytes (6 + mark_byte m) 0 0 l r 0 0) t refl (λ v. refl) (λ v. refl)
parts (binary_node (quant m t)) = testing (field_bytes (8 + mark_byte m) 0 0 0 0 0 0) t refl (λ v. refl) (λ v. refl)
parts (binary_node (fold g n t)) = testing (field_bytes 10 (aggregate_byte g) n 0 0 0 (column_byte g)) t refl (λ v. refl) (λ v. refl)
parts (binary_node each) = untested (field_bytes 11 0 0 0 0 0 0) [] refl (λ v. refl) (λ v. refl)
parts (binary_node (pair g n l r c t)) = testing (field_bytes 12 (aggregate_byte g) n l r (comparison_byte c) (column_byte g)) t refl (λ v. refl) (λ v. refl)

list-long : (ids : List ℕ) → length (list_bytes ids) ≡ 8
list-long ids = ap suc (length-take-le 7 (ids ++ replicate 7 0) (omega (arith, length-append ids (replicate 7 0))))

-- ---- a test's bytes

-- the first four
abbrev test_start : Test → List ℕ
test_start (test m always) = 0 ∷ 0 ∷ mark_byte m ∷ 0 ∷ []
test_start (test m (columns_of c l r)) = 1 ∷ comparison_byte c ∷ mark_byte m ∷ l ∷ []
test_start (test m (number_of c l w)) = 2 ∷ comparison_byte c ∷ mark_byte m ∷ l ∷ []

-- as it is read
abbrev read_as : Test → Read
read_as (test m always) = Always
read_as (test m (columns_of c l r)) = Columns (comparison_from (comparison_byte c)) l r
read_as (test m (number_of c l w)) = Number (comparison_from (comparison_byte c)) l w

start_long : (t : Test) → length (test_start t) ≡ 4
start_long (test m always) = refl
start_long (test m (columns_of c l r)) = refl
start_long (test m (number_of c l w)) = refl

test-split : (v : Version) (t : Test) → test_bytes v t ≡ test_start t ++ test_tail v (read_as t)
test-split v (test m always) = refl
test-split v (test m (columns_of c l r)) = refl
test-split v (test m (number_of c l w)) = refl

test_fits_lem : (v : Version) (t : Test) → test_within v t ≡ test_fits v (read_as t)
test_fits_lem v (test m always) = refl
test_fits_lem v (test m (columns_of c l r)) = refl
test_fits_lem v (test m (number_of c l w)) = refl

-- the test of a node's bytes from byte 16 on
abbrev test_from : Version → List ℕ → Read
test_from v s =
    if eqb (byte_at s 0) 0 then Always else
    if eqb (byte_at s 0) 1 then Columns (comparison_from (byte_at s 1)) (byte_at s 3) (byte_at s 4) else
    Number (comparison_from (byte_at s 1)) (byte_at s 3) (word_of v (unsigned_at (cell_size v) (drop 4 s) 0))

from-part : (v : Version) (part : List ℕ) → test_from v (drop 16 part) ≡ test_of v part
unfolding test_of
from-part v part = rw (get_or-drop 16 part 0 0, get_or-drop 16 part 1 0, get_or-drop 16 part 3 0, get_or-drop 16 part 4 0, drop-drop 4 16 part)

test_read : (v : Version) (t : Test) → test_within v t ≡ true → test_from v (test_bytes v t) ≡ read_as t
test_read v (test m always) h = refl
test_read v (test m (columns_of c l r)) h = refl
test_read v (test m (number_of c l w)) h =
    ap (λ (x : ℕ). Number (comparison_from (comparison_byte c)) l x)
    (ap (word_of v) (low_value (cell_size v) (unsigned_code v w) (replicate (test_size v - 4 - cell_size v) 0) (code-bound v w)) ∙ word-code v w (number-allowed v w h))

-- ---- an operator's bytes in one version, from those in the other

module _ (from to : Version) (op : Operator) (part : List ℕ) (e : node_bytes_as from op ≡ part) (w : operator_within from op ≡ true) where
  abbrev p : Parts op
  p = parts op

  abbrev up_to : List ℕ
  up_to = p.fields ++ list_bytes p.ids

  -- the bytes of a version in two
  halves : (v : Version) → node_bytes_as v op ≡ (up_to ++ test_start p.tested) ++ test_tail v (read_as p.tested)
  halves v = p.bytes v ∙ (ap (λ (s : List ℕ). p.fields ++ (list_bytes p.ids ++ s)) (test-split v p.tested) ∙ simp append_assoc)

  up_long : length up_to ≡ 16
  up_long = length-append p.fields (list_bytes p.ids) ∙ ap₂ ◌+◌ p.long (list-long p.ids)

  first-long : length (up_to ++ test_start p.tested) ≡ 20
  first-long = length-append up_to (test_start p.tested) ∙ ap₂ ◌+◌ up_long (start_long p.tested)

  first_twenty : take 20 part ≡ up_to ++ test_start p.tested
  first_twenty = ap (take 20) (sym e ∙ halves from) ∙ take_at (up_to ++ test_start p.tested) (test_tail from (read_as p.tested)) 20 first-long

  test-is : test_of from part ≡ read_as p.tested
  test-is =
      sym (from-part from part)
      ∙ (ap (λ (s : List ℕ). test_from from (drop 16 s)) (sym e ∙ (p.bytes from ∙ sym (append_assoc p.fields (list_bytes p.ids) (test_bytes from p.tested))))
      ∙ (ap (test_from from) (drop_at up_to (test_bytes from p.tested) 16 up_long) ∙ test_read from p.tested (sym (p.within from) ∙ w)))

  pub node_other : node_bytes_as to op ≡ take 20 part ++ test_tail to (test_of from part)
  node_other = halves to ∙ ap₂ (λ (s : List ℕ) (t : Read). s ++ test_tail to t) (sym first_twenty) (sym test-is)

  pub node-fits : operator_within to op ≡ test_fits to (test_of from part)
  node-fits = p.within to ∙ (test_fits_lem to p.tested ∙ ap (test_fits to) (sym test-is))

-- ---- a plan

below-same : (n : ℕ) (p q : ℕ → Bool) → ((k : ℕ) → k < n → p k ≡ q k) → all_below n p ≡ all_below n q
unfolding all_below
below-same zero p q h = refl
below-same (suc n) p q h = ap₂ ◌&&◌ (below-same n p q (λ k l. h k (omega arith))) (h n (le_refl _))

module _ (v : Version) (plan : List ℕ) where
  node_long : (i : ℕ) → 6 + node_size (plan_version plan) * i + node_size (plan_version plan) ≤ length plan → length (node_in v plan i) ≡ node_size v
  unfolding node_in
  node_long i h =
      let s = drop (6 + node_size (plan_version plan) * i) plan in
      let l : length (take 20 s) ≡ 20 = length-take-le 20 s (omega (arith, length-drop (6 + node_size (plan_version plan) * i) plan, node_least (plan_version plan))) in
      length-append (take 20 s) (test_tail v (node_at plan i).test) ∙ omega (arith, l, tail_long v (node_at plan i).test, node_least v)

  -- its bytes 0 to 19, and then the rest
  pub node_written : (i at : ℕ) (out first second xs ys : List ℕ) → 6 + node_size (plan_version plan) * i + node_size (plan_version plan) ≤ length plan → at + 20 ≤ length out
      → xs ≡ take 20 (drop (6 + node_size (plan_version plan) * i) plan) → ys ≡ test_tail v (node_at plan i).test
      → first ≡ bytes_written out at xs → second ≡ bytes_written first (at + 20) ys → second ≡ bytes_written out at (node_in v plan i)
  unfolding node_in
  node_written i at out first second xs ys h g p q e f =
      let s = drop (6 + node_size (plan_version plan) * i) plan in
      let l : length (take 20 s) ≡ 20 = length-take-le 20 s (omega (arith, length-drop (6 + node_size (plan_version plan) * i) plan, node_least (plan_version plan))) in
      let k : length xs ≡ 20 = ap length p ∙ l in
      f ∙ (ap (λ (o : List ℕ). bytes_written o (at + 20) ys) e ∙ (written-more out at xs ys (omega arith) (at + 20) (omega arith) ∙ ap₂ (λ (a b : List ℕ). bytes_written out at (a ++ b)) p q))

  pub test-fit : nodes_fit v plan ≡ true → (i : ℕ) → i < nodes_of plan → test_fits v (node_at plan i).test ≡ true
  unfolding nodes_fit
  test-fit = all-at (nodes_of plan) (λ i. test_fits v (node_at plan i).test)

  module _ (long : 6 + node_size (plan_version plan) * nodes_of plan ≤ length plan) where
    -- node i stands in the plan
    pub node_stands : (i : ℕ) → i < nodes_of plan → 6 + node_size (plan_version plan) * i + node_size (plan_version plan) ≤ length plan
    node_stands i h = omega (arith, node_room (node_size (plan_version plan)) i (nodes_of plan) h)

    nodes-long : (i : ℕ) → i ≤ nodes_of plan → length (flat_map (node_in v plan) (upward i 0)) ≡ node_size v * i
    nodes-long i h = flat_long (node_in v plan) (node_size v) i (λ k l. node_long k (node_stands k (omega arith)))

    pub nodes-room : (i : ℕ) → i < nodes_of plan → length (flat_map (node_in v plan) (upward i 0)) + node_size v ≤ node_size v * nodes_of plan
    nodes-room i h = omega (arith, nodes-long i (omega arith), node_room (node_size v) i (nodes_of plan) h)

    pub nodes-next : (i : ℕ) → i < nodes_of plan → length (flat_map (node_in v plan) (upward (i + 1) 0)) ≡ length (flat_map (node_in v plan) (upward i 0)) + node_size v
    nodes-next i h = flat_next (node_in v plan) i ∙ ap (λ (k : ℕ). length (flat_map (node_in v plan) (upward i 0)) + k) (node_long i (node_stands i h))

    -- the mark, the count and the nodes
    pub plan-written : (out first second third mark count : List ℕ) (n : ℕ) → 6 ≤ length out → mark ≡ plan_mark v → count ≡ take 1 (drop 5 plan) → n ≡ nodes_of plan
        → first ≡ bytes_written out 0 mark → second ≡ bytes_written first 5 count → third ≡ bytes_written second 6 (flat_map (node_in v plan) (upward n 0))
        → third ≡ bytes_written out 0 (nodes_in v plan)
    unfolding nodes_in
    plan-written out first second third mark count n h p q k e f g =
        let c : count ≡ nodes_of plan ∷ [] = q ∙ ap (take 1) (drop-cons plan 5 0 (omega arith)) in
        let l : length mark ≡ 5 = ap length p in
        let m : length count ≡ 1 = ap length c in
        three-written out 0 5 6 mark count (flat_map (node_in v plan) (upward n 0)) first second third e f g (omega arith) (omega arith) (omega arith)
        ∙ (ap₂ (λ (a b : List ℕ). bytes_written out 0 (a ++ (b ++ flat_map (node_in v plan) (upward n 0)))) p c ∙ ap (λ (j : ℕ). bytes_written out 0 (plan_mark v ++ (nodes_of plan ∷ flat_map (node_in v plan) (upward j 0)))) k)

    pub plan_long : length (nodes_in v plan) ≡ 6 + node_size v * nodes_of plan
    unfolding nodes_in
    plan_long = omega (arith, nodes-long (nodes_of plan) (le_refl _))

module _ (from to : Version) (plan : List ℕ) (n : ℕ) (r : read_plan_as from plan ≡ Ok n) (whole : whole_tree plan ≡ true) where
  known : PlanKnownAs from plan
  known = plan_known-as from plan (ap plan_number r)

  within-at : (i : ℕ) → i < nodes_of plan → operator_within from (operator_at plan i) ≡ true
  within-at =
      all-at (nodes_of plan) (λ i. operator_within from (operator_at plan i))
      (sym (all-upward (λ i. operator_within from (operator_at plan i)) (nodes_of plan))
      ∙ (sym (all_map (operator_within from) (operator_at plan) (upward (nodes_of plan) 0))
      ∙ (ap (all (operator_within from)) (sym (whole-flatten plan whole)) ∙ plan_within from plan n r whole)))

  abbrev part_of : ℕ → List ℕ
  part_of i = take (node_size from) (drop (6 + node_size from * i) plan)

  test_at : (i : ℕ) → i < nodes_of plan → (node_at plan i).test ≡ test_of from (part_of i)
  unfolding node_of
  test_at i h = ap (λ (m : Node). m.test) (node_at_lem from plan known i h)

  start-at : (i : ℕ) → take 20 (drop (6 + node_size (plan_version plan) * i) plan) ≡ take 20 (part_of i)
  start-at i =
      ap (λ (v : Version). take 20 (drop (6 + node_size v * i) plan)) known.version
      ∙ sym (take-take 20 (node_size from) (drop (6 + node_size from * i) plan) (omega (arith, node_least from)))

  node_in_lem : (i : ℕ) → i < nodes_of plan → node_in to plan i ≡ node_bytes_as to (operator_at plan i)
  unfolding node_in
  node_in_lem i h =
      ap₂ (λ (s : List ℕ) (t : Read). s ++ test_tail to t) (start-at i) (test_at i h)
      ∙ sym (node_other from to (operator_at plan i) (part_of i) (node_at-bytes-as from plan known i h) (within-at i h))

  pub plan-in : nodes_in to plan ≡ plan_in to plan
  unfolding nodes_in plan_bytes_as
  plan-in =
      ap₂ (λ (k : ℕ) (s : List ℕ). plan_mark to ++ (k ∷ s)) (sym (whole-size plan whole))
      (flat_same (node_in to plan) (λ i. node_bytes_as to (operator_at plan i)) (nodes_of plan) node_in_lem
      ∙ (sym (flat_map-map (node_bytes_as to) (operator_at plan) (upward (nodes_of plan) 0)) ∙ ap (flat_map (node_bytes_as to)) (sym (whole-flatten plan whole))))

  pub plan-fits : nodes_fit to plan ≡ plan_fits to plan
  unfolding nodes_fit plan_fits
  plan-fits =
      below-same (nodes_of plan) (λ i. test_fits to (node_at plan i).test) (λ i. operator_within to (operator_at plan i))
      (λ i h. ap (test_fits to) (test_at i h) ∙ sym (node-fits from to (operator_at plan i) (part_of i) (node_at-bytes-as from plan known i h) (within-at i h)))
      ∙ (sym (all-upward (λ i. operator_within to (operator_at plan i)) (nodes_of plan))
      ∙ (sym (all_map (operator_within to) (operator_at plan) (upward (nodes_of plan) 0)) ∙ ap (all (operator_within to)) (sym (whole-flatten plan whole))))

  pub plan_stands : 6 + node_size (plan_version plan) * nodes_of plan ≤ length plan
  plan_stands = let e = ap (λ (v : Version). node_size v * nodes_of plan) known.version in omega (arith, e, known.long)

  pub plan_size : length (plan_in to plan) ≡ 6 + node_size to * nodes_of plan
  plan_size = ap length (sym plan-in) ∙ plan_long to plan plan_stands
