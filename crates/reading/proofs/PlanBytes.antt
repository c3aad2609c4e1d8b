-- A plan that is read and whole is the encoding of its tree, byte for byte; and the encoding of a tree is read, whole, and that tree's.
-- Assumes nothing.
use Rattle.std.specs.Prelude.{if◌then◌else◌, Ok, Err}
use Prim.Native.Nat.{ℕ, zero, suc, ◌+◌, ◌*◌, ◌≤◌, ◌<◌}
use native.Mathlib.Omega.{arith}
use native.Mathlib.Nat.{mul-zero, mul-suc}
use mathlib.Core.Path.{◌≡◌, refl, sym, ap, ap₂, ◌∙◌}
use mathlib.Core.Bool.{Bool, true, false, not, ◌&&◌}
use mathlib.Core.List.{List, [], ◌∷◌, ◌++◌, map}
use native.Mathlib.Decide.{dec_lt}
use lib.ListN.{length, take, drop, length-take, length-drop, length-append, drop_of_length-le, get_or-eq_default}
use lib.Dec.{leb, ltb, eqb}
use lib.Seq.{take_at, drop_at, drop-cons, drop-drop, get_or-take, get_or-drop, length-take-le}
use borrow.Author.Tests.{ltb-true, lt-ltb, leb-true, le-leb, le-ltb, eqb-true, eq-eqb, not-false}
use Rattle.algebra.specs.Lists.{all, flat_map, upward}
use Rattle.algebra.specs.Plans.{Plan}
use Rattle.algebra.specs.Places.{Operator, size, flatten}
use Rattle.algebra.specs.Refusals.{byte, fields, refusal, passes}
use Rattle.algebra.proofs.Lists.{all_map}
use Rattle.algebra.proofs.Places.{flatten-length, size-positive}
use Rattle.algebra.proofs.Refusals.{passes-size, passes-fields, passes-refusal}
use Rattle.reading.specs.Bytes.{starts_with}
use Rattle.reading.specs.Versions.{version_number, node_size}
use Rattle.reading.specs.TableSet.{tables_as, tables_of}
use Rattle.reading.specs.Plan.{fields_allowed, plan_version, node_part, node_of, node_at, plan_mark, nodes_of, nodes_allowed, read_plan_as, read_plan}
use Rattle.reading.specs.Tree.{operator_of, operator_at, plan_of, whole_tree}
use Rattle.reading.specs.Encoding.{node_bytes_as, node_bytes, plan_bytes_as, plan_bytes, operator_within}
use Rattle.reading.specs.Check.{plan_number, or_next, tree_number, plan_refusal_as, plan_refusal}
use Rattle.reading.specs.declared.version.Version.{Version}
use Rattle.reading.specs.declared.version.Version.TheVariants.{Second}
use Rattle.reading.specs.declared.refusal.Refusal.TheVariants.{PlanLength, PlanMark, NodeCount, NodeField}
use Rattle.reading.proofs.VersionLaws.{marked-version, starts_take, number_small, node_next, node_room, node_least}
use Rattle.reading.proofs.Laws.{all-at, all-holds}
use Rattle.reading.proofs.Places.{whole-size, whole-flatten, flatten-whole, flat_map-map, all-joined, all-upward}
use Rattle.reading.proofs.FieldBytes.{and_left, and_right, Bytes}
use Rattle.reading.proofs.Encoding.{node-bytes, fields-of, within_of}
use Rattle.reading.proofs.Decoding.{Decoded, decoded, within-second}

-- ---- what is known of a plan that is read as a version's

pub record PlanKnownAs (v : Version) (plan : List ℕ) : Type 0 where
  pub marked : starts_with (plan_mark v) plan ≡ true
  pub version : plan_version plan ≡ v
  pub some : 1 ≤ nodes_of plan
  pub most : nodes_of plan ≤ 64
  pub long : length plan ≡ 6 + node_size v * nodes_of plan
  pub nodes : nodes_allowed v (nodes_of plan) plan ≡ true

abbrev pub PlanKnown : List ℕ → Type 0
PlanKnown plan = PlanKnownAs Second plan

numbers : (b₁ b₂ b₃ b₄ b₅ : Bool) (m : ℕ)
    → plan_number (if b₁ then Err PlanLength else if b₂ then Err PlanMark else if b₃ then Err NodeCount else if b₄ then Err PlanLength else if b₅ then Err NodeField else Ok m) ≡ 0
    → (b₂ ≡ false) × (b₃ ≡ false) × (b₄ ≡ false) × (b₅ ≡ false)
numbers true b₂ b₃ b₄ b₅ m e = absurd (omega arith)
numbers false true b₃ b₄ b₅ m e = absurd (omega arith)
numbers false false true b₄ b₅ m e = absurd (omega arith)
numbers false false false true b₅ m e = absurd (omega arith)
numbers false false false false true m e = absurd (omega arith)
numbers false false false false false m e = (refl, refl, refl, refl)

pub plan_known-as : (v : Version) (plan : List ℕ) → plan_number (read_plan_as v plan) ≡ 0 → PlanKnownAs v plan
unfolding read_plan_as
plan_known-as v plan e =
    let n = nodes_of plan in
    let f = numbers (ltb (length plan) 6) (not (starts_with (plan_mark v) plan)) (not (leb 1 n && leb n 64)) (not (eqb (length plan) (6 + node_size v * n))) (not (nodes_allowed v n plan)) n e in
    let h = not-false (leb 1 n && leb n 64) f.1 in
    record {
      marked = not-false _ f.0;
      version = marked-version 82 80 84 v plan (not-false _ f.0);
      some = leb-true 1 n (and_left (leb 1 n) (leb n 64) h);
      most = leb-true n 64 (and_right (leb 1 n) (leb n 64) h);
      long = eqb-true _ _ (not-false _ f.2);
      nodes = not-false _ f.3;
    }

-- ---- a plan in its nodes' parts

pub take-drop : (n : ℕ) (s : List ℕ) → s ≡ take n s ++ drop n s
take-drop zero s = refl
take-drop (suc n) [] = refl
take-drop (suc n) (x ∷ s) = ap (◌∷◌ x) (take-drop n s)

-- the bytes of node i, where a node has z bytes
abbrev part_at : ℕ → List ℕ → ℕ → List ℕ
part_at z plan i = take z (drop (6 + z * i) plan)

parts : (z : ℕ) (plan : List ℕ) (n k : ℕ) → length plan ≡ 6 + z * (k + n) → drop (6 + z * k) plan ≡ flat_map (part_at z plan) (upward n k)
parts z plan zero k e = drop_of_length-le plan short
  where
    short : length plan ≤ 6 + z * k
    short = let q : k + 0 ≡ k = omega arith in omega (arith, rw q at e)
parts z plan (suc n) k e =
    let q : k + suc n ≡ suc k + n = omega arith in
    take-drop z (drop (6 + z * k) plan)
    ∙ ap (λ (s : List ℕ). part_at z plan k ++ s) (drop-drop z (6 + z * k) plan ∙ (ap (λ (j : ℕ). drop j plan) (node_next z k) ∙ parts z plan n (suc k) (rw q at e)))

flat_map-upward : (f g : ℕ → List ℕ) (n k : ℕ) → ((j : ℕ) → k ≤ j → j < k + n → f j ≡ g j) → flat_map f (upward n k) ≡ flat_map g (upward n k)
flat_map-upward f g zero k h = refl
flat_map-upward f g (suc n) k h = ap₂ ◌++◌ (h k (omega arith) (omega arith)) (flat_map-upward f g n (suc k) (λ j l m. h j (omega arith) (omega arith)))

-- ---- a plan that is read

module _ (v : Version) (plan : List ℕ) (known : PlanKnownAs v plan) where
  abbrev z : ℕ
  z = node_size v

  -- node i's bytes
  pub part-at : (i : ℕ) → node_part plan i ≡ take (node_size v) (drop (6 + node_size v * i) plan)
  part-at i = rw known.version

  part-long : (i : ℕ) → i < nodes_of plan → length (part_at z plan i) ≡ z
  part-long i h = length-take-le z (drop (6 + z * i) plan) (omega (arith, length-drop (6 + z * i) plan, known.long, node_room z i (nodes_of plan) h))

  part-allowed : (i : ℕ) → i < nodes_of plan → fields_allowed v (part_at z plan i) ≡ true
  unfolding nodes_allowed
  part-allowed i h = ap (fields_allowed v) (sym (part-at i)) ∙ all-at (nodes_of plan) (λ i. fields_allowed v (node_part plan i)) known.nodes i h

  -- node i
  pub node_at_lem : (i : ℕ) → i < nodes_of plan → node_at plan i ≡ node_of v (take (node_size v) (drop (6 + node_size v * i) plan))
  unfolding node_at
  node_at_lem i h =
      let l : 6 + z * i + z ≤ length plan = omega (arith, known.long, node_room z i (nodes_of plan) h) in
      rw (known.version, le-leb (6 + z * i + z) (length plan) l)

  operator-at : (i : ℕ) → i < nodes_of plan → operator_at plan i ≡ operator_of (node_of v (part_at z plan i))
  operator-at i h = ap operator_of (node_at_lem i h)

  pub node_at-bytes-as : (i : ℕ) → i < nodes_of plan → node_bytes_as v (operator_at plan i) ≡ take (node_size v) (drop (6 + node_size v * i) plan)
  node_at-bytes-as i h = ap (node_bytes_as v) (operator-at i h) ∙ node-bytes v (part_at z plan i) (part-long i h) (part-allowed i h)

  plan-start : plan ≡ plan_mark v ++ (nodes_of plan ∷ drop 6 plan)
  plan-start =
      let l : 5 < length plan = omega (arith, known.long, known.some, node_room z 0 (nodes_of plan) known.some, node_least v) in
      starts_take (plan_mark v) plan known.marked ∙ ap (λ (s : List ℕ). plan_mark v ++ s) (drop-cons plan 5 0 l)

  known_bytes : whole_tree plan ≡ true → plan ≡ plan_bytes_as v (plan_of plan)
  unfolding plan_bytes_as
  known_bytes whole =
      let long : length plan ≡ 6 + z * (0 + nodes_of plan) = let q : 0 + nodes_of plan ≡ nodes_of plan = omega arith in rw q known.long in
      let ops : flat_map (node_bytes_as v) (flatten (plan_of plan)) ≡ drop 6 plan =
      ap (flat_map (node_bytes_as v)) (whole-flatten plan whole) ∙ (flat_map-map (node_bytes_as v) (operator_at plan) (upward (nodes_of plan) 0)
      ∙ (flat_map-upward (λ i. node_bytes_as v (operator_at plan i)) (part_at z plan) (nodes_of plan) 0 (λ j l m. node_at-bytes-as j (omega arith))
      ∙ (sym (parts z plan (nodes_of plan) 0 long) ∙ ap (λ (j : ℕ). drop (6 + j) plan) (mul-zero z)))) in
      plan-start ∙ ap₂ (λ (n : ℕ) (s : List ℕ). plan_mark v ++ (n ∷ s)) (sym (whole-size plan whole)) (sym ops)

  -- what every node's operator passes, the tree's do
  known-all : (p : Operator → Bool) → whole_tree plan ≡ true → ((i : ℕ) → i < nodes_of plan → p (operator_at plan i) ≡ true) → all p (flatten (plan_of plan)) ≡ true
  known-all p whole one =
      ap (all p) (whole-flatten plan whole) ∙ (all_map p (operator_at plan) (upward (nodes_of plan) 0)
      ∙ (all-upward (λ i. p (operator_at plan i)) (nodes_of plan) ∙ all-holds (nodes_of plan) (λ i. p (operator_at plan i)) one))

  -- its tree's fields can be written
  known-fields : whole_tree plan ≡ true → Bytes plan → all fields (flatten (plan_of plan)) ≡ true
  known-fields whole bytes = known-all fields whole one
    where
      part_bytes : (i : ℕ) → Bytes (part_at z plan i)
      part_bytes i k = elim (dec_lt k z) [
        | yes l ↦ rw (get_or-take z (drop (6 + z * i) plan) k 0 l, get_or-drop (6 + z * i) plan k 0) (bytes (6 + z * i + k))
        | no l ↦ rw (get_or-eq_default (part_at z plan i) 0 (past l)) (omega arith)
      ]
        where
          past : (k < z → ⊥) → length (part_at z plan i) ≤ k
          past l = omega (arith, length-take z (drop (6 + z * i) plan))

      one : (i : ℕ) → i < nodes_of plan → fields (operator_at plan i) ≡ true
      one i h = ap fields (operator-at i h) ∙ fields-of v (part_at z plan i) (part-long i h) (part-allowed i h) (part_bytes i)

  -- its tests' numbers are in the version's range
  known-within : whole_tree plan ≡ true → all (operator_within v) (flatten (plan_of plan)) ≡ true
  known-within whole =
      known-all (operator_within v) whole
      (λ i h. ap (operator_within v) (operator-at i h) ∙ within_of v (part_at z plan i) (part-long i h) (part-allowed i h))

-- A plan that passes 6 to 10 as version v is the encoding of its tree, byte for byte.
pub plan-bytes : (v : Version) (plan : List ℕ) (n : ℕ) → read_plan_as v plan ≡ Ok n → whole_tree plan ≡ true → plan ≡ plan_bytes_as v (plan_of plan)
plan-bytes v plan n e whole = known_bytes v plan (plan_known-as v plan (ap plan_number e)) whole

-- The fields of its tree can be written, where the plan's bytes are bytes.
pub plan-fields : (v : Version) (plan : List ℕ) (n : ℕ) → read_plan_as v plan ≡ Ok n → whole_tree plan ≡ true → Bytes plan → all fields (flatten (plan_of plan)) ≡ true
plan-fields v plan n e whole bytes = known-fields v plan (plan_known-as v plan (ap plan_number e)) whole bytes

-- The numbers of its tree's tests are in the version's range.
pub plan_within : (v : Version) (plan : List ℕ) (n : ℕ) → read_plan_as v plan ≡ Ok n → whole_tree plan ≡ true → all (operator_within v) (flatten (plan_of plan)) ≡ true
plan_within v plan n e whole = known-within v plan (plan_known-as v plan (ap plan_number e)) whole

-- ---- the way back

-- operators that can be written as version v
record Written (v : Version) (ops : List Operator) : Type 0 where
  fields_all : all fields ops ≡ true
  within_all : all (operator_within v) ops ≡ true

module _ (v : Version) (op : Operator) (ops : List Operator) (w : Written v (op ∷ ops)) where
  first-decoded : Decoded v op
  first-decoded = decoded v op (and_left (fields op) (all fields ops) w.fields_all) (and_left (operator_within v op) (all (operator_within v) ops) w.within_all)

  rest-written : Written v ops
  rest-written =
      record {
        fields_all = and_right (fields op) (all fields ops) w.fields_all;
        within_all = and_right (operator_within v op) (all (operator_within v) ops) w.within_all;
      }

nodes-long : (v : Version) (ops : List Operator) → Written v ops → length (flat_map (node_bytes_as v) ops) ≡ node_size v * length ops
nodes-long v [] w = sym (mul-zero (node_size v))
nodes-long v (op ∷ ops) w =
    let r = nodes-long v ops (rest-written v op ops w) in
    length-append (node_bytes_as v op) (flat_map (node_bytes_as v) ops) ∙ omega (arith, (first-decoded v op ops w).long, mul-suc (node_size v) (length ops))

-- a node whose bytes are an operator's is that operator
operator_read : (v : Version) (plan : List ℕ) (k : ℕ) (op : Operator) → plan_version plan ≡ v → 6 + node_size v * k + node_size v ≤ length plan
    → part_at (node_size v) plan k ≡ node_bytes_as v op → Decoded v op → operator_at plan k ≡ op
unfolding node_at
operator_read v plan k op version long part d =
    rw (version, le-leb (6 + node_size v * k + node_size v) (length plan) long) (ap (λ (s : List ℕ). operator_of (node_of v s)) part ∙ d.kept)

-- from place k on a plan has the bytes of these operators: they are its nodes' there, and allowed
record NodesBack (v : Version) (plan : List ℕ) (ops : List Operator) (k : ℕ) : Type 0 where
  operators : map (operator_at plan) (upward (length ops) k) ≡ ops
  allowed : all (λ i. fields_allowed v (part_at (node_size v) plan i)) (upward (length ops) k) ≡ true

nodes-back : (v : Version) (plan : List ℕ) → plan_version plan ≡ v → (ops : List Operator) (k : ℕ) → Written v ops
    → drop (6 + node_size v * k) plan ≡ flat_map (node_bytes_as v) ops → NodesBack v plan ops k
nodes-back v plan version [] k w e = record { operators = refl; allowed = refl }
nodes-back v plan version (op ∷ ops) k w e =
    let d = first-decoded v op ops w in
    let z : ℕ = node_size v in
    let part : part_at z plan k ≡ node_bytes_as v op = ap (take z) e ∙ take_at (node_bytes_as v op) (flat_map (node_bytes_as v) ops) z d.long in
    let next : drop (6 + z * suc k) plan ≡ flat_map (node_bytes_as v) ops =
    ap (λ (j : ℕ). drop j plan) (sym (node_next z k)) ∙ (sym (drop-drop z (6 + z * k) plan) ∙ (ap (drop z) e ∙ drop_at (node_bytes_as v op) (flat_map (node_bytes_as v) ops) z d.long)) in
    let r = nodes-back v plan version ops (suc k) (rest-written v op ops w) next in
    let long : 6 + z * k + z ≤ length plan = omega (arith, length-drop (6 + z * k) plan, ap length e, length-append (node_bytes_as v op) (flat_map (node_bytes_as v) ops), d.long, node_least v) in
    record {
      operators = ap₂ ◌∷◌ (operator_read v plan k op version long part d) r.operators;
      allowed = rw (part, d.allowed) r.allowed;
    }

nodes-small : (v : Version) (ops : List Operator) → Written v ops → all byte (flat_map (node_bytes_as v) ops) ≡ true
nodes-small v [] w = refl
nodes-small v (op ∷ ops) w =
    let r = nodes-small v ops (rest-written v op ops w) in
    all-joined byte (node_bytes_as v op) (flat_map (node_bytes_as v) ops) ∙ rw ((first-decoded v op ops w).small, r)

all_small : (s : List ℕ) → all byte s ≡ true → Bytes s
all_small [] h k = omega arith
all_small (x ∷ s) h zero = ltb-true x 256 (and_left (byte x) (all byte s) h)
all_small (x ∷ s) h (suc k) = all_small s (and_right (byte x) (all byte s) h) k

starts_mark : (v : Version) (s : List ℕ) → starts_with (plan_mark v) (plan_mark v ++ s) ≡ true
unfolding starts_with
starts_mark v s = rw (eq-eqb (version_number v) (version_number v) refl)

module _ (v : Version) (p : Plan) (small : size p ≤ 64) (written : Written v (flatten p)) where
  abbrev bytes : List ℕ
  bytes = plan_bytes_as v p

  back-nodes : nodes_of bytes ≡ size p
  unfolding plan_bytes_as
  back-nodes = refl

  back_long : length bytes ≡ 6 + node_size v * size p
  unfolding plan_bytes_as
  back_long = omega (arith, nodes-long v (flatten p) written, ap (λ (n : ℕ). node_size v * n) (flatten-length p))

  back-version : plan_version bytes ≡ v
  unfolding plan_bytes_as
  back-version = marked-version 82 80 84 v bytes (starts_mark v (size p ∷ flat_map (node_bytes_as v) (flatten p)))

  back-all : NodesBack v bytes (flatten p) 0
  unfolding plan_bytes_as
  back-all = nodes-back v bytes back-version (flatten p) 0 written (ap (λ (j : ℕ). drop (6 + j) bytes) (mul-zero (node_size v)))

  back-allowed : nodes_allowed v (size p) bytes ≡ true
  unfolding nodes_allowed
  back-allowed =
      rw back-version (sym (all-upward (λ i. fields_allowed v (part_at (node_size v) bytes i)) (size p)) ∙ (rw (flatten-length p) at back-all.allowed))

  back-mark : starts_with (plan_mark v) bytes ≡ true
  unfolding plan_bytes_as
  back-mark = starts_mark v (size p ∷ flat_map (node_bytes_as v) (flatten p))

  back_read : read_plan_as v bytes ≡ Ok (size p)
  unfolding read_plan_as
  back_read =
      let l : 6 ≤ length bytes = omega (arith, back_long) in
      rw (le-ltb _ _ l, back-mark, back-nodes, le-leb 1 (size p) (size-positive p), le-leb _ _ small, eq-eqb _ _ back_long, back-allowed)

  back-bytes : Bytes bytes
  unfolding plan_bytes_as
  back-bytes = all_small bytes (rw (lt-ltb (version_number v) 256 (number_small v), lt-ltb (size p) 256 (omega arith), nodes-small v (flatten p) written))

  back-tree : (plan_of bytes ≡ p) × (whole_tree bytes ≡ true)
  back-tree = flatten-whole bytes p (rw back-nodes (rw (flatten-length p) at back-all.operators))

-- The encoding of a tree that can be written as version v is read as version v, whole, and that tree's.
pub bytes_plan_as : (v : Version) (p : Plan) → size p ≤ 64 → all fields (flatten p) ≡ true → all (operator_within v) (flatten p) ≡ true
    → (read_plan_as v (plan_bytes_as v p) ≡ Ok (size p)) × (plan_of (plan_bytes_as v p) ≡ p) × (whole_tree (plan_bytes_as v p) ≡ true)
bytes_plan_as v p small f w =
    let written : Written v (flatten p) = record { fields_all = f; within_all = w } in
    let t = back-tree v p small written in
    (back_read v p small written, t.0, t.1)

-- Its bytes are bytes.
pub bytes-small-as : (v : Version) (p : Plan) → size p ≤ 64 → all fields (flatten p) ≡ true → all (operator_within v) (flatten p) ≡ true → Bytes (plan_bytes_as v p)
bytes-small-as v p small f w = back-bytes v p small (record { fields_all = f; within_all = w })

-- ---- version 2: every tree whose fields can be written

pub plan_known : (plan : List ℕ) → plan_number (read_plan plan) ≡ 0 → PlanKnown plan
plan_known plan e = plan_known-as Second plan e

pub node_at-bytes : (plan : List ℕ) → PlanKnown plan → (i : ℕ) → i < nodes_of plan → node_bytes (operator_at plan i) ≡ take 32 (drop (6 + 32 * i) plan)
node_at-bytes plan known i h = node_at-bytes-as Second plan known i h

all-second : (ops : List Operator) → all fields ops ≡ true → all (operator_within Second) ops ≡ true
all-second [] h = refl
all-second (op ∷ ops) h =
    rw (within-second op (and_left (fields op) (all fields ops) h), all-second ops (and_right (fields op) (all fields ops) h))

pub bytes_plan : (p : Plan) → size p ≤ 64 → all fields (flatten p) ≡ true
    → (read_plan (plan_bytes p) ≡ Ok (size p)) × (plan_of (plan_bytes p) ≡ p) × (whole_tree (plan_bytes p) ≡ true)
bytes_plan p small f = bytes_plan_as Second p small f (all-second (flatten p) f)

pub bytes_small : (p : Plan) → size p ≤ 64 → all fields (flatten p) ≡ true → Bytes (plan_bytes p)
bytes_small p small f = bytes-small-as Second p small f (all-second (flatten p) f)

-- ---- accepted bytes and trees that pass are the same

or-next : (a b : ℕ) → or_next a b ≡ 0 → (a ≡ 0) × (b ≡ 0)
or-next zero b e = (refl, e)
or-next (suc a) b e = absurd (omega arith)

whole_if : (b : Bool) → ◌≡◌ {A = ℕ} (if b then 0 else 10) 0 → b ≡ true
whole_if true e = refl
whole_if false e = absurd (omega arith)

-- what is known of a plan that 6 to 14 do not turn back
pub record PlanPassedAs (v : Version) (set plan : List ℕ) : Type 0 where
  pub known : PlanKnownAs v plan
  pub whole : whole_tree plan ≡ true
  pub unrefused : refusal (tables_as v set) (plan_of plan) ≡ 0

abbrev pub PlanPassed : List ℕ → List ℕ → Type 0
PlanPassed set plan = PlanPassedAs Second set plan

pub plan_passed-as : (v : Version) (set plan : List ℕ) → plan_refusal_as v set plan ≡ 0 → PlanPassedAs v set plan
unfolding plan_refusal_as
plan_passed-as v set plan e =
    let a = or-next (plan_number (read_plan_as v plan)) (or_next (tree_number plan) (refusal (tables_as v set) (plan_of plan))) e in
    let b = or-next (tree_number plan) (refusal (tables_as v set) (plan_of plan)) a.1 in
    record { known = plan_known-as v plan a.0; whole = whole_if (whole_tree plan) b.0; unrefused = b.1 }

pub plan_passed : (set plan : List ℕ) → plan_refusal set plan ≡ 0 → PlanPassed set plan
plan_passed set plan e = plan_passed-as Second set plan e

-- An accepted plan is the encoding of its tree, byte for byte.
pub accepted-bytes : (set plan : List ℕ) → plan_refusal set plan ≡ 0 → plan ≡ plan_bytes (plan_of plan)
accepted-bytes set plan e = let a = plan_passed set plan e in known_bytes Second plan a.known a.whole

-- An accepted plan's tree passes.
pub accepted-passes : (set plan : List ℕ) → plan_refusal set plan ≡ 0 → Bytes plan → passes (tables_of set) (plan_of plan) ≡ true
unfolding passes
accepted-passes set plan e bytes =
    let a = plan_passed set plan e in
    let small : size (plan_of plan) ≤ 64 = omega (arith, whole-size plan a.whole, a.known.most) in
    rw (le-leb _ _ small, known-fields Second plan a.known a.whole bytes, eq-eqb _ _ a.unrefused)

-- A tree that passes is accepted as its bytes, which are read as that tree.
pub passes-accepted : (set : List ℕ) (p : Plan) → passes (tables_of set) p ≡ true → (plan_refusal set (plan_bytes p) ≡ 0) × (plan_of (plan_bytes p) ≡ p)
unfolding plan_refusal_as
passes-accepted set p h =
    let b = bytes_plan p (passes-size (tables_of set) p h) (passes-fields (tables_of set) p h) in
    (rw (b.0, b.2, b.1) (passes-refusal (tables_of set) p h), b.1)

-- A set's accepted plans are the encodings of the trees that pass over its tables, and nothing else.
pub record AcceptedPlans (set : List ℕ) : Type 0 where
  pub tree : (plan : List ℕ) → Bytes plan → plan_refusal set plan ≡ 0 → passes (tables_of set) (plan_of plan) ≡ true
  pub encoding : (plan : List ℕ) → plan_refusal set plan ≡ 0 → plan_bytes (plan_of plan) ≡ plan
  pub bytes : (p : Plan) → passes (tables_of set) p ≡ true → Bytes (plan_bytes p)
  pub accepted : (p : Plan) → passes (tables_of set) p ≡ true → plan_refusal set (plan_bytes p) ≡ 0
  pub back : (p : Plan) → passes (tables_of set) p ≡ true → plan_of (plan_bytes p) ≡ p

pub accepted_plans : (set : List ℕ) → AcceptedPlans set
accepted_plans set =
    record {
      tree = λ plan b e. accepted-passes set plan e b;
      encoding = λ plan e. sym (accepted-bytes set plan e);
      bytes = λ p h. bytes_small p (passes-size (tables_of set) p h) (passes-fields (tables_of set) p h);
      accepted = λ p h. (passes-accepted set p h).0;
      back = λ p h. (passes-accepted set p h).1;
    }
