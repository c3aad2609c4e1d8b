-- The plan after a rule at a place, over bytes: it is read from the bytes written, and whether they are accepted tells whether the rule fits.
-- Assumes nothing.
use Rattle.std.specs.Prelude.{Ok, Err}
use Prim.Native.Nat.{ℕ, suc, ◌+◌, ◌*◌, ◌≤◌, ◌<◌}
use mathlib.Core.Bool.{Bool, true, false, cond}
use mathlib.Core.Path.{◌≡◌, refl, sym, ap, ap₂, ◌∙◌}
use mathlib.Core.Logic.{◌≢◌}
use mathlib.Core.List.{List, [], ◌∷◌, ◌++◌, append_assoc}
use mathlib.Core.Option.{Option, none, some, map, none-ne-some}
use native.Mathlib.Omega.{arith}
use lib.ListN.{length, length-append, take, drop, replicate}
use lib.Seq.{take_at, drop_at, length-take-le}
use borrow.Author.Tests.{eq-eqb, le-leb}
use Rattle.algebra.specs.Lists.{flat_map}
use Rattle.algebra.specs.Plans.{Tables, always, columns_of, number_of, Test, test, unit, scan, select, project, distinct, group, sort, cross, semi, quant, fold, each, pair, Plan}
use Rattle.algebra.specs.Places.{Operator, leaf_node, unary_node, binary_node, size, flatten, modify, look}
use Rattle.algebra.specs.Refusals.{refusal, need, passes}
use Rattle.algebra.specs.Rules.{sequenced, rule_of, rule, number_at, fresh}
use Rattle.algebra.specs.Steps.{Step, accepted, attempt}
use Rattle.algebra.specs.StayNotes.{Sequences, nothing, sequences_of, comparing, stays, noted, note_at}
use Rattle.algebra.proofs.Places.{flatten-length}
use Rattle.algebra.proofs.Refusals.{passes-fields}
use Rattle.algebra.proofs.Steps.{modify-past}
use Rattle.reading.specs.TableSet.{tables_of}
use Rattle.reading.specs.Plan.{plan_mark, nodes_of}
use Rattle.reading.specs.Tree.{plan_at, plan_of, whole_tree}
use Rattle.reading.specs.Encoding.{test_bytes, no_test, list_bytes, field_bytes, node_bytes, node_bytes_as, plan_bytes, plan_bytes_as}
use Rattle.reading.specs.Check.{input_refusal, check_of}
use Rattle.reading.specs.declared.input.Accepted.{Accepted}
use Rattle.reading.specs.declared.refusal.Refusal.{Refusal}
use Rattle.reading.proofs.Places.{whole-size, flat_map-joined}
use Rattle.reading.proofs.PlanBytes.{PlanKnown, plan_passed, bytes_plan, passes-accepted}
use Rattle.reading.specs.declared.version.Version.TheVariants.{Second}
use Rattle.reporting.proofs.Reports.{refused-input, accepted-input}
use Rattle.unnesting.specs.Shapes.{shape, ready, node_slice, more_bytes, changed_bytes, changed_count, Makes}
use Rattle.unnesting.specs.Images.{image}
use Rattle.unnesting.specs.Attempts.{possible, Left}
use Rattle.unnesting.specs.declared.change.Change.{Change}
use Rattle.unnesting.proofs.PlaceLaws.{slice_join, slice_long, slice_at, inside-at}
use Rattle.unnesting.proofs.Demand3.{input-parts, input-from}
use Rattle.unnesting.proofs.StandLaws.{Stands, stands_at}
use Rattle.unnesting.proofs.ShapeLaws.{unnest-shape, stays-shape, rule-number, Written, modify-fields}

-- ---- a plan that may be passed is read from its bytes

-- a plan whose fields can be written passes where its bytes are accepted, and only there
pub record CandidateChecked (set : List ℕ) (q : Plan) : Type 0 where
  pub passed : input_refusal set (plan_bytes q) ≡ 0 → (passes (tables_of set) q ≡ true) × (plan_of (plan_bytes q) ≡ q)
  pub accepts : passes (tables_of set) q ≡ true → input_refusal set (plan_bytes q) ≡ 0
  pub refused : input_refusal set (plan_bytes q) ≢ 0 → passes (tables_of set) q ≡ false

pub candidate_checked : (set plan : List ℕ) (q : Plan) → input_refusal set plan ≡ 0 → Written q → CandidateChecked set q
unfolding plan_bytes_as passes
candidate_checked set plan q e h =
    let accepts : passes (tables_of set) q ≡ true → input_refusal set (plan_bytes q) ≡ 0 = λ g. input-from set (plan_bytes q) (input-parts set plan e).0 (passes-accepted set q g).0 in
    record {
      passed = λ z.
          let a = plan_passed set (plan_bytes q) (input-parts set (plan_bytes q) z).1 in
          let small : size q ≤ 64 = a.known.most in
          let b : plan_of (plan_bytes q) ≡ q = (bytes_plan q small h).1 in
          (rw (le-leb (size q) 64 small, h, eq-eqb (refusal (tables_of set) q) 0 (ap (refusal (tables_of set)) (sym b) ∙ a.unrefused)), b);
      accepts = accepts;
      refused = λ z. go (passes (tables_of set) q) refl (λ g. z (accepts g));
    }
  where
    go : (b : Bool) → passes (tables_of set) q ≡ b → (passes (tables_of set) q ≡ true → ⊥) → b ≡ false
    go true g z = absurd (z g)
    go false g z = refl

-- ---- the bytes of the plan after a change

test-bytes-long : (t : Test) → length (test_bytes Second t) ≡ 16
test-bytes-long (test m always) = refl
test-bytes-long (test m (columns_of c l r)) = refl
test-bytes-long (test m (number_of c l w)) = refl

list-bytes-long : (ids : List ℕ) → length (list_bytes ids) ≡ 8
list-bytes-long ids = ap suc (length-take-le 7 (ids ++ replicate 7 0) (omega (arith, length-append ids (replicate 7 0))))

parts-long : (list tail : List ℕ) → length list ≡ 8 → length tail ≡ 16 → length (field_bytes 0 0 0 0 0 0 0 ++ (list ++ tail)) ≡ 32
parts-long list tail h g = omega (arith, length-append list tail)

-- a node has 32 bytes, also where its fields cannot be written
node_long : (op : Operator) → length (node_bytes op) ≡ 32
unfolding node_bytes_as
node_long (leaf_node unit) = refl
node_long (leaf_node (scan t n)) = refl
node_long (unary_node (select t)) = parts-long (list_bytes []) (test_bytes Second t) refl (test-bytes-long t)
node_long (unary_node (project ids)) = parts-long (list_bytes ids) (no_test Second) (list-bytes-long ids) refl
node_long (unary_node (distinct ids)) = parts-long (list_bytes ids) (no_test Second) (list-bytes-long ids) refl
node_long (unary_node (group g n l r c t)) = parts-long (list_bytes []) (test_bytes Second t) refl (test-bytes-long t)
node_long (unary_node (sort d ids)) = parts-long (list_bytes ids) (no_test Second) (list-bytes-long ids) refl
node_long (binary_node cross) = refl
node_long (binary_node (semi m l r t)) = parts-long (list_bytes []) (test_bytes Second t) refl (test-bytes-long t)
node_long (binary_node (quant m t)) = parts-long (list_bytes []) (test_bytes Second t) refl (test-bytes-long t)
node_long (binary_node (fold g n t)) = parts-long (list_bytes []) (test_bytes Second t) refl (test-bytes-long t)
node_long (binary_node each) = refl
node_long (binary_node (pair g n l r c t)) = parts-long (list_bytes []) (test_bytes Second t) refl (test-bytes-long t)

pub nodes-long : (ops : List Operator) → length (flat_map node_bytes ops) ≡ 32 * length ops
nodes-long [] = refl
nodes-long (op ∷ ops) = length-append (node_bytes op) (flat_map node_bytes ops) ∙ omega (arith, node_long op, nodes-long ops)

-- two lists cut at the same length
cut-same : (xs ys zs ws : List ℕ) → length xs ≡ length zs → xs ++ ys ≡ zs ++ ws → (xs ≡ zs) × (ys ≡ ws)
cut-same xs ys zs ws h e = (
  sym (take_at xs ys (length zs) h) ∙ (ap (take (length zs)) e ∙ take_at zs ws (length zs) refl),
  sym (drop_at xs ys (length zs) h) ∙ (ap (drop (length zs)) e ∙ drop_at zs ws (length zs) refl),
)

-- the bytes around the tree at a place are the plan's
record Around (plan : List ℕ) (i : ℕ) (left right : List Operator) : Type 0 where
  before : flat_map node_bytes left ≡ node_slice plan 0 i
  past : flat_map node_bytes right ≡ node_slice plan (i + size (plan_at plan i)) (nodes_of plan)

around : (plan : List ℕ) → PlanKnown plan → whole_tree plan ≡ true → (i : ℕ) → i < nodes_of plan → (s : Stands (plan_of plan) i (plan_at plan i))
    → Around plan i s.left s.right
around plan known whole i h s =
    let q = plan_at plan i in
    let n = nodes_of plan in
    let inside : i + size q ≤ n = inside-at plan whole i h in
    let z : 0 + size (plan_of plan) ≡ n = omega (arith, whole-size plan whole) in
    let joined : flat_map node_bytes s.left ++ (flat_map node_bytes (flatten q) ++ flat_map node_bytes s.right) ≡ node_slice plan 0 n =
    sym (flat_map-joined node_bytes s.left (flatten q ++ s.right) ∙ ap (λ (r : List ℕ). flat_map node_bytes s.left ++ r) (flat_map-joined node_bytes (flatten q) s.right))
    ∙ (ap (flat_map node_bytes) (sym s.was) ∙ (slice_at plan known 0 (omega arith) ∙ ap (node_slice plan 0) z)) in
    let first = cut-same (flat_map node_bytes s.left) (flat_map node_bytes (flatten q) ++ flat_map node_bytes s.right) (node_slice plan 0 i) (node_slice plan i n)
    (nodes-long s.left ∙ (ap (λ (k : ℕ). 32 * k) s.at ∙ sym (slice_long plan 0 i known.long (omega arith) (omega arith) ∙ omega arith)))
    (joined ∙ sym (slice_join plan 0 i n (omega arith) (omega arith))) in
    let second = cut-same (flat_map node_bytes (flatten q)) (flat_map node_bytes s.right) (node_slice plan i (i + size q)) (node_slice plan (i + size q) n)
    (ap length (slice_at plan known i inside)) (first.1 ∙ sym (slice_join plan i (i + size q) n (omega arith) inside)) in
    record { before = first.0; past = second.1 }

module _ (T : Tables) (c : Option ℕ) (plan : List ℕ) (i : ℕ) (change : Change) (known : PlanKnown plan) (whole : whole_tree plan ≡ true) (m : Makes T c plan i change) where
  -- the plan after the change
  abbrev standing : Stands (plan_of plan) i (plan_at plan i)
  standing = stands_at plan whole i m.inside.place

  abbrev plan_after : Plan
  plan_after = standing.put m.made

  after-nodes : flat_map node_bytes (flatten plan_after) ≡ changed_bytes plan i change
  after-nodes =
      let s = standing in
      let a = around plan known whole i m.inside.place s in
      let end = i + size (plan_at plan i) in
      let kept = node_slice plan (i + 1) change.keep in
      let inside : end ≤ nodes_of plan = inside-at plan whole i m.inside.place in
      let joined : (image change.first ++ (kept ++ (more_bytes change.more ++ node_slice plan change.from end))) ++ node_slice plan end (nodes_of plan)
      ≡ image change.first ++ (kept ++ (more_bytes change.more ++ (node_slice plan change.from end ++ node_slice plan end (nodes_of plan)))) = simp append_assoc in
      ap (flat_map node_bytes) (s.becomes m.made) ∙ (flat_map-joined node_bytes s.left (flatten m.made ++ s.right)
      ∙ ap₂ ◌++◌ a.before (flat_map-joined node_bytes (flatten m.made) s.right
      ∙ (ap₂ ◌++◌ m.bytes a.past
      ∙ (joined ∙ ap (λ (r : List ℕ). image change.first ++ (kept ++ (more_bytes change.more ++ r))) (slice_join plan change.from end (nodes_of plan) m.before inside)))))

  after-bytes : length (changed_bytes plan i change) ≡ 32 * changed_count plan i change → plan_mark Second ++ (changed_count plan i change ∷ changed_bytes plan i change) ≡ plan_bytes plan_after
  unfolding plan_bytes_as
  after-bytes long =
      let n : 32 * size plan_after ≡ 32 * changed_count plan i change =
      ap (λ (k : ℕ). 32 * k) (sym (flatten-length plan_after)) ∙ (sym (nodes-long (flatten plan_after)) ∙ (ap length after-nodes ∙ long)) in
      let k : changed_count plan i change ≡ size plan_after = omega arith in
      ap₂ (λ (x : ℕ) (s : List ℕ). plan_mark Second ++ (x ∷ s)) k (sym after-nodes)

-- ---- the rule at a place

-- a choice goes through what the refusals leave
accepted-cond : (T : Tables) (put : Plan → Plan) (b : Bool) (o : Option Plan) → accepted T (map put (cond b o none)) ≡ cond b (accepted T (map put o)) none
accepted-cond T put true o = refl
accepted-cond T put false o = refl

noted-cond : (T : Tables) (put : Plan → Plan) (x : Sequences) (a b : Bool) (o : Option Plan)
    → noted x (accepted T (map put (cond a (cond b none o) none))) ≡ cond a (cond b none (noted x (accepted T (map put o)))) none
noted-cond T put x true true o = refl
noted-cond T put x true false o = refl
noted-cond T put x false b o = refl

-- past the last node no rule fits, and there is no note
pub attempt-past : (T : Tables) (p : Plan) (s : Step) → size p ≤ s.place → attempt T s p ≡ none
unfolding attempt
attempt-past T p s h = ap (accepted T) (modify-past (rule T (sequenced T) (fresh T p) s.number) p s.place h)

pub note_past : (T : Tables) (p : Plan) (i : ℕ) → size p ≤ i → note_at T p i ≡ none
unfolding note_at
note_past T p i h = ap (λ (o : Option Plan). noted (look (sequences_of T) nothing p i) (accepted T o)) (modify-past (stays T (fresh T p)) p i h)

module _ (set plan : List ℕ) (input : input_refusal set plan ≡ 0) (i : ℕ) (inside : i < nodes_of plan) where
  whole-input : whole_tree plan ≡ true
  whole-input = (plan_passed set plan (input-parts set plan input).1).whole

  here : Stands (plan_of plan) i (plan_at plan i)
  here = stands_at plan whole-input i inside

  pub number-at : number_at (plan_of plan) i ≡ rule_of (plan_at plan i)
  number-at = here.looked rule_of 0

  possible-by : possible (tables_of set) (plan_of plan) i ≡ accepted (tables_of set) (map here.put (shape (tables_of set) (fresh (tables_of set) (plan_of plan)) (plan_at plan i)))
  possible-by = ap (accepted (tables_of set)) (here.changed (shape (tables_of set) (fresh (tables_of set) (plan_of plan))))

  -- a rule fits where the plan alone allows it and rows do not stand against it
  pub attempt-possible : attempt (tables_of set) (record { number = number_at (plan_of plan) i; place = i }) (plan_of plan)
      ≡ cond (ready (tables_of set) (plan_at plan i)) (possible (tables_of set) (plan_of plan) i) none
  unfolding attempt
  attempt-possible =
      let T = tables_of set in
      let p = plan_of plan in
      let q = plan_at plan i in
      ap (λ (u : ℕ). accepted T (modify (rule T (sequenced T) (fresh T p) u) p i)) number-at
      ∙ (ap (accepted T) (here.changed (rule T (sequenced T) (fresh T p) (rule_of q)) ∙ ap (map here.put) (rule-number T (sequenced T) (fresh T p) q ∙ unnest-shape T (fresh T p) q))
      ∙ (accepted-cond T here.put (ready T q) (shape T (fresh T p) q) ∙ ap (λ (o : Option Plan). cond (ready T q) o none) (sym possible-by)))

  -- a note is due where it is one of U3, U4 and U6 and rows alone stand against it
  pub note_possible : note_at (tables_of set) (plan_of plan) i
      ≡ cond (comparing (rule_of (plan_at plan i))) (cond (ready (tables_of set) (plan_at plan i)) none (noted (sequences_of (tables_of set) (plan_at plan i)) (possible (tables_of set) (plan_of plan) i))) none
  unfolding note_at
  note_possible =
      let T = tables_of set in
      let p = plan_of plan in
      let q = plan_at plan i in
      ap₂ (λ (x : Sequences) (o : Option Plan). noted x (accepted T o)) (here.looked (sequences_of T) nothing)
      (here.changed (stays T (fresh T p)) ∙ ap (map here.put) (stays-shape T (fresh T p) q))
      ∙ (noted-cond T here.put (sequences_of T q) (comparing (rule_of q)) (ready T q) (shape T (fresh T p) q)
      ∙ ap (λ (o : Option Plan). cond (comparing (rule_of q)) (cond (ready T q) none (noted (sequences_of T q) o)) none) (sym possible-by))

  pub possible-none : shape (tables_of set) (fresh (tables_of set) (plan_of plan)) (plan_at plan i) ≡ none → possible (tables_of set) (plan_of plan) i ≡ none
  possible-none e = possible-by ∙ ap (λ (o : Option Plan). accepted (tables_of set) (map here.put o)) e

  pub possible-shape : (q : Plan) → possible (tables_of set) (plan_of plan) i ≡ some q → shape (tables_of set) (fresh (tables_of set) (plan_of plan)) (plan_at plan i) ≢ none
  possible-shape q e z = none-ne-some q (sym (possible-none z) ∙ e)

-- The plan after a change at place i, as the bytes that are written: whether they are accepted tells whether it passes.
pub record Candidate (set plan : List ℕ) (i : ℕ) (change : Change) : Type 0 where
  pub after : Plan
  pub bytes : plan_mark Second ++ (changed_count plan i change ∷ changed_bytes plan i change) ≡ plan_bytes after
  pub read : input_refusal set (plan_bytes after) ≡ 0 → (passes (tables_of set) after ≡ true) × (plan_of (plan_bytes after) ≡ after)
  pub turned : input_refusal set (plan_bytes after) ≢ 0 → possible (tables_of set) (plan_of plan) i ≡ none
  pub taken : input_refusal set (plan_bytes after) ≡ 0 → possible (tables_of set) (plan_of plan) i ≡ some after

pub candidate : (set plan : List ℕ) (i : ℕ) (change : Change) → input_refusal set plan ≡ 0 → passes (tables_of set) (plan_of plan) ≡ true
    → Makes (tables_of set) (fresh (tables_of set) (plan_of plan)) plan i change → length (changed_bytes plan i change) ≡ 32 * changed_count plan i change
    → Candidate set plan i change
candidate set plan i change input tree m long =
    let T = tables_of set in
    let p = plan_of plan in
    let c = fresh T p in
    let a = plan_passed set plan (input-parts set plan input).1 in
    let s = standing T c plan i change a.known a.whole m in
    let made = m.made in
    let is : modify (shape T c) p i ≡ some (s.put made) = s.changed (shape T c) ∙ ap (map s.put) m.is in
    let k = candidate_checked set plan (s.put made) input (modify-fields T p (s.put made) i (passes-fields T p tree) is) in
    record {
      after = s.put made;
      bytes = after-bytes T c plan i change a.known a.whole m long;
      read = k.passed;
      turned = λ z. ap (accepted T) is ∙ rw (k.refused z);
      taken = λ z. ap (accepted T) is ∙ rw (k.passed z).0;
    }

-- ---- the plan after a change, written and checked

-- what a full front of a buffer says of the length of its bytes
written-long : (buffer bytes : List ℕ) (long count : ℕ) → long ≤ length buffer → long ≡ 6 + 32 * count → take long buffer ≡ plan_mark Second ++ (count ∷ bytes) → length bytes ≡ 32 * count
written-long buffer bytes long count h e q = omega (arith, length-take-le long buffer h, ap length q)

module _ (set plan : List ℕ) (i : ℕ) (change : Change) (input : input_refusal set plan ≡ 0) (tree : passes (tables_of set) (plan_of plan) ≡ true)
    (made : Makes (tables_of set) (fresh (tables_of set) (plan_of plan)) plan i change) (buffer : List ℕ) (long : ℕ) (room : length buffer ≡ 2086)
    (ends : long ≡ 6 + 32 * changed_count plan i change) (written : take long buffer ≡ plan_mark Second ++ (changed_count plan i change ∷ changed_bytes plan i change))
  where
    pub written-fits : long ≤ 2086
    written-fits = omega (arith, made.inside.count)

    written-candidate : Candidate set plan i change
    written-candidate = candidate set plan i change input tree made (written-long buffer (changed_bytes plan i change) long (changed_count plan i change) (omega (arith, written-fits)) ends written)

    pub tried-no : (k : Refusal) → check_of set (take long buffer) ≡ Err k → possible (tables_of set) (plan_of plan) i ≡ none
    tried-no k e =
        let c = written-candidate in
        let b : take long buffer ≡ plan_bytes c.after = written ∙ c.bytes in
        let (f, p) = refused-input set (take long buffer) k e in
        c.turned (λ z. let q : input_refusal set (take long buffer) ≡ 0 = ap (input_refusal set) b ∙ z in absurd (omega arith))

    pub tried_yes : (a : Accepted) → check_of set (take long buffer) ≡ Ok a → Left set buffer (possible (tables_of set) (plan_of plan) i) long a.need
    tried_yes given e =
        let c = written-candidate in
        let b : take long buffer ≡ plan_bytes c.after = written ∙ c.bytes in
        let (f, n) = accepted-input set (take long buffer) given e in
        let z : input_refusal set (plan_bytes c.after) ≡ 0 = ap (input_refusal set) (sym b) ∙ f in
        let a = plan_passed set (plan_bytes c.after) (input-parts set (plan_bytes c.after) z).1 in
        let l : length (take long buffer) ≡ long = length-take-le long buffer (omega (arith, written-fits)) in
        record {
          after = c.after;
          is = c.taken z;
          stored = record {
            bytes = b;
            short = omega (arith, l, ap length b, a.known.long, a.known.most);
            allowed = z;
            passed = (c.read z).0;
            read = (c.read z).1;
            needed = n ∙ ap (λ (s : List ℕ). need (tables_of set) (plan_of s)) b ∙ ap (need (tables_of set)) (c.read z).1;
          };
        }
