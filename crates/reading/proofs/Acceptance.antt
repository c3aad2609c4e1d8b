-- The whole check by its parts, and what acceptance gives. Assumes nothing.
use Rattle.std.specs.Prelude.{if◌then◌else◌, Result, Ok, Err}
use Prim.Native.Nat.{ℕ, zero, suc, ◌+◌, ◌*◌, ◌≤◌, ◌<◌}
use mathlib.Core.Bool.{Bool, true, false, not, ◌&&◌, and-eq-true_iff}
use mathlib.Core.Path.{◌≡◌, refl, ap, sym, ◌∙◌}
use mathlib.Core.List.{List, [], ◌∷◌, map}
use native.Mathlib.Omega.{arith}
use native.Mathlib.Nat.{mul-le-mul}
use lib.Dec.{eqb, ltb, leb}
use lib.ListN.{length}
use borrow.Author.Tests.{leb-true}
use Rattle.algebra.specs.Lists.{all, total}
use Rattle.algebra.specs.Plans.{Tables, Plan}
use Rattle.algebra.specs.Places.{flatten, subtrees}
use Rattle.algebra.specs.Names.{introduced}
use Rattle.algebra.specs.Refusals.{refusal, need, share, bound, width, found, once, in_view, narrow, low}
use Rattle.algebra.proofs.Places.{subtrees-length}
use Rattle.algebra.proofs.Needs.{share-most}
use Rattle.algebra.proofs.Refusals.{refusal-none, refusal_0, refusal_11, refusal_12, refusal_13, refusal_14}
use Rattle.reading.specs.Bytes.{starts_with, all_below}
use Rattle.reading.specs.Refusals.{refusal_number, refusal_of, number_of}
use Rattle.reading.specs.TableSet.{read_set_as, read_set, amount_of, known_tables, tables_as, tables_of}
use Rattle.reading.specs.Versions.{node_size}
use Rattle.reading.specs.declared.version.Version.{Version}
use Rattle.reading.specs.declared.version.Version.TheVariants.{Second}
use Rattle.reading.specs.Plan.{read_plan_as, nodes_of, plan_mark, nodes_allowed}
use Rattle.reading.specs.Tree.{operator_at, plan_at, plan_of, whole_tree}
use Rattle.reading.specs.Nodes.{ids_of}
use Rattle.reading.specs.Check.{set_number, plan_number, or_next, tree_number, refusal_over_as, plan_refusal_as, input_refusal_as, checked_number, answer, check_as, check_over_as, check_of, check_over}
use Rattle.reading.specs.declared.refusal.Refusal.{Refusal}
use Rattle.reading.specs.declared.refusal.Refusal.TheVariants.{TableShort, TableMark, TableSize, CellCode, SetLong, PlanLength, PlanMark, NodeCount, NodeField, Tree, NoTable, Id, RowWide, BoundHigh, OutputShort, ScratchShort, Shares, FewColumns, StepList, StepUnfit, NumberWide}
use Rattle.reading.specs.declared.input.Accepted.{Accepted}
use Rattle.reading.proofs.Laws.{err-ok, ok-is}
use Rattle.reading.proofs.Places.{whole-size, whole-found, whole-introduced, whole-all}
use Rattle.reading.proofs.PlanBytes.{plan_known-as}
use Rattle.reading.proofs.Amounts.{introduced-amount, view_amount, narrow-amount, low-amount, need-amount}

-- ---- the number of a refusal, and the refusal of a number

pub number-positive : (r : Refusal) → 0 < refusal_number r
number-positive r = elim r as (λ k. 0 < refusal_number k) [
  | TableShort ↦ omega arith
  | TableMark ↦ omega arith
  | TableSize ↦ omega arith
  | CellCode ↦ omega arith
  | SetLong ↦ omega arith
  | PlanLength ↦ omega arith
  | PlanMark ↦ omega arith
  | NodeCount ↦ omega arith
  | NodeField ↦ omega arith
  | Tree ↦ omega arith
  | NoTable ↦ omega arith
  | Id ↦ omega arith
  | RowWide ↦ omega arith
  | BoundHigh ↦ omega arith
  | OutputShort ↦ omega arith
  | ScratchShort ↦ omega arith
  | Shares ↦ omega arith
  | FewColumns ↦ omega arith
  | StepList ↦ omega arith
  | StepUnfit ↦ omega arith
  | NumberWide ↦ omega arith
]

pub number-back : (r : Refusal) → refusal_of (refusal_number r) ≡ r
unfolding refusal_of
number-back r = elim r as (λ k. refusal_of (refusal_number k) ≡ k) [
  | TableShort ↦ refl
  | TableMark ↦ refl
  | TableSize ↦ refl
  | CellCode ↦ refl
  | SetLong ↦ refl
  | PlanLength ↦ refl
  | PlanMark ↦ refl
  | NodeCount ↦ refl
  | NodeField ↦ refl
  | Tree ↦ refl
  | NoTable ↦ refl
  | Id ↦ refl
  | RowWide ↦ refl
  | BoundHigh ↦ refl
  | OutputShort ↦ refl
  | ScratchShort ↦ refl
  | Shares ↦ refl
  | FewColumns ↦ refl
  | StepList ↦ refl
  | StepUnfit ↦ refl
  | NumberWide ↦ refl
]

-- ---- the node count of a plan that was read

count_by : (b₁ b₂ b₃ b₄ b₅ : Bool) (m n : ℕ)
    → (if b₁ then Err PlanLength else if b₂ then Err PlanMark else if b₃ then Err NodeCount else if b₄ then Err PlanLength else if b₅ then Err NodeField else Ok m) ≡ Ok n
    → m ≡ n
count_by true b₂ b₃ b₄ b₅ m n e = err-ok PlanLength n e
count_by false true b₃ b₄ b₅ m n e = err-ok PlanMark n e
count_by false false true b₄ b₅ m n e = err-ok NodeCount n e
count_by false false false true b₅ m n e = err-ok PlanLength n e
count_by false false false false true m n e = err-ok NodeField n e
count_by false false false false false m n e = ok-is m n e

pub plan-count : (v : Version) (plan : List ℕ) (n : ℕ) → read_plan_as v plan ≡ Ok n → nodes_of plan ≡ n
unfolding read_plan_as
plan-count v plan n e =
    let k : ℕ = nodes_of plan in
    count_by (ltb (length plan) 6) (not (starts_with (plan_mark v) plan)) (not (leb 1 k && leb k 64)) (not (eqb (length plan) (6 + node_size v * k))) (not (nodes_allowed v k plan)) k n e

-- ---- the check by its parts

answer-refused : (number tables nodes cells : ℕ) → 0 < number → answer number tables nodes cells ≡ Err (refusal_of number)
answer-refused zero tables nodes cells h = absurd (omega arith)
answer-refused (suc number) tables nodes cells h = refl

or-first : (number next : ℕ) → 0 < number → or_next number next ≡ number
or-first zero next h = absurd (omega arith)
or-first (suc number) next h = refl

-- the first of two numbers, where it is a refusal's
or-refused : (r : Refusal) (next tables nodes cells : ℕ) → answer (or_next (refusal_number r) next) tables nodes cells ≡ Err r
or-refused r next tables nodes cells =
    rw (or-first (refusal_number r) next (number-positive r)) (answer-refused (refusal_number r) tables nodes cells (number-positive r) ∙ ap Err (number-back r))

module _ (v : Version) (set plan : List ℕ) where
  pub check_set : (r : Refusal) → read_set_as v set ≡ Err r → check_as v set plan ≡ Err r
  unfolding check_as input_refusal_as
  check_set r e =
      ap (λ (z : Result ℕ Refusal). answer (or_next (number_of z) (plan_refusal_as v set plan)) (amount_of (read_set_as v set)) (nodes_of plan) (need (tables_as v set) (plan_of plan))) e
      ∙ or-refused r _ _ _ _

  module _ (tables : ℕ) where
    abbrev known : Tables
    known = known_tables tables set

    -- where the set has so many tables it is the whole check
    pub check_over-as : read_set_as v set ≡ Ok tables → check_over_as v tables set plan ≡ check_as v set plan
    unfolding check_over_as check_as input_refusal_as plan_refusal_as
    check_over-as s =
        sym (ap (λ (r : Result ℕ Refusal). answer (or_next (set_number r) (refusal_over_as v (known_tables (amount_of r) set) plan)) (amount_of r) (nodes_of plan) (need (known_tables (amount_of r) set) (plan_of plan))) s)

    pub check_plan : (r : Refusal) → read_plan_as v plan ≡ Err r → check_over_as v tables set plan ≡ Err r
    unfolding check_over_as
    check_plan r e =
        ap (λ (z : Result ℕ Refusal). answer (or_next (number_of z) (or_next (tree_number plan) (refusal known (plan_of plan)))) tables (nodes_of plan) (need known (plan_of plan))) e
        ∙ or-refused r _ _ _ _

    module _ (nodes : ℕ) (r : read_plan_as v plan ≡ Ok nodes) where
      from-tree : check_over_as v tables set plan ≡ answer (or_next (tree_number plan) (refusal known (plan_of plan))) tables nodes (need known (plan_of plan))
      unfolding check_over_as
      from-tree =
          ap (λ (z : Result ℕ Refusal). answer (or_next (plan_number z) (or_next (tree_number plan) (refusal known (plan_of plan)))) tables (nodes_of plan) (need known (plan_of plan))) r
          ∙ ap (λ (n : ℕ). answer (or_next (tree_number plan) (refusal known (plan_of plan))) tables n (need known (plan_of plan))) (plan-count v plan nodes r)

      pub check_tree : whole_tree plan ≡ false → check_over_as v tables set plan ≡ Err Tree
      unfolding refusal_of
      check_tree h = from-tree ∙ rw h

      pub check_refused : whole_tree plan ≡ true → (k : ℕ) → 0 < k → refusal known (plan_of plan) ≡ k → check_over_as v tables set plan ≡ Err (refusal_of k)
      check_refused h k p e = from-tree ∙ rw (h, e) (answer-refused k _ _ _ p)

      pub check_accepted : whole_tree plan ≡ true → refusal known (plan_of plan) ≡ 0 → check_over_as v tables set plan ≡ Ok (record { tables = tables; nodes = nodes; need = need known (plan_of plan) })
      check_accepted h e = from-tree ∙ rw (h, e)

-- of version 2
pub check-over : (set plan : List ℕ) (tables : ℕ) → read_set set ≡ Ok tables → check_over tables set plan ≡ check_of set plan
check-over set plan tables s = check_over-as Second set plan tables s

-- ---- 11 to 14 as the code meets them: place by place

-- The walks speak of the tables of version 2. They are those that the set was read to have, but for how many they are.
module _ (v : Version) (set plan : List ℕ) (tables nodes : ℕ) (r : read_plan_as v plan ≡ Ok nodes) (w : whole_tree plan ≡ true) where
  abbrev K : Tables
  K = known_tables tables set

  abbrev T : Tables
  T = tables_of set

  abbrev n : ℕ
  n = nodes_of plan

  narrow-known : all (narrow K) (subtrees (plan_of plan)) ≡ all_below n (λ i. narrow T (plan_at plan i))
  narrow-known = narrow-amount T tables (subtrees (plan_of plan)) ∙ whole-all plan w (narrow T)

  low-known : all (low K) (subtrees (plan_of plan)) ≡ all_below n (λ i. low T (plan_at plan i))
  low-known = low-amount T tables (subtrees (plan_of plan)) ∙ whole-all plan w (low T)

  once-known : once (introduced K (plan_of plan)) ≡ once (ids_of T plan n 0)
  once-known = ap once (introduced-amount T tables (plan_of plan) ∙ whole-introduced plan w T)

  pub check_11 : all_below n (λ i. found K (operator_at plan i)) ≡ false → check_over_as v tables set plan ≡ Err NoTable
  unfolding refusal_of
  check_11 f = check_refused v set plan tables nodes r w 11 (omega arith) (refusal_11 K (plan_of plan) (whole-found plan w K ∙ f))

  module _ (f : all_below n (λ i. found K (operator_at plan i)) ≡ true) where
    f' : all (found K) (flatten (plan_of plan)) ≡ true
    f' = whole-found plan w K ∙ f

    twelve : once (introduced K (plan_of plan)) && in_view K [] (plan_of plan) ≡ false → check_over_as v tables set plan ≡ Err Id
    unfolding refusal_of
    twelve h = check_refused v set plan tables nodes r w 12 (omega arith) (refusal_12 K (plan_of plan) f' h)

    pub check_12_once : once (ids_of T plan n 0) ≡ false → check_over_as v tables set plan ≡ Err Id
    check_12_once o = twelve (rw (once-known, o))

    module _ (o : once (ids_of T plan n 0) ≡ true) where
      pub check_12_view : in_view T [] (plan_of plan) ≡ false → check_over_as v tables set plan ≡ Err Id
      check_12_view g = twelve (rw (once-known, o, view_amount T tables [] (plan_of plan), g))

      module _ (g : in_view T [] (plan_of plan) ≡ true) where
        g' : once (introduced K (plan_of plan)) && in_view K [] (plan_of plan) ≡ true
        g' = rw (once-known, o, view_amount T tables [] (plan_of plan), g)

        pub check_13 : all_below n (λ i. narrow T (plan_at plan i)) ≡ false → check_over_as v tables set plan ≡ Err RowWide
        unfolding refusal_of
        check_13 a = check_refused v set plan tables nodes r w 13 (omega arith) (refusal_13 K (plan_of plan) f' g' (narrow-known ∙ a))

        module _ (a : all_below n (λ i. narrow T (plan_at plan i)) ≡ true) where
          pub check_14 : all_below n (λ i. low T (plan_at plan i)) ≡ false → check_over_as v tables set plan ≡ Err BoundHigh
          unfolding refusal_of
          check_14 b =
              check_refused v set plan tables nodes r w 14 (omega arith)
              (refusal_14 K (plan_of plan) f' g' (narrow-known ∙ a) (low-known ∙ b))

          pub check-passed : all_below n (λ i. low T (plan_at plan i)) ≡ true → check_over_as v tables set plan ≡ Ok (record { tables = tables; nodes = nodes; need = need T (plan_of plan) })
          check-passed b =
              check_accepted v set plan tables nodes r w
              (refusal_0 K (plan_of plan) (record {
                found_all = f';
                introduced_once = once-known ∙ o;
                in_view_all = view_amount T tables [] (plan_of plan) ∙ g;
                narrow_all = narrow-known ∙ a;
                low_all = low-known ∙ b;
              }))
              ∙ ap (λ (cells : ℕ). Ok (record { tables = tables; nodes = nodes; need = cells })) (need-amount T tables (plan_of plan))

-- ---- what acceptance gives

pub record AcceptanceAs (v : Version) (set plan : List ℕ) (tables nodes cells : ℕ) : Type 0 where
  pub set_read : read_set_as v set ≡ Ok tables
  pub plan_read : read_plan_as v plan ≡ Ok nodes
  pub whole : whole_tree plan ≡ true
  pub passed : refusal (tables_as v set) (plan_of plan) ≡ 0
  pub needs : cells ≡ need (tables_as v set) (plan_of plan)

abbrev pub Acceptance : List ℕ → List ℕ → ℕ → ℕ → ℕ → Type 0
Acceptance set plan tables nodes cells = AcceptanceAs Second set plan tables nodes cells

pub accepted-as : (v : Version) (set plan : List ℕ) (accepted : Accepted) → check_as v set plan ≡ Ok accepted → AcceptanceAs v set plan accepted.tables accepted.nodes accepted.need
accepted-as v set plan accepted e = by-set (read_set_as v set) refl
  where
    over : (t : ℕ) → read_set_as v set ≡ Ok t → check_over_as v t set plan ≡ Ok accepted
    over t s = check_over-as v set plan t s ∙ e

    by_number : (t n : ℕ) → read_set_as v set ≡ Ok t → read_plan_as v plan ≡ Ok n → whole_tree plan ≡ true → (k : ℕ) → refusal (known_tables t set) (plan_of plan) ≡ k
        → AcceptanceAs v set plan accepted.tables accepted.nodes accepted.need
    by_number t n s r w zero z =
        let same : ◌≡◌ {A = Accepted} (record { tables = t; nodes = n; need = need (known_tables t set) (plan_of plan) }) accepted =
        ok-is _ _ (sym (check_accepted v set plan t n r w z) ∙ over t s) in
        let k : tables_as v set ≡ known_tables t set = ap (λ (r : Result ℕ Refusal). known_tables (amount_of r) set) s in
        record {
          set_read = s ∙ ap (λ (a : Accepted). Ok a.tables) same;
          plan_read = r ∙ ap (λ (a : Accepted). Ok a.nodes) same;
          whole = w;
          passed = ap (λ (T : Tables). refusal T (plan_of plan)) k ∙ z;
          needs = sym (ap (λ (T : Tables). need T (plan_of plan)) k ∙ ap (λ (a : Accepted). a.need) same);
        }
    by_number t n s r w (suc k) z = err-ok _ _ (sym (check_refused v set plan t n r w (suc k) (omega arith) z) ∙ over t s)

    by-tree : (t n : ℕ) → read_set_as v set ≡ Ok t → read_plan_as v plan ≡ Ok n → (b : Bool) → whole_tree plan ≡ b → AcceptanceAs v set plan accepted.tables accepted.nodes accepted.need
    by-tree t n s r true w = by_number t n s r w (refusal (known_tables t set) (plan_of plan)) refl
    by-tree t n s r false w = err-ok _ _ (sym (check_tree v set plan t n r w) ∙ over t s)

    by_plan : (t : ℕ) → read_set_as v set ≡ Ok t → (p : Result ℕ Refusal) → read_plan_as v plan ≡ p → AcceptanceAs v set plan accepted.tables accepted.nodes accepted.need
    by_plan t s (Ok n) r = by-tree t n s r (whole_tree plan) refl
    by_plan t s (Err k) r = err-ok _ _ (sym (check_plan v set plan t k r) ∙ over t s)

    by-set : (r : Result ℕ Refusal) → read_set_as v set ≡ r → AcceptanceAs v set plan accepted.tables accepted.nodes accepted.need
    by-set (Ok t) s = by_plan t s (read_plan_as v plan) refl
    by-set (Err k) s = err-ok _ _ (sym (check_set v set plan k s) ∙ e)

pub accepted : (set plan : List ℕ) (a : Accepted) → check_of set plan ≡ Ok a → Acceptance set plan a.tables a.nodes a.need
accepted set plan a e = accepted-as Second set plan a e

-- ---- the number of an answer is the number that was met

-- 0, or a refusal's
abbrev pub Listed : ℕ → Type 0
Listed zero = Unit {0}
Listed (suc number) = refusal_number (refusal_of (suc number)) ≡ suc number

listed_by : (number : ℕ) → refusal_number (refusal_of number) ≡ number → Listed number
listed_by zero e = tt
listed_by (suc number) e = e

listed-result : (r : Result ℕ Refusal) → Listed (number_of r)
listed-result (Ok n) = tt
listed-result (Err r) = listed_by (refusal_number r) (ap refusal_number (number-back r))

pub listed_next : (a b : ℕ) → Listed a → Listed b → Listed (or_next a b)
listed_next zero b p q = q
listed_next (suc a) b p q = p

-- a number that a test turns back with
pub listed_if : (b : Bool) (r : Refusal) → Listed (if b then refusal_number r else 0)
listed_if true r = listed-result (Err r)
listed_if false r = tt

listed-tree : (b : Bool) → Listed (if b then 0 else 10)
listed-tree true = tt
listed-tree false = listed-result (Err Tree)

listed-refusal : (b₁ b₂ b₃ b₄ : Bool) → Listed (if b₁ then 11 else if b₂ then 12 else if b₃ then 13 else if b₄ then 14 else 0)
listed-refusal true b₂ b₃ b₄ = listed-result (Err NoTable)
listed-refusal false true b₃ b₄ = listed-result (Err Id)
listed-refusal false false true b₄ = listed-result (Err RowWide)
listed-refusal false false false true = listed-result (Err BoundHigh)
listed-refusal false false false false = tt

listed_over : (v : Version) (T : Tables) (plan : List ℕ) → Listed (refusal_over_as v T plan)
unfolding refusal
listed_over v T plan =
    let p : Plan = plan_of plan in
    listed_next (number_of (read_plan_as v plan)) (or_next (tree_number plan) (refusal T p)) (listed-result (read_plan_as v plan))
    (listed_next (tree_number plan) (refusal T p) (listed-tree (whole_tree plan))
    (listed-refusal (not (all (found T) (flatten p))) (not (once (introduced T p) && in_view T [] p)) (not (all (narrow T) (subtrees p))) (not (all (low T) (subtrees p)))))

pub listed-input : (v : Version) (set plan : List ℕ) → Listed (input_refusal_as v set plan)
unfolding input_refusal_as plan_refusal_as
listed-input v set plan =
    listed_next (number_of (read_set_as v set)) (refusal_over_as v (tables_as v set) plan) (listed-result (read_set_as v set)) (listed_over v (tables_as v set) plan)

answer-number : (number tables nodes cells : ℕ) → Listed number → checked_number (answer number tables nodes cells) ≡ number
answer-number zero tables nodes cells e = refl
answer-number (suc number) tables nodes cells e = e

pub number-over : (v : Version) (tables : ℕ) (set plan : List ℕ) → checked_number (check_over_as v tables set plan) ≡ refusal_over_as v (known_tables tables set) plan
unfolding check_over_as
number-over v tables set plan = answer-number _ _ _ _ (listed_over v (known_tables tables set) plan)

pub number-as : (v : Version) (set plan : List ℕ) → checked_number (check_as v set plan) ≡ input_refusal_as v set plan
unfolding check_as
number-as v set plan = answer-number _ _ _ _ (listed-input v set plan)

pub number-accepted : (v : Version) (set plan : List ℕ) (a : Accepted) → check_as v set plan ≡ Ok a → input_refusal_as v set plan ≡ 0
number-accepted v set plan a e = sym (number-as v set plan) ∙ ap checked_number e

pub number-refused : (v : Version) (set plan : List ℕ) (r : Refusal) → check_as v set plan ≡ Err r → input_refusal_as v set plan ≡ refusal_number r
number-refused v set plan r e = sym (number-as v set plan) ∙ ap checked_number e

-- each node counts at most 4,096 rows of 32 cells
total-most : (T : Tables) (ps : List Plan) → all (narrow T) ps ≡ true → all (low T) ps ≡ true → total (map (share T) ps) ≤ length ps * 131072
total-most T [] h k = omega arith
total-most T (p ∷ ps) h k =
    let (a, b) = (and-eq-true_iff (narrow T p) (all (narrow T) ps)).0 h in
    let (c, d) = (and-eq-true_iff (low T p) (all (low T) ps)).0 k in
    let m : bound T p * width T p ≤ 4096 * 32 = mul-le-mul (leb-true _ _ c) (leb-true _ _ a) in
    omega (arith, share-most T p, total-most T ps b d)

-- the need of an accepted plan is at most 64 × 4,096 × 32 + 4,096 cells
pub need-most : (v : Version) (set plan : List ℕ) (tables nodes cells : ℕ) → AcceptanceAs v set plan tables nodes cells → cells ≤ 8392704
unfolding need
need-most v set plan tables nodes cells a =
    let u = refusal-none (tables_as v set) (plan_of plan) a.passed in
    let n = plan_known-as v plan (ap plan_number a.plan_read) in
    let t = total-most (tables_as v set) (subtrees (plan_of plan)) u.narrow_all u.low_all in
    omega (arith, a.needs, t, subtrees-length (plan_of plan), whole-size plan a.whole, n.most)
