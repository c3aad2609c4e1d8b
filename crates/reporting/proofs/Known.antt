-- Aggregates kept by key: left rows with one key have one aggregate, where nothing else of a left row is read. Assumes nothing.
use Rattle.std.specs.Prelude.{Option, Some, None}
use mathlib.Core.Path.{◌≡◌, refl, sym, ap, ◌∙◌, fun_ext}
use mathlib.Core.Bool.{Bool, true, false, not, cond, ◌&&◌, and-eq-true_iff, false≢true}
use mathlib.Core.List.{List, [], ◌∷◌, map}
use Prim.Native.Nat.{ℕ, zero, suc, ◌+◌, ◌≤◌, ◌<◌}
use native.Mathlib.Omega.{arith}
use lib.Dec.{eqb, ltb}
use lib.ListN.{length, length-map, length-set, get_or, set, replicate, get_or-replicate}
use lib.Seq.{get_or-set_same, get_or-set_other}
use borrow.Author.Tests.{eqb-true, eqb-false, eq-eqb, ne_eqb, lt-ltb, le-ltb}
use Rattle.algebra.specs.Lists.{flip, filter, any}
use Rattle.algebra.specs.Cells.{Aggregate, count, origin, is_number, eq, compares, aggregate, aggregate_within}
use Rattle.algebra.specs.Plans.{Row, Env}
use Rattle.algebra.proofs.Lists.{filter_out, any-count}
use Rattle.reading.specs.Tree.{aggregate_by, comparison_of, node_aggregate}
use Rattle.reading.specs.declared.kinds.Kind.{Kind}
use Rattle.reading.specs.declared.plan.Node.{Node}
use Rattle.reading.proofs.Operators.{each_kind}
use Rattle.reporting.specs.Index.{before}
use Rattle.reporting.specs.Keys.{keeps_rows, has_aggregate}
use Rattle.reporting.specs.Known.{side_shared, compared_shared, Shared, SharedIf, key_number, Known}
use Rattle.reporting.specs.Sides.{side_cell, compared_holds, condition_holds, Equals, meets, found_cells, found_cell, FoundFor}
use Rattle.reporting.specs.declared.side.Side.{Side}
use Rattle.reporting.specs.declared.side.Side.TheVariants.{Left, Right, Word}
use Rattle.reporting.specs.declared.side.Compared.{Compared}
use Rattle.reporting.specs.declared.side.Found.{Found}
use Rattle.reporting.proofs.Passing.{aggregate-of}
use Rattle.reporting.proofs.Sides.{meets-other, meets-none, aggregate-cells}

-- ---- what is the same for every left row
side-shared : (s : Side) → side_shared s ≡ true → (l l' r : Row) → side_cell s l r ≡ side_cell s l' r
side-shared (Left place) h l l' r = absurd (false≢true h)
side-shared (Right place) h l l' r = refl
side-shared (Word word) h l l' r = refl

compared-shared : (k : Option Compared) → compared_shared k ≡ true → (l l' r : Row) → compared_holds k l r ≡ compared_holds k l' r
compared-shared None h l l' r = refl
compared-shared (Some k) h l l' r =
    let (a, b) = (and-eq-true_iff (side_shared k.left) (side_shared k.right)).0 h in
    λ i. compares (comparison_of k.comparison) (side-shared k.left a l l' r i) (side-shared k.right b l l' r i)

pub found_shared : (f : Found) → compared_shared f.test.compared ≡ true → side_shared f.measured ≡ true → Shared f
unfolding condition_holds
found_shared f a b =
    record {
      test = λ l l' r. ap (flip f.test.negated) (compared-shared f.test.compared a l l' r);
      measured = λ l l' r. side-shared f.measured b l l' r;
    }

pub shared-if : (b : Bool) (f : Found) → (b ≡ true → Shared f) → SharedIf b f
shared-if true f h = h refl
shared-if false f h = tt

-- ---- left rows with one key
pub before-most : (p : Row → Bool) (rs : List Row) → before p rs ≤ length rs
unfolding before
before-most p [] = omega arith
before-most p (r ∷ rs) =
    elim (p r) as (λ b. cond b 0 (suc (before p rs)) ≤ suc (length rs)) [
      | true ↦ omega arith
      | false ↦ omega (arith, before-most p rs)
    ]

module _ (f : Found) (left right : ℕ) (keys : Equals left right f.keys) where
  -- a right row with another key is not met
  other_key : (l q : Row) → eqb (get_or q right 0) (get_or l left 0) ≡ false → meets f l q ≡ false
  other_key l q h =
      (elim (is_number (get_or l left 0)) as (λ b. is_number (get_or l left 0) ≡ b → meets f l q ≡ false) [
        | true ↦ λ e. meets-other f left right keys l q e (eqb-false (get_or q right 0) (get_or l left 0) h)
        | false ↦ λ e. meets-none f left right keys l e q
      ]) refl

  module _ (shared : Shared f) (l l' : Row) where
    same_key : get_or l left 0 ≡ get_or l' left 0 → (q : Row) → meets f l q ≡ meets f l' q
    same_key e q =
        let equal : condition_holds f.keys l q ≡ condition_holds f.keys l' q =
        keys.same l q ∙ ap (λ (x : ℕ). compares eq x (get_or q right 0)) e ∙ sym (keys.same l' q) in
        λ i. equal i && shared.test l l' q i

    -- they meet the same right rows
    same_met : (rs : List Row) → key_number left right rs l ≡ key_number left right rs l' → filter (meets f l) rs ≡ filter (meets f l') rs
    unfolding before
    same_met [] e = refl
    same_met (q ∷ qs) e =
        (elim (eqb (get_or q right 0) (get_or l left 0)) as (λ b. eqb (get_or q right 0) (get_or l left 0) ≡ b → cond b 0 (suc (key_number left right qs l)) ≡ key_number left right (q ∷ qs) l' → filter (meets f l) (q ∷ qs) ≡ filter (meets f l') (q ∷ qs)) [
          | true ↦ λ x. (elim (eqb (get_or q right 0) (get_or l' left 0)) as (λ b. eqb (get_or q right 0) (get_or l' left 0) ≡ b → 0 ≡ cond b 0 (suc (key_number left right qs l')) → filter (meets f l) (q ∷ qs) ≡ filter (meets f l') (q ∷ qs)) [
            | true ↦ λ y n. ap (λ (m : Row → Bool). filter m (q ∷ qs)) (fun_ext (same_key (sym (eqb-true (get_or q right 0) (get_or l left 0) x) ∙ eqb-true (get_or q right 0) (get_or l' left 0) y)))
            | false ↦ λ y n. absurd (omega arith)
          ]) refl
          | false ↦ λ x. (elim (eqb (get_or q right 0) (get_or l' left 0)) as (λ b. eqb (get_or q right 0) (get_or l' left 0) ≡ b → suc (key_number left right qs l) ≡ cond b 0 (suc (key_number left right qs l')) → filter (meets f l) (q ∷ qs) ≡ filter (meets f l') (q ∷ qs)) [
            | true ↦ λ y n. absurd (omega arith)
            | false ↦ λ y n. filter_out (meets f l) q qs (other_key l q x) ∙ same_met qs (omega arith) ∙ sym (filter_out (meets f l') q qs (other_key l' q y))
          ]) refl
        ]) refl e

    same-found : (rs : List Row) → key_number left right rs l ≡ key_number left right rs l' → found_cell f l rs ≡ found_cell f l' rs
    unfolding found_cells
    same-found rs e = λ i. aggregate (aggregate_by f.aggregate 0) (map (λ r. shared.measured l l' r i) (same_met rs e i))

  -- ---- what is kept
  pub known_start : (rs : List Row) → length rs ≤ 4096 → Known f left right rs (replicate 4097 0)
  known_start rs h =
      record {
        all = refl;
        kept = λ l n. absurd (n (get_or-replicate 4097 (key_number left right rs l) 0 0 (omega (arith, before-most (λ q. eqb (get_or q right 0) (get_or l left 0)) rs))));
      }

  module _ (rs : List Row) (known : List ℕ) (p : Known f left right rs known) (l : Row) (first : ℕ) (at : first ≡ key_number left right rs l) where
    pub known_kept : (cell : ℕ) → cell ≡ get_or known first 0 → 0 < cell → cell ≡ found_cell f l rs
    known_kept cell e h =
        let here : cell ≡ get_or known (key_number left right rs l) 0 = e ∙ ap (λ (i : ℕ). get_or known i 0) at in
        here ∙ sym (p.kept l (λ n. omega (arith, here, n)))

    pub known-set : Shared f → (cell : ℕ) → cell ≡ found_cell f l rs → first < length known → Known f left right rs (set known first cell)
    known-set shared cell e h =
        record {
          all = length-set known first cell ∙ p.all;
          kept = λ l' n. (elim (eqb (key_number left right rs l') first) as (λ b. eqb (key_number left right rs l') first ≡ b → found_cell f l' rs ≡ get_or (set known first cell) (key_number left right rs l') 0) [
            | true ↦ λ x.
                let same : key_number left right rs l' ≡ first = eqb-true (key_number left right rs l') first x in
                same-found shared l' l rs (same ∙ at) ∙ sym e ∙ sym (get_or-set_same known first cell 0 h) ∙ ap (λ (i : ℕ). get_or (set known first cell) i 0) (sym same)
            | false ↦ λ x.
                let other : get_or (set known first cell) (key_number left right rs l') 0 ≡ get_or known (key_number left right rs l') 0 = get_or-set_other known first (key_number left right rs l') cell 0 (eqb-false (key_number left right rs l') first x) in
                p.kept l' (λ z. n (other ∙ z)) ∙ sym other
          ]) refl;
        }

-- ---- a kind that keeps rows counts the right rows that are met
none_with : (k : Kind) → keeps_rows k ≡ true → has_aggregate k ≡ false
unfolding keeps_rows has_aggregate
none_with =
    each_kind (λ k. keeps_rows k ≡ true → has_aggregate k ≡ false)
    (λ e. refl) (λ e. refl) (λ e. refl) (λ e. refl) (λ e. refl) (λ e. refl) (λ e. refl) (λ e. refl) (λ e. refl) (λ e. refl)
    (λ e. absurd (false≢true e)) (λ e. refl) (λ e. absurd (false≢true e)) (λ e. absurd (false≢true e)) (λ e. refl) (λ k e. refl)

module _ (node : Node) (cs ds : List ℕ) (env : Env) (f : Found) (found : FoundFor node cs ds env f) (keeps : keeps_rows node.kind ≡ true) where
  no-aggregate : has_aggregate node.kind ≡ false
  no-aggregate = none_with node.kind keeps

  counted : (l : Row) (rs : List Row) → found_cell f l rs ≡ origin + length (filter (meets f l) rs)
  unfolding found_cells aggregate_within
  counted l rs =
      aggregate-cells f.aggregate 0 node.column (found_cells f l rs)
      ∙ ap (λ (g : Aggregate). aggregate g (found_cells f l rs)) (found.aggregate ∙ aggregate-of node ∙ ap (λ (b : Bool). cond b (node_aggregate node) count) no-aggregate)
      ∙ ap (λ (n : ℕ). origin + n) (length-map (filter (meets f l) rs) (side_cell f.measured l))

  pub any-counted : (l : Row) (rs : List Row) (cell : ℕ) → cell ≡ found_cell f l rs → any (meets f l) rs ≡ not (eqb cell 9223372036854775808)
  any-counted l rs cell e = any-count (meets f l) rs ∙ some-counted (length (filter (meets f l) rs)) (e ∙ counted l rs)
    where
      some-counted : (n : ℕ) → cell ≡ 9223372036854775808 + n → ltb 0 n ≡ not (eqb cell 9223372036854775808)
      some-counted zero h = le-ltb 0 0 (omega arith) ∙ ap not (sym (eq-eqb cell 9223372036854775808 (omega (arith, h))))
      some-counted (suc n) h = lt-ltb 0 (suc n) (omega arith) ∙ ap not (sym (ne_eqb cell 9223372036854775808 (λ z. omega (arith, h, z))))
