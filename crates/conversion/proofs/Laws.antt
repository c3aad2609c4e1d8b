-- What the converter keeps: the laws of specs/Laws.antt. Assumes nothing.
use Rattle.std.specs.Prelude.{if◌then◌else◌, Ok}
use Prim.Native.Nat.{ℕ, ◌≤◌}
use native.Mathlib.Omega.{arith}
use mathlib.Core.Path.{◌≡◌, refl, sym, ap, ap₂, ◌∙◌}
use mathlib.Core.Bool.{Bool, true, false, ◌||◌, and-eq-true_iff}
use mathlib.Core.List.{List, [], ◌∷◌}
use lib.ListN.{length}
use lib.Dec.{eqb}
use Rattle.algebra.specs.Lists.{all}
use Rattle.algebra.specs.Cells.{blank, off_scale, within_reach}
use Rattle.algebra.specs.Plans.{Tables, Plan, columns, eval_within}
use Rattle.algebra.specs.Places.{size, flatten}
use Rattle.algebra.specs.Refusals.{fields, refusal, need}
use Rattle.algebra.specs.Rules.{outside}
use Rattle.algebra.specs.Conversion.{sums_stay}
use Rattle.algebra.proofs.Conversion.{same_rows}
use Rattle.reading.specs.Versions.{reach_of}
use Rattle.reading.specs.TableSet.{cell_allowed, read_set_as, amount_of, tables_as}
use Rattle.reading.specs.Plan.{nodes_of, read_plan_as}
use Rattle.reading.specs.Tree.{plan_of, whole_tree}
use Rattle.reading.specs.Encoding.{operator_within, plan_bytes_as}
use Rattle.reading.specs.Check.{set_number, plan_number, or_next, plan_refusal_as, input_refusal_as, answer, check_as}
use Rattle.reading.specs.declared.version.Version.{Version}
use Rattle.reading.specs.declared.version.Version.TheVariants.{First, Second}
use Rattle.reading.proofs.VersionLaws.{reach_in}
use Rattle.reading.proofs.Decoding.{within-second}
use Rattle.reading.proofs.Places.{whole-size}
use Rattle.reading.proofs.PlanBytes.{plan_known-as, plan-bytes, plan-fields, plan_within, bytes_plan_as}
use Rattle.reading.proofs.Acceptance.{AcceptanceAs, accepted-as}
use Rattle.conversion.specs.Bytes.{set_bytes, set_fits, plan_in, plan_fits}
use Rattle.conversion.specs.Convert.{converted_set, fit_number}
use Rattle.conversion.specs.Laws.{AllBytes, Kept, Conversion}
use Rattle.conversion.proofs.TableLaws.{Content, fitting}
use Rattle.conversion.proofs.SetLaws.{contents_bytes, all_fitting, contents-to, contents-fit, contents-read, contents-tables, Contents, contents_of}

-- ---- what is accepted

-- a test of every element that follows from another
all_imply : {A : Type 0} (p q : A → Bool) → ((x : A) → p x ≡ true → q x ≡ true) → (xs : List A) → all p xs ≡ true → all q xs ≡ true
all_imply p q h [] e = refl
all_imply p q h (x ∷ xs) e = let (a, b) = (and-eq-true_iff (p x) (all p xs)).0 e in rw (h x a, all_imply p q h xs b)

-- what acceptance gives
pub acceptance : (v : Version) (set plan : List ℕ) → input_refusal_as v set plan ≡ 0
    → AcceptanceAs v set plan (amount_of (read_set_as v set)) (nodes_of plan) (need (tables_as v set) (plan_of plan))
unfolding check_as
acceptance v set plan e =
    accepted-as v set plan _ (ap (λ (n : ℕ). answer n (amount_of (read_set_as v set)) (nodes_of plan) (need (tables_as v set) (plan_of plan))) e)

-- what it takes
pub accepted-by : (v : Version) (set plan : List ℕ) (m n : ℕ) → read_set_as v set ≡ Ok m → read_plan_as v plan ≡ Ok n → whole_tree plan ≡ true
    → refusal (tables_as v set) (plan_of plan) ≡ 0 → input_refusal_as v set plan ≡ 0
unfolding input_refusal_as plan_refusal_as
accepted-by v set plan m n s r w z =
    let number : Bool → ℕ = λ b. if b then 0 else 10 in
    ap₂ or_next (ap set_number s) (ap₂ or_next (ap plan_number r) (ap₂ or_next (ap number w) z))

module _ (from to : Version) (set plan : List ℕ) where
  -- both fit where the number is 0, and only there
  fit-number : set_fits to (amount_of (read_set_as from set)) set ≡ true → plan_fits to plan ≡ true → fit_number from to set plan ≡ 0
  fit-number s p = rw (s, p)

  fits_both : fit_number from to set plan ≡ 0 → (set_fits to (amount_of (read_set_as from set)) set ≡ true) × (plan_fits to plan ≡ true)
  fits_both e = (and-eq-true_iff (set_fits to (amount_of (read_set_as from set)) set) (plan_fits to plan)).0 (by _ e)
    where
      by : (b : Bool) → ◌≡◌ {A = ℕ} (if b then 0 else 25) 0 → b ≡ true
      by true q = refl
      by false q = absurd (omega arith)

-- ---- an accepted set and plan

module _ (from : Version) (set plan : List ℕ) (set_small : AllBytes set) (plan_small : AllBytes plan) (ok : input_refusal_as from set plan ≡ 0) where
  -- what acceptance says of them, and what the set holds
  a : AcceptanceAs from set plan (amount_of (read_set_as from set)) (nodes_of plan) (need (tables_as from set) (plan_of plan))
  a = acceptance from set plan ok

  held : Contents from 8 0 set (amount_of (read_set_as from set))
  held = contents_of from set (amount_of (read_set_as from set)) set_small a.set_read

  abbrev cs : List Content
  cs = held.contents

  -- so many tables, and whether they can be written in version w
  amount : amount_of (read_set_as from set) ≡ length cs
  amount = omega (arith, held.count)

  set-fit : (w : Version) → set_fits w (amount_of (read_set_as from set)) set ≡ all_fitting w cs
  set-fit w = ap₂ (set_fits w) amount held.is ∙ contents-fit from cs held.sized held.fits w

  -- the plan's tree has at most 64 nodes, and its fields can be written
  tree-small : size (plan_of plan) ≤ 64
  tree-small = omega (arith, whole-size plan a.whole, (plan_known-as from plan (ap plan_number a.plan_read)).most)

  tree_fields : all fields (flatten (plan_of plan)) ≡ true
  tree_fields = plan-fields from plan (nodes_of plan) a.plan_read a.whole plan_small

  module _ (to : Version) (fit : fit_number from to set plan ≡ 0) where
    cs-fit : all_fitting to cs ≡ true
    cs-fit = sym (set-fit to) ∙ (fits_both from to set plan fit).0

    -- the set and the plan in version `to`
    abbrev S : List ℕ
    S = converted_set from to set

    abbrev P : List ℕ
    P = plan_in to plan

    set_is : S ≡ contents_bytes to cs
    set_is = ap₂ (set_bytes to) amount held.is ∙ contents-to from cs held.sized held.fits to

    set-read : read_set_as to S ≡ Ok (length cs)
    set-read = ap (read_set_as to) set_is ∙ contents-read to cs held.sized cs-fit held.few

    tables-same : tables_as to S ≡ tables_as from set
    tables-same =
        ap (tables_as to) set_is ∙ (contents-tables to cs held.sized cs-fit held.few
        ∙ sym (ap (tables_as from) held.is ∙ contents-tables from cs held.sized held.fits held.few))

    plan-is : (read_plan_as to P ≡ Ok (size (plan_of plan))) × (plan_of P ≡ plan_of plan) × (whole_tree P ≡ true)
    unfolding plan_fits
    plan-is = bytes_plan_as to (plan_of plan) tree-small tree_fields (fits_both from to set plan fit).1

    set-fits-back : set_fits from (amount_of (read_set_as to S)) S ≡ true
    set-fits-back = ap₂ (set_fits from) (ap amount_of set-read) set_is ∙ (contents-fit to cs held.sized cs-fit from ∙ held.fits)

    plan_fits-back : plan_fits from P ≡ true
    unfolding plan_fits
    plan_fits-back = ap (λ (p : Plan). all (operator_within from) (flatten p)) plan-is.1 ∙ plan_within from plan (nodes_of plan) a.plan_read a.whole

    -- all of it is kept
    pub kept : Kept from to set plan
    kept =
        record {
          accepted =
              accepted-by to S P (length cs) (size (plan_of plan)) set-read plan-is.0 plan-is.2
              (ap₂ refusal tables-same plan-is.1 ∙ a.passed);
          tables = tables-same;
          tree = plan-is.1;
          fits_back = fit-number to from S P set-fits-back plan_fits-back;
          set_back = ap₂ (set_bytes from) (ap amount_of set-read) set_is ∙ (contents-to to cs held.sized cs-fit from ∙ sym held.is);
          plan_back = ap (plan_bytes_as from) plan-is.1 ∙ sym (plan-bytes from plan (nodes_of plan) a.plan_read a.whole);
        }

-- ---- the way up

-- a cell of version 1 is one of version 2
cell_up : (w : ℕ) → cell_allowed First w ≡ true → cell_allowed Second w ≡ true
cell_up w = by (eqb w blank) (eqb w off_scale)
  where
    by : (x y : Bool) → (x || (y || within_reach (reach_of First) w)) ≡ true → (x || (y || within_reach (reach_of Second) w)) ≡ true
    by true y h = refl
    by false true h = refl
    by false false h = reach_in First w h

module _ (set plan : List ℕ) (set_small : AllBytes set) (plan_small : AllBytes plan) (ok : input_refusal_as First set plan ≡ 0) where
  -- everything fits
  pub up_fits_lem : fit_number First Second set plan ≡ 0
  unfolding plan_fits
  up_fits_lem =
      fit-number First Second set plan
      (set-fit First set plan set_small plan_small ok Second
      ∙ all_imply (fitting First) (fitting Second) (λ c. all_imply (cell_allowed First) (cell_allowed Second) cell_up c.words)
      (cs First set plan set_small plan_small ok) (held First set plan set_small plan_small ok).fits)
      (all_imply fields (operator_within Second) within-second (flatten (plan_of plan)) (tree_fields First set plan set_small plan_small ok))

  up_kept : Kept First Second set plan
  up_kept = kept First set plan set_small plan_small ok Second up_fits_lem

  up_columns : columns (tables_as Second (converted_set First Second set)) (plan_of (plan_in Second plan)) ≡ columns (tables_as First set) (plan_of plan)
  up_columns = ap₂ columns up_kept.tables up_kept.tree

  -- the rows, where no sum leaves version 1's range
  up_rows : sums_stay (reach_of First) (tables_as First set) (plan_of plan) outside ≡ true
      → eval_within (reach_of Second) (tables_as Second (converted_set First Second set)) (plan_of (plan_in Second plan)) outside
      ≡ eval_within (reach_of First) (tables_as First set) (plan_of plan) outside
  up_rows stays =
      ap₂ (λ (T : Tables) (p : Plan). eval_within (reach_of Second) T p outside) up_kept.tables up_kept.tree
      ∙ same_rows (reach_of First) (reach_of Second) (omega arith) (tables_as First set) (plan_of plan) outside stays

-- What the converter keeps.
pub conversion : Conversion
conversion =
    record {
      kept = λ from to set plan s p ok fit. kept from set plan s p ok to fit;
      up_fits = up_fits_lem;
      same_report = λ set plan s p ok stays. (up_columns set plan s p ok, up_rows set plan s p ok stays);
    }
