-- What the converter writes is at most 1,024,064 bytes of a set and 2,054 of a plan. Assumes nothing.
use Rattle.std.specs.Prelude.{Result}
use Prim.Native.Nat.{ℕ, zero, suc, ◌+◌, ◌*◌, ◌≤◌, ◌<◌}
use native.Mathlib.Omega.{arith}
use native.Mathlib.Nat.{mul-le-mul}
use mathlib.Core.Path.{◌≡◌, refl, ap}
use mathlib.Core.Bool.{true, ◌&&◌, and-eq-true_iff}
use mathlib.Core.List.{List}
use lib.Dec.{leb}
use lib.ListN.{length, length-append}
use borrow.Author.Tests.{leb-true}
use Rattle.algebra.specs.Lists.{flat_map, upward}
use Rattle.reading.specs.Versions.{cell_size, node_size}
use Rattle.reading.specs.TableSet.{columns_of, rows_of, size_allowed, read_set_as, amount_of, table_from}
use Rattle.reading.specs.Plan.{nodes_of}
use Rattle.reading.specs.Check.{plan_number, or_next, input_refusal_as}
use Rattle.reading.specs.declared.refusal.Refusal.{Refusal}
use Rattle.reading.specs.declared.version.Version.{Version}
use Rattle.reading.specs.declared.version.Version.TheVariants.{First, Second}
use Rattle.reading.proofs.Laws.{accepted-table}
use Rattle.reading.proofs.PlanBytes.{plan_known-as}
use Rattle.conversion.specs.Bytes.{table_bytes, set_bytes, plan_in}
use Rattle.conversion.specs.Convert.{converted_set, convert_number, count_after, answered_set, answered_plan, ConvertedFrom}
use Rattle.conversion.specs.declared.convert.Converted.{Converted}
use Rattle.conversion.proofs.Laws.{acceptance}
use Rattle.conversion.proofs.NodeBytes.{plan_size}
use Rattle.conversion.proofs.TableBytes.{table-long, tables-few}

-- a cell has at most 8 bytes, and a node at most 32, in either version
cell-few : (v : Version) (n : ℕ) → cell_size v * n ≤ 8 * n
cell-few First n = omega arith
cell-few Second n = omega arith

node_few : (v : Version) (n : ℕ) → node_size v * n ≤ 32 * n
node_few First n = omega arith
node_few Second n = omega arith

table-few : (v : Version) (t : List ℕ) → size_allowed t ≡ true → 8 ≤ length t → length (table_bytes v t) ≤ 128008
table-few v t h l =
    let rest = ((and-eq-true_iff (leb 1 (columns_of t)) (leb (columns_of t) 16 && leb (rows_of t) 1000)).0 h).1 in
    let (wide, deep) = (and-eq-true_iff (leb (columns_of t) 16) (leb (rows_of t) 1000)).0 rest in
    let cells : columns_of t * rows_of t ≤ 16 * 1000 = mul-le-mul (leb-true _ _ wide) (leb-true _ _ deep) in
    omega (arith, cells, cell-few v (columns_of t * rows_of t), table-long v t l)

-- so many tables, each of which is at most so long
tables-long : (f : ℕ → List ℕ) (most n k : ℕ) → ((t : ℕ) → k ≤ t → t < k + n → length (f t) ≤ most) → length (flat_map f (upward n k)) ≤ n * most
tables-long f most zero k h = omega arith
tables-long f most (suc n) k h =
    omega (
      arith,
      length-append (f k) (flat_map f (upward n (suc k))),
      h k (omega arith) (omega arith),
      tables-long f most n (suc k) (λ t l m. h t (omega arith) (omega arith)),
    )

module _ (from to : Version) (set plan : List ℕ) (a : input_refusal_as from set plan ≡ 0) where
  set-few : length (converted_set from to set) ≤ 1024064
  unfolding set_bytes
  set-few =
      let m : ℕ = amount_of (read_set_as from set) in
      let read = (acceptance from set plan a).set_read in
      let each : (t : ℕ) → 0 ≤ t → t < 0 + m → length (table_bytes to (table_from t set)) ≤ 128008 =
      λ t l h. let whole = accepted-table from set m t read (omega arith) in table-few to (table_from t set) whole.size (omega (arith, whole.fits)) in
      omega (arith, tables-few from set m read, tables-long (λ t. table_bytes to (table_from t set)) 128008 m 0 each)

  plan_few : length (plan_in to plan) ≤ 2054
  plan_few =
      let A = acceptance from set plan a in
      let known = plan_known-as from plan (ap plan_number A.plan_read) in
      omega (arith, known.most, node_few to (nodes_of plan), plan_size from to plan _ A.plan_read A.whole)

-- What is written is short: so the counts fit into one word.
pub converted-few : (from to : Version) (set plan set_out set_out' plan_out plan_out' : List ℕ) (r : Result Converted Refusal)
    → ConvertedFrom from to set plan set_out set_out' plan_out plan_out' r → (answered_set r ≤ 1024064) × (answered_plan r ≤ 2054)
unfolding convert_number
converted-few from to set plan set_out set_out' plan_out plan_out' r e =
    let z : ℕ = convert_number from to set plan (length set_out) (length plan_out) in
    let a : z ≡ 0 → input_refusal_as from set plan ≡ 0 = λ h. first (input_refusal_as from set plan) _ h in
    let s : count_after z (length (converted_set from to set)) ≤ 1024064 = few z _ 1024064 (λ h. set-few from to set plan (a h)) in
    let p : count_after z (length (plan_in to plan)) ≤ 2054 = few z _ 2054 (λ h. plan_few from to set plan (a h)) in
    (omega (arith, e.set_count, s), omega (arith, e.plan_count, p))
  where
    first : (x y : ℕ) → or_next x y ≡ 0 → x ≡ 0
    first zero y h = refl
    first (suc x) y h = h

    few : (z n most : ℕ) → (z ≡ 0 → n ≤ most) → count_after z n ≤ most
    few zero n most h = h refl
    few (suc z) n most h = omega arith
