-- What the converter keeps (docs/DEFINITION.md, "The converter"). Definitions only; the proofs are in proofs/Laws.antt.
use Rattle.std.specs.Prelude.{ℕ, ◌<◌, true, ◌≡◌, List, get_or}
use Rattle.algebra.specs.Plans.{eval_within, columns}
use Rattle.algebra.specs.Rules.{outside}
use Rattle.algebra.specs.Conversion.{sums_stay}
use Rattle.reading.specs.Versions.{reach_of}
use Rattle.reading.specs.TableSet.{tables_as}
use Rattle.reading.specs.Tree.{plan_of}
use Rattle.reading.specs.Check.{input_refusal_as}
use Rattle.reading.specs.declared.version.Version.{Version}
use Rattle.reading.specs.declared.version.Version.TheVariants.{First, Second}
use Rattle.conversion.specs.Bytes.{plan_in}
use Rattle.conversion.specs.Convert.{converted_set, fit_number}

-- bytes, and nothing but bytes
abbrev pub AllBytes : List ℕ → Type 0
AllBytes s = (k : ℕ) → get_or s k 0 < 256

-- What is kept of a set and a plan of version `from` in version `to`: they are accepted, with the same tables and the same tree, and the way
-- back gives the same bytes.
pub record Kept (from to : Version) (set plan : List ℕ) : Type 0 where
  pub accepted : input_refusal_as to (converted_set from to set) (plan_in to plan) ≡ 0
  pub tables : tables_as to (converted_set from to set) ≡ tables_as from set
  pub tree : plan_of (plan_in to plan) ≡ plan_of plan
  pub fits_back : fit_number to from (converted_set from to set) (plan_in to plan) ≡ 0
  pub set_back : converted_set to from (converted_set from to set) ≡ set
  pub plan_back : plan_in from (plan_in to plan) ≡ plan

pub record Conversion : Type 1 where
  -- what version `from` accepts and version `to` has room for is kept
  pub kept : (from to : Version) (set plan : List ℕ) → AllBytes set → AllBytes plan → input_refusal_as from set plan ≡ 0 → fit_number from to set plan ≡ 0
      → Kept from to set plan
  -- on the way up everything fits
  pub up_fits : (set plan : List ℕ) → AllBytes set → AllBytes plan → input_refusal_as First set plan ≡ 0 → fit_number First Second set plan ≡ 0
  -- the report of a pair that was taken up has the columns and the rows of the old report, wherever no sum leaves version 1's range at any node
  pub same_report : (set plan : List ℕ) → AllBytes set → AllBytes plan → input_refusal_as First set plan ≡ 0
      → sums_stay (reach_of First) (tables_as First set) (plan_of plan) outside ≡ true
      → (columns (tables_as Second (converted_set First Second set)) (plan_of (plan_in Second plan)) ≡ columns (tables_as First set) (plan_of plan))
      × (eval_within (reach_of Second) (tables_as Second (converted_set First Second set)) (plan_of (plan_in Second plan)) outside
      ≡ eval_within (reach_of First) (tables_as First set) (plan_of plan) outside)
