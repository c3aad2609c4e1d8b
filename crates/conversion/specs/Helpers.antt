-- What the contracts of the converter's own functions speak of. Definitions only.
use Rattle.std.specs.Prelude.{ℕ, ◌+◌, ◌*◌, ◌-◌, ◌≤◌, ◌<◌, Bool, true, ◌≡◌, List, ◌∷◌, ◌++◌, length, take, drop, replicate, Ok}
use Rattle.algebra.specs.Lists.{flat_map, upward}
use Rattle.algebra.specs.Cells.{within_reach}
use Rattle.reading.specs.Bytes.{all_below}
use Rattle.reading.specs.Versions.{cell_size, node_size, test_size, reach_of}
use Rattle.reading.specs.TableSet.{read_set_as, columns_of, rows_of, table_from}
use Rattle.reading.specs.Plan.{plan_version, read_plan_as, node_at, nodes_of, plan_mark}
use Rattle.reading.specs.Tree.{whole_tree}
use Rattle.reading.specs.Check.{input_refusal_as}
use Rattle.reading.specs.Encoding.{number_bytes}
use Rattle.reading.specs.declared.version.Version.{Version}
use Rattle.reading.specs.declared.plan.Test.{Test}
use Rattle.reading.specs.declared.plan.Test.TheVariants.{Always, Columns, Number}

-- a set and a plan that 1 to 14 of version v do not turn back, and what was read of them
pub record AcceptedAs (v : Version) (set plan : List ℕ) (tables : ℕ) : Type 0 where
  pub accepted : input_refusal_as v set plan ≡ 0
  pub set_read : read_set_as v set ≡ Ok tables
  pub plan_read : read_plan_as v plan ≡ Ok (nodes_of plan)
  pub whole : whole_tree plan ≡ true

-- out with the bytes from a place on
abbrev pub bytes_written : List ℕ → ℕ → List ℕ → List ℕ
bytes_written out at bytes = take at out ++ (bytes ++ drop (at + length bytes) out)

-- ---- tables

-- the bytes of a table's cells in version v
abbrev pub cell_room : Version → List ℕ → ℕ
cell_room v table = cell_size v * (columns_of table * rows_of table)

-- each of the n tables has its header's 8 bytes
pub record Headed (n : ℕ) (set : List ℕ) : Type 0 where
  pub long : (t : ℕ) → t < n → 8 ≤ length (table_from t set)

-- ---- plans

-- the place after node i
abbrev pub node_end : List ℕ → ℕ → ℕ
node_end plan i = 6 + node_size (plan_version plan) * i + node_size (plan_version plan)

-- a test's number can be written in version v
abbrev pub test_fits : Version → Test → Bool
test_fits v Always = true
test_fits v (Columns c l r) = true
test_fits v (Number c l w) = within_reach (reach_of v) w

-- a node's bytes from byte 20 on, by its test: the right column or the number, and zeros to the node's end
abbrev pub test_tail : Version → Test → List ℕ
test_tail v Always = replicate (test_size v - 4) 0
test_tail v (Columns c l r) = r ∷ replicate (test_size v - 5) 0
test_tail v (Number c l w) = number_bytes v w ++ replicate (test_size v - 4 - cell_size v) 0

-- the test of every node can be written in version v
unfoldable pub nodes_fit : Version → List ℕ → Bool
nodes_fit v plan = all_below (nodes_of plan) (λ i. test_fits v (node_at plan i).test)

-- node i in version v: bytes 0 to 19 are the same in both versions
unfoldable pub node_in : Version → List ℕ → ℕ → List ℕ
node_in v plan i = take 20 (drop (6 + node_size (plan_version plan) * i) plan) ++ test_tail v (node_at plan i).test

-- the header and the nodes in version v
unfoldable pub nodes_in : Version → List ℕ → List ℕ
nodes_in v plan = plan_mark v ++ (nodes_of plan ∷ flat_map (node_in v plan) (upward (nodes_of plan) 0))
