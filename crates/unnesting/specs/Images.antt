-- The 32 bytes of a node (docs/DEFINITION.md, "A node"), and bytes written at a place. The contracts of helpers speak of these; the bytes
-- of a plan's tree are the reading layer's `plan_bytes`. Definitions only.
use Rattle.std.specs.Prelude.{ℕ, ◌+◌, Bool, true, false, List, ◌∷◌, ◌++◌, length, take, drop, replicate}
use Rattle.reading.specs.Encoding.{mark_byte, number_bytes}
use Rattle.reading.specs.Plan.{kind_number, comparison_number}
use Rattle.reading.specs.declared.kinds.Kind.{Kind}
use Rattle.reading.specs.declared.kinds.Kind.TheVariants.{Project}
use Rattle.reading.specs.declared.comparison.Comparison.{Comparison}
use Rattle.reading.specs.declared.comparison.Comparison.TheVariants.{Equal, Other}
use Rattle.reading.specs.declared.plan.Test.{Test}
use Rattle.reading.specs.declared.plan.Test.TheVariants.{Always, Columns, Number}
use Rattle.reading.specs.declared.plan.Node.{Node}
use Rattle.reading.specs.declared.version.Version.TheVariants.{Second}

-- bytes 16 to 31
abbrev pub test_image : Bool → Test → List ℕ
test_image m Always = 0 ∷ 0 ∷ mark_byte m ∷ 0 ∷ replicate 12 0
test_image m (Columns c l r) = 1 ∷ comparison_number c ∷ mark_byte m ∷ l ∷ r ∷ replicate 11 0
test_image m (Number c l w) = 2 ∷ comparison_number c ∷ mark_byte m ∷ l ∷ (number_bytes Second w ++ replicate 4 0)

-- every field in its place
unfoldable pub image : Node → List ℕ
image node =
    kind_number node.kind ∷ node.arg ∷ node.id ∷ node.left ∷ node.right ∷ comparison_number node.comparison ∷ node.column ∷ 0 ∷ node.list.count
    ∷ (node.list.ids ++ test_image node.negated node.test)

-- a node with no list
abbrev pub plain_node : Kind → ℕ → ℕ → ℕ → ℕ → Comparison → ℕ → Bool → Test → Node
plain_node kind arg id left right comparison column negated test =
    record {
      kind = kind;
      arg = arg;
      id = id;
      left = left;
      right = right;
      comparison = comparison;
      column = column;
      list = record { ids = replicate 7 0; count = 0 };
      negated = negated;
      test = test;
    }

-- a Project of one id
abbrev pub project_node : ℕ → Node
project_node id =
    record {
      kind = Project;
      arg = 0;
      id = 0;
      left = 0;
      right = 0;
      comparison = Equal;
      column = 0;
      list = record { ids = id ∷ replicate 6 0; count = 1 };
      negated = false;
      test = Always;
    }

-- a test's comparison; an always has none, and writes a 0
abbrev pub test_comparison : Test → Comparison
test_comparison Always = Equal
test_comparison (Columns c l r) = c
test_comparison (Number c l w) = c

-- a comparison that a byte of an accepted plan names
abbrev pub is_named : Comparison → Bool
is_named (Other byte) = false
is_named comparison = true

-- out with the bytes from a place on
abbrev pub bytes_written : List ℕ → ℕ → List ℕ → List ℕ
bytes_written out at bytes = take at out ++ (bytes ++ drop (at + length bytes) out)
