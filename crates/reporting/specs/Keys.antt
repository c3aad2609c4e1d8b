-- Which kinds have a test, keys and an aggregate, as private contracts speak of them; which rows pass and what is measured is the
-- operator's (Rows), and agrees with these by a law. Definitions only.
use Rattle.std.specs.Prelude.{Bool, true, false, not, ◌||◌}
use Rattle.algebra.specs.Cells.{Comparison, eq, compares}
use Rattle.algebra.specs.Plans.{Env}
use Rattle.reading.specs.Tree.{comparison_of}
use Rattle.reading.specs.declared.kinds.Kind.{Kind}
use Rattle.reading.specs.declared.kinds.Kind.TheVariants.{Select, Semi, Anti, Some, Every, Fold, Pair, Group}
use Rattle.reading.specs.declared.comparison.Comparison.{Comparison as NamedComparison}
use Rattle.reading.specs.declared.plan.Node.{Node}

-- Select; Semi to Fold; Pair and Group
unfoldable pub has_test : Kind → Bool
has_test Select = true
has_test Semi = true
has_test Anti = true
has_test Some = true
has_test Every = true
has_test Fold = true
has_test Pair = true
has_test Group = true
has_test kind = false

-- Semi, Anti, Some and Every: a left row is kept or not
unfoldable pub keeps_rows : Kind → Bool
keeps_rows Semi = true
keeps_rows Anti = true
keeps_rows Some = true
keeps_rows Every = true
keeps_rows kind = false

-- Semi and Anti; Pair and Group
unfoldable pub has_keys : Kind → Bool
has_keys Semi = true
has_keys Anti = true
has_keys Pair = true
has_keys Group = true
has_keys kind = false

-- Fold; Pair and Group
unfoldable pub has_aggregate : Kind → Bool
has_aggregate Fold = true
has_aggregate Pair = true
has_aggregate Group = true
has_aggregate kind = false

-- = for a Semi and an Anti, the node's own for a Pair and a Group
unfoldable pub key_comparison : Kind → NamedComparison → Comparison
key_comparison Pair named = comparison_of named
key_comparison Group named = comparison_of named
key_comparison kind named = eq

-- the left key compared with the right key; a kind without keys asks nothing
unfoldable pub keys_hold : Kind → Node → Env → Bool
keys_hold kind node env = not (has_keys kind) || compares (key_comparison kind node.comparison) (env node.left) (env node.right)
