-- What U3, U4 and U6 ask of a node's children, and the change that U3 and U4 bring. The contracts of helpers speak of these; the rules are the
-- algebra's `u3` and `u6`. Definitions only.
use Rattle.std.specs.Prelude.{ℕ, ◌+◌, Bool, false, cond, ◌&&◌, eqb}
use Rattle.algebra.specs.Cells.{origin}
use Rattle.algebra.specs.Plans.{Tables, Plan}
use Rattle.algebra.specs.Names.{closed}
use Rattle.algebra.specs.Rules.{Only, only, another, only_of}
use Rattle.reading.specs.declared.plan.Test.{Test}
use Rattle.reading.specs.declared.plan.Test.TheVariants.{Number}
use Rattle.reading.specs.declared.kinds.Kind.TheVariants.{Select, Group}
use Rattle.reading.specs.declared.comparison.Comparison.TheVariants.{Equal, Greater}
use Rattle.reading.specs.declared.plan.Node.{Node}
use Rattle.reporting.specs.Sides.{is_anti}
use Rattle.unnesting.specs.Images.{plain_node, project_node}
use Rattle.unnesting.specs.declared.change.Change.{Change}
use Rattle.unnesting.specs.declared.change.More.TheVariants.{Two}

-- a Distinct of this column alone
abbrev pub key_only : ℕ → {e : Plan} → Only e → Bool
key_only key (only k p) = eqb k key
key_only key (another e) = false

-- e a Distinct of the left key alone; e and f closed
abbrev pub keyed : Tables → ℕ → Plan → Plan → Bool
keyed T key e f = key_only key (only_of e) && (closed T e && closed T f)

-- Project of the left key over Select of c > 0, where the node is an Anti of c = 0, over Group of the tree at h.
abbrev pub count_change : ℕ → Node → ℕ → Bool → Test → ℕ → Change
count_change i node c negated test h =
    record {
      first = project_node node.left;
      keep = i + 1;
      more = Two (plain_node Select 0 0 0 0 Equal 0 false (Number (cond (is_anti node.kind) Equal Greater) c origin)) (plain_node Group 0 c node.left node.right Equal 0 negated test);
      from = h;
    }
