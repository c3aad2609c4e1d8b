use native.Mathlib.Omega.{arith}
use mathlib.Core.Path.{◌≡◌, refl}
use mathlib.Core.List.{◌++◌}
use Rattle.algebra.specs.Lists.{upward}
use Rattle.reading.specs.TableSet.{tables_of}
use Rattle.reading.specs.Tree.{operator_by}
use Rattle.reading.specs.Nodes.{operator_new, key_of}
use Rattle.reading.specs.declared.kinds.Kind.{Kind}
use Rattle.reading.proofs.Operators.{just, one_of}
use Rattle.reading.proofs.IdLaws.{new_none}
use Rattle.reading.proofs.ids.new_ids.Goals as goal

pub returns-in-Scan : goal.returns-in-Scan
unfolding operator_by
returns-in-Scan c =
    (rw (c.in-Scan.is, ← c.table_from.ensures, ← c.columns_of.ensures.value), c.columns_of.ensures.upper_bound)

pub returns-in-Fold : goal.returns-in-Fold
unfolding operator_by
returns-in-Fold c =
    let n = c.args.node in
    let P : Kind → Type 0 = λ k. operator_new (tables_of c.args.set.now) (operator_by k n) ≡ key_of k n ++ upward 1 n.id in
    (one_of P refl (one_of P refl (just P refl)) c.in-Fold.is, omega arith)

pub returns-in_default : goal.returns-in_default
returns-in_default c =
    let n = c.args.node in
    let d = c.in_default in
    (new_none (tables_of c.args.set.now) n n.kind d.not-Scan d.not-Fold d.not-Pair d.not-Group, omega arith)
