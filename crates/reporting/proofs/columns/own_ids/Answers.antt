use Prim.Native.Nat.{ℕ}
use Rattle.algebra.specs.Lists.{all, upward}
use Rattle.algebra.specs.Refusals.{byte}
use Rattle.reading.specs.TableSet.{columns_of, tables_of}
use Rattle.reading.specs.Tree.{operator_of}
use Rattle.reading.specs.Nodes.{operator_new}
use Rattle.reading.proofs.Places.{upward-length}
use Rattle.reporting.specs.Columns.{own_columns}
use mathlib.Core.Path.{◌≡◌, sym, ap, ◌∙◌}
use native.Mathlib.Omega.{arith}
use lib.ListN.{length}
use Rattle.reporting.proofs.ColumnWays.{own-scan, new_scan, own-group, own-list, own-none}
use Rattle.reporting.proofs.columns.own_ids.Goals as goal
use Rattle.reporting.proofs.columns.own_ids.Goals.{After-columns_of-n}

run : (c : After-columns_of-n) → let a = c.args in let ids = upward c.columns_of-n.result a.node.id in (ids ≡ own_columns (tables_of a.set.now) (operator_of a.node)) × (ids ≡ operator_new (tables_of a.set.now) (operator_of a.node))
run c =
    let a = c.args in
    let e = ap (λ (n : ℕ). upward n a.node.id) (c.columns_of-n.ensures.value ∙ ap columns_of c.table_from.ensures) in
    (e ∙ sym (own-scan a.set.now a.node c.in-Scan.is), e ∙ sym (new_scan a.set.now a.node c.in-Scan.is))

pub ids_upward-requires : goal.ids_upward-requires
ids_upward-requires c =
    let r = run (goal.at.ids_upward-requires c).After-columns_of-n in
    (omega (arith, ap length r.0, upward-length c.columns_of-n.result c.args.node.id, c.requires.node_in_bounds), ap (all byte) r.1 ∙ c.requires.node_value.1)

pub returns-in-Scan : goal.returns-in-Scan
returns-in-Scan c =
    let r = run (goal.at.returns-in-Scan c).After-columns_of-n in
    (sym (upward-length c.columns_of-n.result c.args.node.id) ∙ ap length r.0, c.ids_upward.ensures ∙ r.0)

pub copy_ids-requires : goal.copy_ids-requires
copy_ids-requires c =
    let a = c.args in
    let e : length (own_columns (tables_of a.set.now) (operator_of a.node)) ≡ 2 = ap length (own-group a.set.now a.node c.in-Group.is) in
    omega (arith, c.requires.node_in_bounds)

pub returns-in-Group : goal.returns-in-Group
returns-in-Group c =
    let a = c.args in
    let e = own-group a.set.now a.node c.in-Group.is in
    (ap length (sym e), c.copy_ids.ensures ∙ sym e)

pub ids_listed-requires : goal.ids_listed-requires
ids_listed-requires c =
    let a = c.args in
    omega (arith, ap length (own-list a.set.now a.node c.in-Project.is), c.requires.node_in_bounds)

pub returns-in-Project : goal.returns-in-Project
returns-in-Project c =
    let a = c.args in
    let e = own-list a.set.now a.node c.in-Project.is in
    (c.ids_listed.ensures.0 ∙ ap length (sym e), c.ids_listed.ensures.1 ∙ sym e)

pub returns-in_default : goal.returns-in_default
returns-in_default c =
    let a = c.args in
    let d = c.in_default in
    let e = own-none a.set.now a.node d.not-Scan d.not-Project d.not-Distinct d.not-Group c.requires.node_value.0 in
    (ap length (sym e), sym e)
