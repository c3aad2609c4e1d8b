use mathlib.Core.Path.{◌≡◌, sym, ap, ◌∙◌, subst}
use mathlib.Core.List.{List, map}
use mathlib.Core.Logic.{inl, inr}
use Prim.Native.Nat.{ℕ, ◌*◌, ◌≤◌}
use native.Mathlib.Omega.{arith}
use native.Mathlib.Nat.{mul-le-mul_right}
use lib.Dec.{eqb}
use lib.ListN.{length, drop, length-take}
use Rattle.algebra.specs.Plans.{Row, cut}
use Rattle.reading.specs.declared.kinds.Kind.TheVariants.{Distinct}
use Rattle.reading.specs.Tree.{operator_of, node_list}
use Rattle.reporting.specs.Rows.{chunk, env_of, Gives, SortedBy, acted_columns}
use Rattle.reporting.specs.Evaluation.{CutsRoom}
use Rattle.reporting.proofs.Acts.{select_acts, project_acts}
use Rattle.reporting.proofs.Building.{cuts-inside}
use Rattle.reporting.proofs.ListActs.{distinct-kind, group-columns, sort-columns, group_region, sort_region, list-columns, group_acts, sort_acts, distinct_acts}
use borrow.Author.Rules.{rules}
use Rattle.reporting.proofs.act.act.Goals as goal
use Rattle.reporting.proofs.act.act.Goals.{In-Project, In_default}

columns-in-Project : (c : In-Project) → acted_columns (operator_of c.args.node) c.args.ids.now ≡ node_list c.args.node
columns-in-Project c = list-columns c.args.node c.args.ids.now (inl c.in-Project.is)

is-distinct : (c : In_default) → c.args.node.kind ≡ Distinct
is-distinct c =
    let d = c.in_default in
    distinct-kind c.args.node c.requires.node_value.0 d.not-Select d.not-Project d.not-Group d.not-Sort

columns-in_default : (c : In_default) → acted_columns (operator_of c.args.node) c.args.ids.now ≡ node_list c.args.node
columns-in_default c =
    let d = c.in_default in
    list-columns c.args.node c.args.ids.now (inr (distinct-kind c.args.node c.requires.node_value.0 d.not-Select d.not-Project d.not-Group d.not-Sort))

pub select-requires : goal.select-requires
select-requires c = (c.requires.node_value.1, c.requires.unary_room.cuts.inside)

pub returns-in-Select : goal.returns-in-Select
returns-in-Select c =
    let a = c.args in
    select_acts a.node a.ids.now (env_of a.env.now) (chunk a.m (length a.ids.now) (drop a.own a.cells.now)) a.m _ _ c.in-Select.is c.select.ensures

pub group-requires : goal.group-requires
group-requires c =
    let a = c.args in
    let p = c.requires in
    let e : a.m * length (acted_columns (operator_of a.node) a.ids.now) ≡ a.m * 2 = ap (λ (l : List ℕ). a.m * length l) (group-columns a.node a.ids.now c.in-Group.is) in record { kind_value = (c.in-Group.is, p.node_value.1, p.node_value.2, p.node_value.3); m_bound = (omega (arith, rw (group_region a.node a.ids.now c.in-Group.is) at p.unary_room.share), p.unary_room.cuts.inside) }

pub returns-in-Group : goal.returns-in-Group
returns-in-Group c =
    let a = c.args in
    group_acts a.node a.ids.now (env_of a.env.now) (chunk a.m (length a.ids.now) (drop a.own a.cells.now)) a.m _ _ c.in-Group.is c.group.ensures

pub sort_by-requires : goal.sort_by-requires
sort_by-requires c =
    let a = c.args in
    let p = c.requires in
    let ids = a.node.list in
    let long : length ids.ids ≡ 7 = search rules in
    let few : length c.as_slice-list.result.now ≤ 7 = omega (arith, ap length c.as_slice-list.ensures, length-take ids.count ids.ids) in
    let e = ap (λ (x : List ℕ). a.m * length x) (sort-columns a.node a.ids.now c.in-Sort.is) in record { ids_len_bound = (p.node_value.3, few); ids_bound = (omega (arith, rw (sort_region a.node a.ids.now c.in-Sort.is) at p.unary_room.share), p.unary_room.cuts.inside) }

pub returns-in-Sort : goal.returns-in-Sort
returns-in-Sort c =
    let a = c.args in
    let s = c.sort_by in
    let rows : List Row = chunk a.m (length a.ids.now) (drop a.own a.cells.now) in
    sort_acts a.node a.ids.now (env_of a.env.now) rows a.m s.result s.new.cells c.in-Sort.is
    (subst (λ (x : List ℕ). SortedBy (eqb a.node.arg 1) x a.ids.now rows (length a.ids.now) a.m s.result s.new.cells) c.as_slice-list.ensures s.ensures)

-- the cells that the call asks for, where the columns are the list's
cuts : (w own m n : ℕ) {columns list given : List ℕ} → columns ≡ list → given ≡ list → CutsRoom w (length columns) own m n → CutsRoom w (length given) own m n
cuts w own m n e f = subst (λ (x : List ℕ). CutsRoom w (length x) own m n) (e ∙ sym f)

pub project-requires : goal.project-requires
project-requires c =
    let a = c.args in
    let p = c.requires in
    (p.node_value.1, cuts (length a.ids.now) a.own a.m (length a.cells.now) (columns-in-Project (goal.at.project-requires c).In-Project) c.as_slice-list.ensures p.unary_room.cuts)

pub returns-in-Project : goal.returns-in-Project
returns-in-Project c =
    let a = c.args in
    let p = c.project in
    let rows : List Row = chunk a.m (length a.ids.now) (drop a.own a.cells.now) in
    project_acts a.node a.ids.now (env_of a.env.now) rows a.m p.result p.new.cells c.in-Project.is
    (subst (λ (x : List ℕ). Gives (map (cut x a.ids.now (env_of a.env.now)) rows) (length x) a.m p.result p.new.cells) c.as_slice-list.ensures p.ensures)

pub project-given-requires : goal.project-given-requires
project-given-requires c =
    let a = c.args in
    let p = c.requires in
    (p.node_value.1, cuts (length a.ids.now) a.own a.m (length a.cells.now) (columns-in_default (goal.at.project-given-requires c).In_default) c.as_slice-list.ensures p.unary_room.cuts)

pub distinct_front-requires : goal.distinct_front-requires
distinct_front-requires c =
    let a = c.args in
    let q = c.requires.unary_room in
    let l = c.as_slice-list in
    let p = c.project-given in
    let n : a.m * length l.result.now ≡ a.m * length (acted_columns (operator_of a.node) a.ids.now) = ap (λ (x : ℕ). a.m * x) (ap length (l.ensures ∙ sym (columns-in_default (goal.at.distinct_front-requires c).In_default))) in
    omega (arith, mul-le-mul_right (length l.result.now) p.ensures.few, cuts-inside a.m q.cuts, p.auto.cells)

pub returns-in_default : goal.returns-in_default
returns-in_default c =
    let a = c.args in
    let l = c.as_slice-list in
    let p = c.project-given in
    let d = c.distinct_front in
    let rows : List Row = chunk a.m (length a.ids.now) (drop a.own a.cells.now) in
    let cut-rows = subst (λ (x : List ℕ). Gives (map (cut x a.ids.now (env_of a.env.now)) rows) (length x) a.m p.result p.new.cells) l.ensures p.ensures in
    distinct_acts a.node a.ids.now (env_of a.env.now) rows a.m d.result d.new.cells (is-distinct (goal.at.returns-in_default c).In_default) p.result (length l.result.now) p.new.cells (ap length l.ensures) cut-rows d.ensures.gives
