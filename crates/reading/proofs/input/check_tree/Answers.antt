use Rattle.std.specs.Prelude.{ℕ, Ok}
use mathlib.Core.Path.{◌≡◌, refl, sym, ap, ◌∙◌}
use mathlib.Core.Bool.{true}
use mathlib.Core.List.{[]}
use Rattle.algebra.specs.Refusals.{found, once, in_view, narrow, low}
use Rattle.reading.specs.Bytes.{all_below}
use Rattle.reading.specs.TableSet.{known_tables, tables_of}
use Rattle.reading.specs.Plan.{nodes_of}
use Rattle.reading.specs.Tree.{operator_at, plan_at, plan_of, whole_tree}
use Rattle.reading.specs.Nodes.{ids_of}
use Rattle.reading.proofs.FlagLaws.{flags_none}
use Rattle.reading.proofs.Places.{whole-all}
use Rattle.reading.proofs.Acceptance.{check_tree, check_11, check_12_once, check_12_view, check_13, check_14, check-passed}
use Rattle.reading.proofs.input.check_tree.Goals as goal
use Rattle.reading.proofs.input.check_tree.Goals.{After-tables_found, After-tree_seen, Else-not-bounds_low, Else-not-ids_once, Else-not-rows_narrow, Else-not-tables_found, Else-not-tree_seen, Else-not-whole_tree}

whole : (c : Else-not-whole_tree) → whole_tree c.args.plan.now ≡ true
whole c = sym c.whole_tree.ensures ∙ c.if-not-whole_tree.false

found-is : (c : After-tables_found) → c.tables_found.result ≡ all_below (nodes_of c.args.plan.now) (λ i. found (known_tables c.args.tables c.args.set.now) (operator_at c.args.plan.now i))
found-is c = c.tables_found.ensures.decides (known_tables c.args.tables c.args.set.now) refl

found_all : (c : Else-not-tables_found) → all_below (nodes_of c.args.plan.now) (λ i. found (known_tables c.args.tables c.args.set.now) (operator_at c.args.plan.now i)) ≡ true
found_all c = sym (c.tables_found.ensures.decides (known_tables c.args.tables c.args.set.now) refl) ∙ c.if-not-tables_found.false

once-all : (c : Else-not-ids_once) → once (ids_of (tables_of c.args.set.now) c.args.plan.now (nodes_of c.args.plan.now) 0) ≡ true
once-all c = sym c.ids_once.ensures ∙ c.if-not-ids_once.false

seen-is : (c : After-tree_seen) → c.tree_seen.result ≡ in_view (tables_of c.args.set.now) [] (plan_of c.args.plan.now)
seen-is c = c.tree_seen.ensures.decides [] flags_none

seen_all : (c : Else-not-tree_seen) → in_view (tables_of c.args.set.now) [] (plan_of c.args.plan.now) ≡ true
seen_all c = sym (c.tree_seen.ensures.decides [] flags_none) ∙ c.if-not-tree_seen.false

narrow-all : (c : Else-not-rows_narrow) → all_below (nodes_of c.args.plan.now) (λ i. narrow (tables_of c.args.set.now) (plan_at c.args.plan.now i)) ≡ true
narrow-all c = sym c.rows_narrow.ensures ∙ c.if-not-rows_narrow.false

low-all : (c : Else-not-bounds_low) → all_below (nodes_of c.args.plan.now) (λ i. low (tables_of c.args.set.now) (plan_at c.args.plan.now i)) ≡ true
low-all c = sym c.bounds_low.ensures ∙ c.if-not-bounds_low.false

pub returns-then-not-whole_tree : goal.returns-then-not-whole_tree
returns-then-not-whole_tree c =
    let a = c.args in
    sym (check_tree a.version a.set.now a.plan.now a.tables a.nodes c.requires (sym c.whole_tree.ensures ∙ c.if-not-whole_tree.true))

pub returns-then-not-tables_found : goal.returns-then-not-tables_found
returns-then-not-tables_found c =
    let a = c.args in
    sym (check_11 a.version a.set.now a.plan.now a.tables a.nodes c.requires (whole (goal.at.returns-then-not-tables_found c).Else-not-whole_tree) (sym (found-is (goal.at.returns-then-not-tables_found c).After-tables_found) ∙ c.if-not-tables_found.true))

pub returns-then-not-ids_once : goal.returns-then-not-ids_once
returns-then-not-ids_once c =
    let a = c.args in
    sym (check_12_once a.version a.set.now a.plan.now a.tables a.nodes c.requires (whole (goal.at.returns-then-not-ids_once c).Else-not-whole_tree) (found_all (goal.at.returns-then-not-ids_once c).Else-not-tables_found) (sym c.ids_once.ensures ∙ c.if-not-ids_once.true))

pub returns-then-not-tree_seen : goal.returns-then-not-tree_seen
returns-then-not-tree_seen c =
    let a = c.args in
    sym (check_12_view a.version a.set.now a.plan.now a.tables a.nodes c.requires (whole (goal.at.returns-then-not-tree_seen c).Else-not-whole_tree) (found_all (goal.at.returns-then-not-tree_seen c).Else-not-tables_found) (once-all (goal.at.returns-then-not-tree_seen c).Else-not-ids_once) (sym (seen-is (goal.at.returns-then-not-tree_seen c).After-tree_seen) ∙ c.if-not-tree_seen.true))

pub returns-then-not-rows_narrow : goal.returns-then-not-rows_narrow
returns-then-not-rows_narrow c =
    let a = c.args in
    sym (check_13 a.version a.set.now a.plan.now a.tables a.nodes c.requires (whole (goal.at.returns-then-not-rows_narrow c).Else-not-whole_tree) (found_all (goal.at.returns-then-not-rows_narrow c).Else-not-tables_found) (once-all (goal.at.returns-then-not-rows_narrow c).Else-not-ids_once) (seen_all (goal.at.returns-then-not-rows_narrow c).Else-not-tree_seen) (sym c.rows_narrow.ensures ∙ c.if-not-rows_narrow.true))

pub returns-then-not-bounds_low : goal.returns-then-not-bounds_low
returns-then-not-bounds_low c =
    let a = c.args in
    sym (check_14 a.version a.set.now a.plan.now a.tables a.nodes c.requires (whole (goal.at.returns-then-not-bounds_low c).Else-not-whole_tree) (found_all (goal.at.returns-then-not-bounds_low c).Else-not-tables_found) (once-all (goal.at.returns-then-not-bounds_low c).Else-not-ids_once) (seen_all (goal.at.returns-then-not-bounds_low c).Else-not-tree_seen) (narrow-all (goal.at.returns-then-not-bounds_low c).Else-not-rows_narrow) (sym c.bounds_low.ensures ∙ c.if-not-bounds_low.true))

pub need_of-requires : goal.need_of-requires
need_of-requires c =
    let a = c.args in
    let w = whole (goal.at.need_of-requires c).Else-not-whole_tree in
    record { plan_value = whole-all a.plan.now w (narrow (tables_of a.set.now)) ∙ narrow-all (goal.at.need_of-requires c).Else-not-rows_narrow; plan_value_2 = whole-all a.plan.now w (low (tables_of a.set.now)) ∙ low-all (goal.at.need_of-requires c).Else-not-bounds_low }

pub returns : goal.returns
returns c =
    let a = c.args in
    ap (λ (cells : ℕ). Ok (record { tables = a.tables; nodes = a.nodes; need = cells })) c.need_of.ensures
    ∙ sym (check-passed a.version a.set.now a.plan.now a.tables a.nodes c.requires (whole (goal.at.returns c).Else-not-whole_tree) (found_all (goal.at.returns c).Else-not-tables_found) (once-all (goal.at.returns c).Else-not-ids_once) (seen_all (goal.at.returns c).Else-not-tree_seen) (narrow-all (goal.at.returns c).Else-not-rows_narrow) (low-all (goal.at.returns c).Else-not-bounds_low))
