-- What the evaluator's cycle leaves to show, a part for each member.
use mathlib.Core.Path.{◌≡◌, sym, ap, ◌∙◌, subst, refl}
use Prim.Native.Nat.{ℕ, ◌+◌, ◌-◌, ◌≤◌, ◌<◌, ◌*◌}
use native.Mathlib.Omega.{arith}
use lib.ListN.{length}
use Rattle.reading.specs.TableSet.{tables_of}
use Rattle.reading.specs.Tree.{operator_of, plan_at}
use Rattle.reading.specs.Nodes.{arity}
use Rattle.reporting.specs.Rows.{env_of, emitted_columns, emitted_most}
use Rattle.reporting.specs.Evaluation.{part_at, columns_at, bound_at, StepRoom}
use Rattle.reading.specs.Plan.{nodes_of}
use Rattle.reading.proofs.Operators.{arity_of}
use Rattle.reading.proofs.Trees.{plan_past, second_at}
use borrow.Rule.Slice.PartMut.{put_mid, same_len_mid}
use Rattle.reporting.proofs.Soundness.{sound-bound, sound-width}
use Rattle.reporting.proofs.Children.{First, Single, Double, childless-at, first-at, single-at, double-at, two_of, keeps_rows}
use Rattle.reporting.proofs.Arms.{Kid, kid_of, past_arm, leaf_room, leaf_arm, own-fits, child_ready, unary_room, unary_arm, behind-fits, inner_ready, right-inside, few_of, loop_room, nested_arm, binary_arm, ids-part, rows_fit, step_less, step_arm}
use Rattle.reporting.proofs.Lent.{tail_length}
use mathlib.Core.List.{List}
use Rattle.reporting.proofs.Chunks.{rows_left_lem, turns, part-row, part_length}
use Rattle.reporting.proofs.Building.{building_start, building_done, building_turn, building_row, turn_below, turn-ends}
use Rattle.algebra.specs.Plans.{Row, bind}
use Rattle.reporting.proofs.eval.+eval_nested_at_nested_loop_row_step.Goals as goal
use Rattle.reporting.proofs.eval.+eval_nested_at_nested_loop_row_step.Goals.{eval-After-children_of-children, eval-After-eval-k, eval-After-eval-m, eval-After-tree_end-right, eval-After-tree_part, eval-Else-children-eq0, eval-Else-children-eq1, eval-Else-nodes_of-at, eval-Then-children-eq1, nested_loop-After-emitted_width-wo, nested_loop-After-row_step-r, nested_loop-In-loop, row_step-After-eval-k}

-- ---- eval

eval-here : (t : ℕ) (c : eval-Else-nodes_of-at t) → let a = c.args in a.at < nodes_of a.plan.now
eval-here t c = omega (arith, c.if-nodes_of-at.false, c.nodes_of.ensures.0)

eval-kinds : (t : ℕ) (c : eval-After-children_of-children t) → c.children_of-children.result ≡ arity (operator_of c.node_at-node.result)
eval-kinds t c = c.children_of-children.ensures ∙ arity_of c.node_at-node.result

-- the node has a first child
eval-first : (t : ℕ) (c : eval-Else-children-eq0 t) → let a = c.args in First (tables_of a.set.now) (operator_of c.node_at-node.result) (plan_at a.plan.now a.at) (plan_at a.plan.now (a.at + 1))
eval-first t c =
    let a = c.args in
    let inside : a.at < nodes_of a.plan.now = omega (arith, c.if-nodes_of-at.false, c.nodes_of.ensures.0) in
    let kinds = c.children_of-children.ensures ∙ arity_of c.node_at-node.result in
    first-at (tables_of a.set.now) a.plan.now a.at c.node_at-node.result inside c.node_at-node.ensures (λ e. c.if-children-eq0.false (kinds ∙ e))

-- after the first child: the whole has its length, and the child's rows lie in the part
eval-back : (t : ℕ) (c : eval-After-eval-m t) → let a = c.args in let own = c.share_at-own.result in let last = c.eval-m.new.cells in First (tables_of a.set.now) (operator_of c.node_at-node.result) (plan_at a.plan.now a.at) (plan_at a.plan.now (a.at + 1)) → (length (put_mid own (length a.cells.now - own) a.cells.now last) ≡ length a.cells.now) × Kid (tables_of a.set.now) (plan_at a.plan.now (a.at + 1)) (env_of a.env.now) c.eval-m.result last
eval-back t c first =
    let a = c.args in
    let own = c.share_at-own.result in
    let last = c.eval-m.new.cells in
    let len : length last ≡ length a.cells.now - own = c.eval-m.auto.cells ∙ tail_length own a.cells.now in (
      same_len_mid own (length a.cells.now - own) a.cells.now last c.eval-m.auto.cells,
      kid_of (child_ready c.requires first c.share_at-own.ensures.0 (length last) len) c.eval-m.ensures,
    )

-- it is the only one
eval-only : (t : ℕ) (c : eval-Then-children-eq1 t) → let a = c.args in Single (tables_of a.set.now) (operator_of c.node_at-node.result) (plan_at a.plan.now a.at) (plan_at a.plan.now (a.at + 1))
eval-only t c =
    let a = c.args in
    let inside : a.at < nodes_of a.plan.now = omega (arith, c.if-nodes_of-at.false, c.nodes_of.ensures.0) in
    let kinds = c.children_of-children.ensures ∙ arity_of c.node_at-node.result in
    single-at (tables_of a.set.now) a.plan.now a.at c.node_at-node.result inside c.node_at-node.ensures (sym kinds ∙ c.if-children-eq1.true)

-- there are two
eval-pair : (t : ℕ) (c : eval-Else-children-eq1 t) → arity (operator_of c.node_at-node.result) ≡ 2
eval-pair t c =
    let kinds = c.children_of-children.ensures ∙ arity_of c.node_at-node.result in
    two_of (operator_of c.node_at-node.result) (λ z. c.if-children-eq0.false (kinds ∙ z)) (λ z. c.if-children-eq1.false (kinds ∙ z))

eval-both : (t : ℕ) (c : eval-After-tree_end-right t) → let a = c.args in arity (operator_of c.node_at-node.result) ≡ 2 → Double (tables_of a.set.now) (operator_of c.node_at-node.result) (plan_at a.plan.now a.at) (plan_at a.plan.now (a.at + 1)) (plan_at a.plan.now c.tree_end-right.result)
eval-both t c pair =
    let a = c.args in
    let inside : a.at < nodes_of a.plan.now = omega (arith, c.if-nodes_of-at.false, c.nodes_of.ensures.0) in
    let T = tables_of a.set.now in
    let node = c.node_at-node.result in
    subst (Double T (operator_of node) (plan_at a.plan.now a.at) (plan_at a.plan.now (a.at + 1))) (sym (second_at a.plan.now a.at c.tree_end-right.result c.tree_end-right.ensures))
    (double-at T a.plan.now a.at node inside c.node_at-node.ensures pair)

-- the second child's part starts behind the first's, within the whole
eval-behind-at : (t : ℕ) (c : eval-After-tree_part t) → let a = c.args in c.share_at-own.result + c.tree_part.result ≡ c.share_at-own.result + part_at a.set.now a.plan.now (a.at + 1)
eval-behind-at t c = ap (λ (x : ℕ). c.share_at-own.result + x) c.tree_part.ensures

eval-within : (t : ℕ) (c : eval-After-tree_part t) → let a = c.args in First (tables_of a.set.now) (operator_of c.node_at-node.result) (plan_at a.plan.now a.at) (plan_at a.plan.now (a.at + 1)) → Double (tables_of a.set.now) (operator_of c.node_at-node.result) (plan_at a.plan.now a.at) (plan_at a.plan.now (a.at + 1)) (plan_at a.plan.now c.tree_end-right.result) → c.share_at-own.result + c.tree_part.result ≤ length a.cells.now
eval-within t c first both = behind-fits both c.requires first c.share_at-own.ensures.0 (eval-behind-at t c)

eval-beyond : (t : ℕ) (c : eval-After-tree_part t) → let a = c.args in let own = c.share_at-own.result in own + c.tree_part.result ≤ length a.cells.now → length (put_mid own (length a.cells.now - own) a.cells.now c.eval-m.new.cells) ≡ length a.cells.now → own + c.tree_part.result ≤ length (put_mid own (length a.cells.now - own) a.cells.now c.eval-m.new.cells)
eval-beyond t c within long = omega arith

-- after the second child
eval-back₂ : (t : ℕ) (c : eval-After-eval-k t) → let a = c.args in let own = c.share_at-own.result in let cells = put_mid own (length a.cells.now - own) a.cells.now c.eval-m.new.cells in let behind = own + c.tree_part.result in let last = c.eval-k.new.cells in First (tables_of a.set.now) (operator_of c.node_at-node.result) (plan_at a.plan.now a.at) (plan_at a.plan.now (a.at + 1)) → Double (tables_of a.set.now) (operator_of c.node_at-node.result) (plan_at a.plan.now a.at) (plan_at a.plan.now (a.at + 1)) (plan_at a.plan.now c.tree_end-right.result) → length cells ≡ length a.cells.now → (length (put_mid behind (length cells - behind) cells last) ≡ length a.cells.now) × Kid (tables_of a.set.now) (plan_at a.plan.now c.tree_end-right.result) (env_of a.env.now) c.eval-k.result last
eval-back₂ t c first both long =
    let a = c.args in
    let own = c.share_at-own.result in
    let cells = put_mid own (length a.cells.now - own) a.cells.now c.eval-m.new.cells in
    let behind = own + c.tree_part.result in
    let last = c.eval-k.new.cells in
    let b = ap (λ (x : ℕ). own + x) c.tree_part.ensures in
    let len : length last ≡ length a.cells.now - behind = c.eval-k.auto.cells ∙ tail_length behind cells ∙ ap (λ (x : ℕ). x - behind) long in (
      same_len_mid behind (length cells - behind) cells last c.eval-k.auto.cells ∙ long,
      kid_of (inner_ready both c.requires first c.share_at-own.ensures.0 b (length last) len) c.eval-k.ensures,
    )

pub eval-returns-then-nodes_of-at : goal.eval-returns-then-nodes_of-at
eval-returns-then-nodes_of-at t c =
    let a = c.args in
    past_arm (tables_of a.set.now) (plan_at a.plan.now a.at) (env_of a.env.now) a.cells.now (plan_past a.plan.now a.at (omega (arith, c.if-nodes_of-at.true, c.nodes_of.ensures.0)))

pub eval-leaf-requires : goal.eval-leaf-requires
eval-leaf-requires t c =
    let place = goal.at.eval-leaf-requires t c in
    let a = c.args in
    leaf_room (childless-at (tables_of a.set.now) a.plan.now a.at c.node_at-node.result (eval-here t place.Else-nodes_of-at) c.node_at-node.ensures (sym (eval-kinds t place.After-children_of-children) ∙ c.if-children-eq0.true)) c.requires

pub eval-shape_of-cells-then-children-eq0 : goal.eval-shape_of-cells-then-children-eq0
eval-shape_of-cells-then-children-eq0 t c = c.leaf.auto.cells

pub eval-returns-then-children-eq0 : goal.eval-returns-then-children-eq0
eval-returns-then-children-eq0 t c =
    let place = goal.at.eval-returns-then-children-eq0 t c in
    let a = c.args in
    leaf_arm (childless-at (tables_of a.set.now) a.plan.now a.at c.node_at-node.result (eval-here t place.Else-nodes_of-at) c.node_at-node.ensures (sym (eval-kinds t place.After-children_of-children) ∙ c.if-children-eq0.true)) (env_of a.env.now) c.leaf.ensures

pub eval-share_at-own-requires : goal.eval-share_at-own-requires
eval-share_at-own-requires t c = c.requires.sound

pub eval-overflow_add-left : goal.eval-overflow_add-left
eval-overflow_add-left t c =
    let place = goal.at.eval-overflow_add-left t c in
    omega (arith, eval-here t place.Else-nodes_of-at, c.nodes_of.ensures)

pub eval-offset_bounds-cells-own : goal.eval-offset_bounds-cells-own
eval-offset_bounds-cells-own t c = omega (arith, c.share_at-own.ensures.1)

pub eval-slice_bounds-eval-count : goal.eval-slice_bounds-eval-count
eval-slice_bounds-eval-count t c =
    let place = goal.at.eval-slice_bounds-eval-count t c in
    let first = eval-first t place.Else-children-eq0 in
    own-fits c.requires first c.share_at-own.ensures.0

pub eval-slice_bounds-eval-start : goal.eval-slice_bounds-eval-start
eval-slice_bounds-eval-start t c =
    let place = goal.at.eval-slice_bounds-eval-start t c in
    let first = eval-first t place.Else-children-eq0 in
    own-fits c.requires first c.share_at-own.ensures.0

pub eval-eval-m-requires : goal.eval-eval-m-requires
eval-eval-m-requires t c =
    let place = goal.at.eval-eval-m-requires t c in
    let first = eval-first t place.Else-children-eq0 in
    (omega (arith, first.smaller, c.decreases), child_ready c.requires first c.share_at-own.ensures.0 _ (tail_length c.share_at-own.result c.args.cells.now))

pub eval-unary_at-requires : goal.eval-unary_at-requires
eval-unary_at-requires t c =
    let place = goal.at.eval-unary_at-requires t c in
    let first = eval-first t place.Else-children-eq0 in
    let back = eval-back t place.After-eval-m first in
    let R = c.requires in
    let few = c.eval-m.ensures.few in
    let sound = first.sound R.sound in record { sound_at = (sound, sym (eval-kinds t place.After-children_of-children) ∙ c.if-children-eq1.true, R.bound, omega (arith, few, sound-bound sound)); unary_room = rw back.0 (unary_room (eval-only t place.Then-children-eq1) _ R first c.share_at-own.ensures.0 few) }

pub eval-shape_of-cells-then-children-eq1 : goal.eval-shape_of-cells-then-children-eq1
eval-shape_of-cells-then-children-eq1 t c =
    let place = goal.at.eval-shape_of-cells-then-children-eq1 t c in
    let first = eval-first t place.Else-children-eq0 in
    let back = eval-back t place.After-eval-m first in
    c.unary_at.auto.cells ∙ back.0

pub eval-returns-then-children-eq1 : goal.eval-returns-then-children-eq1
eval-returns-then-children-eq1 t c =
    let place = goal.at.eval-returns-then-children-eq1 t c in
    let first = eval-first t place.Else-children-eq0 in
    let back = eval-back t place.After-eval-m first in
    let a = c.args in
    let own = c.share_at-own.result in
    unary_arm (eval-only t place.Then-children-eq1) own (length a.cells.now - own) a.cells.now (own-fits c.requires first c.share_at-own.ensures.0) back.1 c.unary_at.ensures

pub eval-tree_part-requires : goal.eval-tree_part-requires
eval-tree_part-requires t c =
    let place = goal.at.eval-tree_part-requires t c in
    let first = eval-first t place.Else-children-eq0 in
    first.sound c.requires.sound

pub eval-overflow_add-behind : goal.eval-overflow_add-behind
eval-overflow_add-behind t c =
    let place = goal.at.eval-overflow_add-behind t c in
    let first = eval-first t place.Else-children-eq0 in
    let pair = eval-pair t place.Else-children-eq1 in
    let both = eval-both t place.After-tree_end-right pair in
    let within = eval-within t place.After-tree_part first both in
    omega (arith, within, c.well_formed)

pub eval-nested_at-requires : goal.eval-nested_at-requires
eval-nested_at-requires t c =
    let place = goal.at.eval-nested_at-requires t c in
    let first = eval-first t place.Else-children-eq0 in
    let pair = eval-pair t place.Else-children-eq1 in
    let both = eval-both t place.After-tree_end-right pair in
    let back = eval-back t place.After-eval-m first in
    let within = eval-within t place.After-tree_part first both in
    let beyond = eval-beyond t place.After-tree_part within back.0 in
    let R = c.requires in
    let o = c.share_at-own.ensures.0 in
    let b = eval-behind-at t place.After-tree_part in
    let few = c.eval-m.ensures.few in
    let len = back.0 in (
      omega (arith, both.smaller, c.decreases),
      (
        (first.sound R.sound, pair, beyond),
        (few_of both R first o b _ _ few (omega arith), (loop_room both R first o b _ _ few (omega arith), inner_ready both R first o b _ (omega (arith, len)))),
      ),
    )

pub eval-shape_of-cells-then-not-runs_once : goal.eval-shape_of-cells-then-not-runs_once
eval-shape_of-cells-then-not-runs_once t c =
    let place = goal.at.eval-shape_of-cells-then-not-runs_once t c in
    let first = eval-first t place.Else-children-eq0 in
    let back = eval-back t place.After-eval-m first in
    c.nested_at.auto.cells ∙ back.0

pub eval-returns-then-not-runs_once : goal.eval-returns-then-not-runs_once
eval-returns-then-not-runs_once t c =
    let place = goal.at.eval-returns-then-not-runs_once t c in
    let first = eval-first t place.Else-children-eq0 in
    let pair = eval-pair t place.Else-children-eq1 in
    let both = eval-both t place.After-tree_end-right pair in
    let back = eval-back t place.After-eval-m first in
    let a = c.args in
    let own = c.share_at-own.result in
    nested_arm both own (length a.cells.now - own) a.cells.now (c.runs_once.ensures.nests (c.if-not-runs_once.true)) (own-fits c.requires first c.share_at-own.ensures.0) back.1 c.nested_at.ensures

pub eval-offset_bounds-cells-behind : goal.eval-offset_bounds-cells-behind
eval-offset_bounds-cells-behind t c =
    let place = goal.at.eval-offset_bounds-cells-behind t c in
    let first = eval-first t place.Else-children-eq0 in
    let pair = eval-pair t place.Else-children-eq1 in
    let both = eval-both t place.After-tree_end-right pair in
    let within = eval-within t place.After-tree_part first both in
    omega (arith, within, c.well_formed)

pub eval-slice_bounds-eval-count-2 : goal.eval-slice_bounds-eval-count-2
eval-slice_bounds-eval-count-2 t c =
    let place = goal.at.eval-slice_bounds-eval-count-2 t c in
    let first = eval-first t place.Else-children-eq0 in
    let pair = eval-pair t place.Else-children-eq1 in
    let both = eval-both t place.After-tree_end-right pair in
    let back = eval-back t place.After-eval-m first in
    let within = eval-within t place.After-tree_part first both in
    let beyond = eval-beyond t place.After-tree_part within back.0 in
    beyond

pub eval-slice_bounds-eval-start-2 : goal.eval-slice_bounds-eval-start-2
eval-slice_bounds-eval-start-2 t c =
    let place = goal.at.eval-slice_bounds-eval-start-2 t c in
    let first = eval-first t place.Else-children-eq0 in
    let pair = eval-pair t place.Else-children-eq1 in
    let both = eval-both t place.After-tree_end-right pair in
    let back = eval-back t place.After-eval-m first in
    let within = eval-within t place.After-tree_part first both in
    let beyond = eval-beyond t place.After-tree_part within back.0 in
    beyond

pub eval-eval-k-requires : goal.eval-eval-k-requires
eval-eval-k-requires t c =
    let place = goal.at.eval-eval-k-requires t c in
    let first = eval-first t place.Else-children-eq0 in
    let pair = eval-pair t place.Else-children-eq1 in
    let both = eval-both t place.After-tree_end-right pair in
    let back = eval-back t place.After-eval-m first in
    let a = c.args in
    let own = c.share_at-own.result in
    let cells = put_mid own (length a.cells.now - own) a.cells.now c.eval-m.new.cells in
    let behind = own + c.tree_part.result in
    let b = eval-behind-at t place.After-tree_part in (
      omega (arith, both.smaller, c.decreases),
      inner_ready both c.requires first c.share_at-own.ensures.0 b _ (tail_length behind cells ∙ ap (λ (x : ℕ). x - behind) back.0),
    )

pub eval-binary_at-requires : goal.eval-binary_at-requires
eval-binary_at-requires t c =
    let place = goal.at.eval-binary_at-requires t c in
    let first = eval-first t place.Else-children-eq0 in
    let pair = eval-pair t place.Else-children-eq1 in
    let both = eval-both t place.After-tree_end-right pair in
    let back = eval-back t place.After-eval-m first in
    let back₂ = eval-back₂ t place.After-eval-k first both back.0 in
    let R = c.requires in
    let o = c.share_at-own.ensures.0 in
    let b = eval-behind-at t place.After-tree_part in
    let few = c.eval-m.ensures.few in
    let few₂ = c.eval-k.ensures.few in
    let sound₂ = both.sound R.sound in record { sound_at = (first.sound R.sound, sound₂, pair, R.bound); k_bound = (omega (arith, few₂, sound-bound sound₂), few_of both R first o b _ _ few few₂, omega (arith, right-inside both R first o b _ few₂, back₂.0)); loop_room = loop_room both R first o b _ _ few few₂ }

pub eval-shape_of-cells : goal.eval-shape_of-cells
eval-shape_of-cells t c =
    let place = goal.at.eval-shape_of-cells t c in
    let first = eval-first t place.Else-children-eq0 in
    let pair = eval-pair t place.Else-children-eq1 in
    let both = eval-both t place.After-tree_end-right pair in
    let back = eval-back t place.After-eval-m first in
    let back₂ = eval-back₂ t place.After-eval-k first both back.0 in
    c.binary_at.auto.cells ∙ back₂.0

pub eval-returns : goal.eval-returns
eval-returns t c =
    let place = goal.at.eval-returns t c in
    let first = eval-first t place.Else-children-eq0 in
    let pair = eval-pair t place.Else-children-eq1 in
    let both = eval-both t place.After-tree_end-right pair in
    let back = eval-back t place.After-eval-m first in
    let within = eval-within t place.After-tree_part first both in
    let beyond = eval-beyond t place.After-tree_part within back.0 in
    let back₂ = eval-back₂ t place.After-eval-k first both back.0 in
    let a = c.args in
    let own = c.share_at-own.result in
    let cells = put_mid own (length a.cells.now - own) a.cells.now c.eval-m.new.cells in
    let behind = own + c.tree_part.result in
    let R = c.requires in
    let o = c.share_at-own.ensures.0 in
    let few = c.eval-m.ensures.few in
    let few₂ = c.eval-k.ensures.few in
    binary_arm both own (length a.cells.now - own) behind (length cells - behind) a.cells.now (c.runs_once.ensures.same (c.if-not-runs_once.false)) (own-fits R first o) back.1 (loop_room both R first o (eval-behind-at t place.After-tree_part) _ _ few few₂).apart beyond back₂.1 c.binary_at.ensures

-- ---- nested_at

pub nested_at-slice_bounds-columns_into-end : goal.nested_at-slice_bounds-columns_into-end
nested_at-slice_bounds-columns_into-end t c = refl

pub nested_at-columns_into-w-requires : goal.nested_at-columns_into-w-requires
nested_at-columns_into-w-requires t c = (c.requires.sound_at.0, sound-width c.requires.sound_at.0)

pub nested_at-slice_bounds-columns_into-end-2 : goal.nested_at-slice_bounds-columns_into-end-2
nested_at-slice_bounds-columns_into-end-2 t c = refl

pub nested_at-columns_into-v-requires : goal.nested_at-columns_into-v-requires
nested_at-columns_into-v-requires t c = let s = c.requires.ready_at.sound in (s, sound-width s)

pub nested_at-slice_bounds-nested_loop-end : goal.nested_at-slice_bounds-nested_loop-end
nested_at-slice_bounds-nested_loop-end t c = omega (arith, sound-width c.requires.sound_at.0, c.columns_into-w.ensures.0, c.columns_into-w.auto.ids)

pub nested_at-slice_bounds-nested_loop-end-2 : goal.nested_at-slice_bounds-nested_loop-end-2
nested_at-slice_bounds-nested_loop-end-2 t c = omega (arith, sound-width c.requires.ready_at.sound, c.columns_into-v.ensures.0, c.columns_into-v.auto.ids)

pub nested_at-nested_loop-requires : goal.nested_at-nested_loop-requires
nested_at-nested_loop-requires t c =
    let s = c.requires in
    let e = ids-part c.columns_into-w.result c.columns_into-w.new.ids c.columns_into-w.ensures.1 in
    let f = ids-part c.columns_into-v.result c.columns_into-v.new.ids c.columns_into-v.ensures.1 in
    rw (e, f) (omega (arith, c.decreases), ((s.sound_at.1, refl, sound-width s.sound_at.0, s.sound_at.2), (s.inner_bound, (s.loop_room, s.ready_at))))

pub nested_at-shape_of-cells : goal.nested_at-shape_of-cells
nested_at-shape_of-cells t c = c.nested_loop.auto.cells

pub nested_at-returns : goal.nested_at-returns
nested_at-returns t c =
    let e = ids-part c.columns_into-w.result c.columns_into-w.new.ids c.columns_into-w.ensures.1 in
    rw e at c.nested_loop.ensures

-- ---- nested_loop

-- the row at hand has room for what it gives, and no more rows come than the bound has
nested_loopn_row : (t : ℕ) (c : nested_loop-In-loop t) → let a = c.args in let l = c.loop in let op = operator_of a.node in let k = bound_at a.set.now a.plan.now a.inner in StepRoom op a.ids.now (columns_at a.set.now a.plan.now a.inner) k l.src l.dst a.behind × (l.out + emitted_most op k ≤ 4096)
nested_loopn_row t c =
    let a = c.args in
    let s = c.requires in
    let l = c.loop in
    let op = operator_of a.node in
    let k = bound_at a.set.now a.plan.now a.inner in
    let ds = columns_at a.set.now a.plan.now a.inner in
    let room = rw s.node_value.1 at s.loop_room in
    let h = c.loop-test.true in (
      record { below = turn_below l.invariant.0 h op (λ e. keeps_rows op s.node_value.0 e a.ids.now ds k) room.share; apart = omega (arith, building_row l.invariant.0 h, room.apart) },
      omega (arith, l.invariant.0.few, turns a.m (emitted_most op k) l.counter h, s.inner_bound),
    )

-- how wide its rows are
nested_loop-wide : (t : ℕ) (c : nested_loop-After-emitted_width-wo t) → let a = c.args in c.emitted_width-wo.result ≡ length (emitted_columns (operator_of a.node) a.ids.now (columns_at a.set.now a.plan.now a.inner))
nested_loop-wide t c = let a = c.args in c.emitted_width-wo.ensures ∙ ap (λ (ds : List ℕ). length (emitted_columns (operator_of a.node) a.ids.now ds)) c.requires.node_value.1

-- the next place is no higher than the row's end
nested_loop-grows : (t : ℕ) (c : nested_loop-After-row_step-r t) → let a = c.args in let l = c.loop in let op = operator_of a.node in let k = bound_at a.set.now a.plan.now a.inner in StepRoom op a.ids.now (columns_at a.set.now a.plan.now a.inner) k l.src l.dst a.behind → c.emitted_width-wo.result ≡ length (emitted_columns (operator_of a.node) a.ids.now (columns_at a.set.now a.plan.now a.inner)) → l.dst + c.row_step-r.result * c.emitted_width-wo.result ≤ a.behind
nested_loop-grows t c here wide =
    let a = c.args in
    let s = c.requires in
    let l = c.loop in
    let op = operator_of a.node in
    let k = bound_at a.set.now a.plan.now a.inner in
    let ds = columns_at a.set.now a.plan.now a.inner in
    let room = rw s.node_value.1 at s.loop_room in
    let r = c.row_step-r in
    let ends = turn-ends l.invariant.0 c.loop-test.true op (λ e. keeps_rows op s.node_value.0 e a.ids.now ds k) room.share r.result r.ensures.gives.few in
    omega (arith, ends, here.apart, ap (λ (x : ℕ). r.result * x) wide)

pub nested_loop-emitted_width-wo-requires : goal.nested_loop-emitted_width-wo-requires
nested_loop-emitted_width-wo-requires t c = let s = c.requires in (s.node_value.0, s.node_value.2, omega (arith, ap length s.node_value.1, sound-width s.ready_at.sound))

pub nested_loop-find-found-requires : goal.nested_loop-find-found-requires
nested_loop-find-found-requires t c = c.requires.ready_at.bound

pub nested_loop-loop-init : goal.nested_loop-loop-init
nested_loop-loop-init t c = (building_start c.args.cells.now refl, refl)

pub nested_loop-row_step-r-requires : goal.nested_loop-row_step-r-requires
nested_loop-row_step-r-requires t c =
    let place = goal.at.nested_loop-row_step-r-requires t c in
    let room = nested_loopn_row t place.In-loop in
    let s = c.requires in
    let r = s.ready_at in
    let l = c.loop in
    (omega (arith, c.decreases), (c.find-found.ensures, ((s.node_value.0, s.node_value.1, omega (arith, l.invariant.1, s.node_value.3), s.node_value.2), (rw s.node_value.1 room.0, record { sound = r.sound; room = rw l.invariant.1 r.room; bound = r.bound }))))

pub nested_loop-overflow_add-out : goal.nested_loop-overflow_add-out
nested_loop-overflow_add-out t c =
    let place = goal.at.nested_loop-overflow_add-out t c in
    let room = nested_loopn_row t place.In-loop in
    omega (arith, room.1, c.row_step-r.ensures.gives.few)

pub nested_loop-overflow_mul-dst : goal.nested_loop-overflow_mul-dst
nested_loop-overflow_mul-dst t c =
    let place = goal.at.nested_loop-overflow_mul-dst t c in
    let room = nested_loopn_row t place.In-loop in
    let wide = nested_loop-wide t place.After-emitted_width-wo in
    let grows = nested_loop-grows t place.After-row_step-r room.0 wide in
    omega (arith, grows, c.ranges.behind)

pub nested_loop-overflow_add-dst : goal.nested_loop-overflow_add-dst
nested_loop-overflow_add-dst t c =
    let place = goal.at.nested_loop-overflow_add-dst t c in
    let room = nested_loopn_row t place.In-loop in
    let wide = nested_loop-wide t place.After-emitted_width-wo in
    let grows = nested_loop-grows t place.After-row_step-r room.0 wide in
    omega (arith, grows, c.ranges.behind)

pub nested_loop-overflow_add-src : goal.nested_loop-overflow_add-src
nested_loop-overflow_add-src t c =
    let place = goal.at.nested_loop-overflow_add-src t c in
    let room = nested_loopn_row t place.In-loop in
    omega (arith, room.0.apart, c.ranges.behind)

pub nested_loop-loop-preserved : goal.nested_loop-loop-preserved
nested_loop-loop-preserved t c =
    let place = goal.at.nested_loop-loop-preserved t c in
    let wide = nested_loop-wide t place.After-emitted_width-wo in
    let a = c.args in
    let l = c.loop in
    let w = length a.ids.now in
    let s = c.row_step-r in
    let last : List ℕ = s.new.cells in
    let h = c.loop-test.true in
    let left = rows_left_lem a.m w a.own l.counter l.src a.behind last l.cells h l.invariant.0.src_at c.requires.loop_room.apart s.ensures.between in
    (building_turn l.invariant.0 last s.result _ _ h s.ensures.gives s.ensures.before left refl (ap (λ (x : ℕ). l.dst + s.result * x) wide), s.auto.cells ∙ l.invariant.1)

pub nested_loop-shape_of-cells : goal.nested_loop-shape_of-cells
nested_loop-shape_of-cells t c = c.loop.invariant.1

pub nested_loop-returns : goal.nested_loop-returns
nested_loop-returns t c = building_done c.loop.invariant.0 c.loop-test.false

-- ---- row_step

-- after the inner plan: the whole has its length, and the rows lie in the part
row_step-back : (t : ℕ) (c : row_step-After-eval-k t) → let a = c.args in let cells = a.cells.now in let last = c.eval-k.new.cells in (length (put_mid a.behind (length cells - a.behind) cells last) ≡ length cells) × Kid (tables_of a.set.now) (plan_at a.plan.now a.inner) (env_of c.inner_env.new.copy) c.eval-k.result last
row_step-back t c =
    let a = c.args in
    let cells = a.cells.now in
    let r = c.requires.ready_at in
    let last = c.eval-k.new.cells in
    let len : length last ≡ length cells - a.behind = c.eval-k.auto.cells ∙ tail_length a.behind cells in
    (same_len_mid a.behind (length cells - a.behind) cells last c.eval-k.auto.cells, kid_of (record { sound = r.sound; room = rw len r.room; bound = r.bound }) c.eval-k.ensures)

pub row_step-slice_bounds-inner_env-end : goal.row_step-slice_bounds-inner_env-end
row_step-slice_bounds-inner_env-end t c = refl

pub row_step-overflow_add-src : goal.row_step-overflow_add-src
row_step-overflow_add-src t c = omega (arith, c.requires.step_room.apart, c.requires.node_value.2, c.well_formed, c.ranges.behind)

pub row_step-offset_bounds-cells-src : goal.row_step-offset_bounds-cells-src
row_step-offset_bounds-cells-src t c = omega (arith, c.requires.step_room.apart, c.requires.node_value.2, c.well_formed, c.ranges.behind)

pub row_step-slice_bounds-inner_env-count : goal.row_step-slice_bounds-inner_env-count
row_step-slice_bounds-inner_env-count t c = omega (arith, c.requires.step_room.apart, c.requires.node_value.2, c.well_formed, c.ranges.behind)

pub row_step-slice_bounds-inner_env-start : goal.row_step-slice_bounds-inner_env-start
row_step-slice_bounds-inner_env-start t c = omega (arith, c.requires.step_room.apart, c.requires.node_value.2, c.well_formed, c.ranges.behind)

pub row_step-slice_bounds-inner_env-end-2 : goal.row_step-slice_bounds-inner_env-end-2
row_step-slice_bounds-inner_env-end-2 t c = omega (arith, c.requires.step_room.apart, c.requires.node_value.2, c.well_formed, c.ranges.behind)

pub row_step-inner_env-requires : goal.row_step-inner_env-requires
row_step-inner_env-requires t c = let a = c.args in let s = c.requires in omega (arith, part_length a.src (length a.ids.now) a.cells.now (omega (arith, s.step_room.apart, c.requires.node_value.2)), s.ready_at.bound)

pub row_step-offset_bounds-cells-behind : goal.row_step-offset_bounds-cells-behind
row_step-offset_bounds-cells-behind t c = omega (arith, c.requires.node_value.2, c.well_formed)

pub row_step-slice_bounds-eval-count : goal.row_step-slice_bounds-eval-count
row_step-slice_bounds-eval-count t c = c.requires.node_value.2

pub row_step-slice_bounds-eval-start : goal.row_step-slice_bounds-eval-start
row_step-slice_bounds-eval-start t c = c.requires.node_value.2

pub row_step-slice_bounds-eval-end-2 : goal.row_step-slice_bounds-eval-end-2
row_step-slice_bounds-eval-end-2 t c = sym c.inner_env.auto.copy

pub row_step-eval-k-requires : goal.row_step-eval-k-requires
row_step-eval-k-requires t c =
    let a = c.args in
    let r = c.requires.ready_at in
    (omega (arith, c.decreases), record { sound = r.sound; room = rw (tail_length a.behind a.cells.now) r.room; bound = c.inner_env.auto.copy })

pub row_step-emit_row-requires : goal.row_step-emit_row-requires
row_step-emit_row-requires t c =
    let place = goal.at.row_step-emit_row-requires t c in
    let a = c.args in
    let s = c.requires in
    let r = s.ready_at in
    let g = c.eval-k.ensures in
    let k = c.eval-k.result in
    record { room = record { step = step_less k s.step_room g.few; held = omega (arith, s.node_value.2, rows_fit k r g.few, ap (λ (x : List ℕ). k * length x) s.node_value.1, (row_step-back t place.After-eval-k).0) }; lookup = tt }

pub row_step-invariant_of-right : goal.row_step-invariant_of-right
row_step-invariant_of-right t c =
    let s = c.requires in
    let r = s.ready_at in
    record { few = omega (arith, c.eval-k.ensures.few, sound-bound r.sound); narrow = omega (arith, ap length s.node_value.1, sound-width r.sound) }

pub row_step-shape_of-cells : goal.row_step-shape_of-cells
row_step-shape_of-cells t c =
    let place = goal.at.row_step-shape_of-cells t c in
    c.emit_row.auto.cells ∙ (row_step-back t place.After-eval-k).0

pub row_step-returns : goal.row_step-returns
row_step-returns t c =
    let place = goal.at.row_step-returns t c in
    let a = c.args in
    let s = c.requires in
    let room = s.step_room in
    let ys = c.eval-k.new.cells in
    let inside = c.inner_env.ensures ∙ ap (λ (x : Row). bind a.ids.now x (env_of a.env.now)) (sym (part-row a.src (length a.ids.now) a.cells.now)) in
    step_arm a.cells.now ys a.ids.now a.src a.behind room.apart s.node_value.2 (operator_of a.node) a.jds.now a.env.now s.node_value.1 inside (row_step-back t place.After-eval-k).1 (omega (arith, room.below)) (c.emit_row.ensures.given (env_of a.env.now) c.requires.found_for)
