use mathlib.Core.Path.{◌≡◌, sym, ◌∙◌}
use mathlib.Core.List.{List, []}
use Prim.Native.Nat.{ℕ, ◌+◌, ◌*◌, ◌-◌, ◌≤◌}
use native.Mathlib.Omega.{arith}
use lib.ListN.{length, drop, take}
use Rattle.reporting.specs.Sides.{side_cell}
use Rattle.reporting.proofs.Chunks.{turns}
use Rattle.reporting.proofs.Groups.{grouping_start, grouping_done, grouping_seen, grouping_new}
use Rattle.reporting.proofs.Sides.{side_wider, side_left, side_right}
use Rattle.reporting.proofs.group.group_all.Goals as goal
use Rattle.reporting.proofs.group.group_all.Goals.{then-not-key_given, else-not-key_given}
use Rattle.reporting.proofs.group.group_all.Goals.{In-loop}

-- the row at hand lies within the cells, and the next row given lies before `own`
in_row : (c : In-loop) → (c.loop.src + (length c.args.rows.columns.now) ≤ length c.loop.cells) × (c.loop.out * 2 ≤ length c.loop.cells) × (c.loop.dst + 2 ≤ c.args.rows.at)
in_row c =
    let a = c.args in
    let l = c.loop in
    omega (arith, turns a.rows.count (length a.rows.columns.now) l.counter c.loop-test.true, l.invariant.few, l.invariant.src_at, l.invariant.dst-at, l.invariant.long, c.args.rows.few, c.requires.room.0, c.requires.room.1)

pub loop-init : goal.loop-init
loop-init c =
    let a = c.args in
    grouping_start a.found.now (side_cell a.side []) a.rows.count (length a.rows.columns.now) a.rows.at a.cells.now

pub side_cell-key-requires : goal.side_cell-key-requires
side_cell-key-requires c =
    let a = c.args in
    let l = c.loop in
    side_wider a.side 0 (length a.rows.columns.now) (length l.cells - 0) (length l.cells - l.src) c.requires.inside.1 (omega arith) (omega (arith, (in_row (goal.at.side_cell-key-requires c).In-loop).0))

pub loop-preserved : goal.loop-preserved
loop-preserved c =
    let a = c.args in
    let l = c.loop in
    let j = c.if-not-key_given in
    let t = c.loop-test.true in
    let first : List ℕ = a.cells.now in
    let key = c.side_cell-key.result in
    let is_key : key ≡ side_cell a.side [] (take (length a.rows.columns.now) (drop l.src l.cells)) =
    c.side_cell-key.ensures
    ∙ sym (side_left 0 (length a.rows.columns.now) (drop 0 l.cells) (drop l.src l.cells) a.side c.requires.inside.1)
    ∙ sym (side_right 0 (length a.rows.columns.now) [] (drop l.src l.cells) a.side c.requires.inside.1) in
    let r = c.key_given.result in
    let says = c.key_given.ensures in
    elim j.branch [
      | then-not-key_given v ↦ grouping_new a.found.now (side_cell a.side []) a.rows.count (length a.rows.columns.now) a.rows.at first l.cells j.cells l.counter l.out j.out l.src l.dst j.dst l.invariant t key is_key (sym says ∙ v.if-not-key_given.true) c.requires.room.0 (omega (arith, c.requires.room.1, l.invariant.long)) (v.cells-is ∙ v.give_key.ensures) v.out-is v.dst-is
      | else-not-key_given v ↦ grouping_seen a.found.now (side_cell a.side []) a.rows.count (length a.rows.columns.now) a.rows.at first l.cells j.cells l.counter l.out j.out l.src l.dst j.dst l.invariant t key is_key (sym says ∙ v.if-not-key_given.false) v.cells-is v.out-is v.dst-is
    ]

pub returns : goal.returns
returns c =
    let a = c.args in
    let l = c.loop in
    grouping_done a.found.now (side_cell a.side []) a.rows.count (length a.rows.columns.now) a.rows.at a.cells.now l.cells l.counter l.out l.src l.dst l.invariant c.loop-test.false
