use mathlib.Core.Path.{◌≡◌, sym, ◌∙◌}
use mathlib.Core.List.{List}
use Prim.Native.Nat.{ℕ, ◌+◌, ◌*◌, ◌≤◌}
use native.Mathlib.Omega.{arith}
use lib.ListN.{length, drop, take, get_or}
use lib.Seq.{get_or-take, get_or-drop}
use Rattle.algebra.specs.Plans.{Row}
use Rattle.reporting.proofs.Chunks.{turns}
use Rattle.reporting.proofs.Groups.{grouping_start, grouping_done, grouping_seen, grouping_new, given_start, given_seen, given_new, first-new, first-given}
use Rattle.reporting.proofs.group.group_linked.Goals as goal
use Rattle.reporting.proofs.group.group_linked.Goals.{then-first_linked-i, else-first_linked-i}
use Rattle.reporting.proofs.group.group_linked.Goals.{In-loop-i}

-- the row at hand lies within the cells, and the next row given lies before `own`
in_row : (c : In-loop-i) → (c.loop-i.src + (length c.args.rows.columns.now) ≤ length c.loop-i.cells) × (c.args.rows.at + c.args.rows.count * (length c.args.rows.columns.now) ≤ length c.loop-i.cells) × (c.loop-i.dst + 2 ≤ c.args.rows.at)
in_row c =
    let a = c.args in
    let l = c.loop-i in
    let p = l.invariant.0 in
    omega (arith, turns a.rows.count (length a.rows.columns.now) l.i c.loop-i-test.true, p.few, p.src_at, p.dst-at, p.long, c.args.rows.few, c.requires.room.0, c.requires.room.1)

pub loop-i-init : goal.loop-i-init
loop-i-init c =
    let a = c.args in
    let key : Row → ℕ = λ q. get_or q a.index.keys.right 0 in
    (grouping_start a.found.now key a.rows.count (length a.rows.columns.now) a.rows.at a.cells.now, given_start a.found.now key a.rows.count (length a.rows.columns.now) a.rows.at a.cells.now)

pub loop-i-preserved : goal.loop-i-preserved
loop-i-preserved c =
    let a = c.args in
    let l = c.loop-i in
    let j = c.if-first_linked-i in
    let t = c.loop-i-test.true in
    let first : List ℕ = a.cells.now in
    let key : Row → ℕ = λ q. get_or q a.index.keys.right 0 in
    let x : ℕ = get_or l.cells (l.src + a.index.keys.right) 0 in
    let is_key : x ≡ key (take (length a.rows.columns.now) (drop l.src l.cells)) =
    sym (get_or-take (length a.rows.columns.now) (drop l.src l.cells) a.index.keys.right 0 c.requires.inside.1 ∙ get_or-drop l.src l.cells a.index.keys.right 0) in
    let r = c.first_linked.result in
    let says = c.first_linked.ensures in
    let p = l.invariant.0 in
    let g = l.invariant.1 in
    let room = c.requires.room.0 in
    let inside = (in_row (goal.at.loop-i-preserved c).In-loop-i).1 in
    elim j.branch [
      | then-first_linked-i v ↦ let new = first-new a.found.now key a.rows.count (length a.rows.columns.now) a.rows.at first l.cells j.cells l.i l.out j.out l.src l.dst j.dst p t x is_key g r says v.if-first_linked-i.true in (
        grouping_new a.found.now key a.rows.count (length a.rows.columns.now) a.rows.at first l.cells j.cells l.i l.out j.out l.src l.dst j.dst p t x is_key new room inside (v.cells-is ∙ v.give_linked.ensures) v.out-is v.dst-is,
        given_new a.found.now key a.rows.count (length a.rows.columns.now) a.rows.at first l.cells j.cells l.i l.out j.out l.src l.dst j.dst p t x is_key g room inside (v.cells-is ∙ v.give_linked.ensures) v.out-is,
      )
      | else-first_linked-i v ↦ let seen = first-given a.found.now key a.rows.count (length a.rows.columns.now) a.rows.at first l.cells j.cells l.i l.out j.out l.src l.dst j.dst p t x is_key g r says v.if-first_linked-i.false in (
        grouping_seen a.found.now key a.rows.count (length a.rows.columns.now) a.rows.at first l.cells j.cells l.i l.out j.out l.src l.dst j.dst p t x is_key seen v.cells-is v.out-is v.dst-is,
        given_seen a.found.now key a.rows.count (length a.rows.columns.now) a.rows.at first l.cells j.cells l.i l.out j.out l.src l.dst j.dst p t x is_key g seen v.cells-is v.out-is,
      )
    ]

pub returns : goal.returns
returns c =
    let a = c.args in
    let l = c.loop-i in
    grouping_done a.found.now (λ q. get_or q a.index.keys.right 0) a.rows.count (length a.rows.columns.now) a.rows.at a.cells.now l.cells l.i l.out l.src l.dst l.invariant.0 c.loop-i-test.false
