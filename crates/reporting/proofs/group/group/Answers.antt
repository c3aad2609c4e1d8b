use mathlib.Core.Path.{sym, ◌∙◌}
use mathlib.Core.List.{List, []}
use Prim.Native.Nat.{ℕ}
use lib.ListN.{length, drop, get_or}
use Rattle.algebra.specs.Plans.{Row, Env}
use Rattle.reporting.specs.Rows.{chunk, env_of}
use Rattle.reporting.specs.Sides.{Equals, side_cell}
use Rattle.reporting.proofs.Groups.{group-rows}
use Rattle.reporting.proofs.Sides.{in_right_lem}
use Rattle.reporting.proofs.group.group.Goals as goal

pub returns-then-keys-place_of : goal.returns-then-keys-place_of
returns-then-keys-place_of c =
    let a = c.args in
    let env : Env = env_of a.env.now in
    let rows : List Row = chunk a.m (length a.ids.now) (drop a.own a.cells.now) in
    let found = c.find-found in
    let place : ℕ = c.in-Some.keys.right in
    let equal : Equals c.in-Some.keys.left place found.result.keys = c.in-Some.ensures in
    let given = c.group_indexed.ensures in
    let key : Row → ℕ = λ q. get_or q place 0 in
    let is_key = (in_right_lem [] a.ids.now env a.node.right place (c.if-keys-place_of.true ∙ c.place_of.ensures) (equal.inside 1 (length a.ids.now) found.ensures.inside.keys).1).cell [] in
    record { is = given.is ∙ sym (group-rows a.node a.ids.now env found.result key rows c.requires.kind_value.0 found.ensures is_key); few = given.few }

pub returns : goal.returns
returns c =
    let a = c.args in
    let env : Env = env_of a.env.now in
    let rows : List Row = chunk a.m (length a.ids.now) (drop a.own a.cells.now) in
    let found = c.find-found in
    let side = c.side_of-side in
    let given = c.group_all.ensures in
    record { is = given.is ∙ sym (group-rows a.node a.ids.now env found.result (side_cell side.result []) rows c.requires.kind_value.0 found.ensures (side.ensures.cell [])); few = given.few }
