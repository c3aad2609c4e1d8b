use borrow.Rule.Slice.PartMut.{put_mid, take_put}
use lib.ListN.{length, length-take, length-drop}
use mathlib.Core.Path.{◌≡◌, sym, ap, ◌∙◌}
use native.Mathlib.Omega.{arith}
use Prim.Native.Nat.{ℕ, ◌-◌, ◌≤◌}
use Rattle.reading.specs.TableSet.{tables_of}
use Rattle.reporting.specs.declared.columns.ColumnsWay.TheVariants.{Own}
use Rattle.reporting.proofs.Lent.{lent_tail}
use Rattle.reporting.proofs.Soundness.{sound-width}
use Rattle.reporting.proofs.ColumnWays.{ReadAt, front-past, own-small, own-columns, first-sound, first_fits, front-first, more-fits, front-more, second-sound, both-fits, front-both}
use Rattle.reporting.proofs.columns.+columns_into.Goals as goal
use Rattle.reporting.proofs.columns.+columns_into.Goals.{After-columns_way}

read : (t : ℕ) (c : After-columns_way t) → ReadAt c.args.plan.now c.args.i c.node_at-node.result c.columns_way.result
read t c = record { inside = omega arith; is = c.node_at-node.ensures; made_so = c.columns_way.ensures }

pub returns-then-nodes_of-i : goal.returns-then-nodes_of-i
returns-then-nodes_of-i t c = let a = c.args in front-past (tables_of a.set.now) a.plan.now a.i a.ids.now (omega arith)

pub own_ids-requires-clause-node_value : goal.own_ids-requires-clause-node_value
own_ids-requires-clause-node_value t c =
    let r = read t (goal.at.own_ids-requires-clause-node_value t c).After-columns_way in
    (sym c.columns_way.ensures ∙ c.in-Own.is, own-small (tables_of c.args.set.now) r c.requires.0)

pub own_ids-requires-clause-node_in_bounds : goal.own_ids-requires-clause-node_in_bounds
own_ids-requires-clause-node_in_bounds t c =
    let r = read t (goal.at.own_ids-requires-clause-node_in_bounds t c).After-columns_way in
    omega (arith, ap length (own-columns (tables_of c.args.set.now) r c.in-Own.is), c.requires.1)

pub returns-in-Own : goal.returns-in-Own
returns-in-Own t c =
    let r = read t (goal.at.returns-in-Own t c).After-columns_way in
    let e = own-columns (tables_of c.args.set.now) r c.in-Own.is in
    (c.own_ids.ensures.0 ∙ ap length (sym e), c.own_ids.ensures.1 ∙ sym e)

pub columns_into-requires : goal.columns_into-requires
columns_into-requires t c =
    let T = tables_of c.args.set.now in
    let r = read t (goal.at.columns_into-requires t c).After-columns_way in
    let other : c.columns_way.result ≡ Own → ⊥ = λ e. cc (e, c.in-First.is) in
    (omega arith, (first-sound T r other c.requires.0, omega (arith, first_fits T r other, c.requires.1)))

pub returns-in-First : goal.returns-in-First
returns-in-First t c =
    let r = read t (goal.at.returns-in-First t c).After-columns_way in
    front-first (tables_of c.args.set.now) r c.in-First.is c.columns_into.result c.columns_into.new.ids c.columns_into.ensures

pub columns_into-w-requires : goal.columns_into-w-requires
columns_into-w-requires t c =
    let T = tables_of c.args.set.now in
    let r = read t (goal.at.columns_into-w-requires t c).After-columns_way in
    let other : c.columns_way.result ≡ Own → ⊥ = λ e. cc (e, c.in-FirstAndNew.is) in
    (omega arith, (first-sound T r other c.requires.0, omega (arith, first_fits T r other, c.requires.1)))

pub bounds-ids-w : goal.bounds-ids-w
bounds-ids-w t c =
    let r = read t (goal.at.bounds-ids-w t c).After-columns_way in
    omega (arith, more-fits (tables_of c.args.set.now) r c.in-FirstAndNew.is, sound-width c.requires.0, c.requires.1, c.columns_into-w.ensures.0, c.columns_into-w.auto.ids)

pub overflow_add-result : goal.overflow_add-result
overflow_add-result t c =
    let r = read t (goal.at.overflow_add-result t c).After-columns_way in
    omega (arith, more-fits (tables_of c.args.set.now) r c.in-FirstAndNew.is, sound-width c.requires.0, c.requires.1, c.columns_into-w.ensures.0, c.columns_into-w.auto.ids)

pub returns-in-FirstAndNew : goal.returns-in-FirstAndNew
returns-in-FirstAndNew t c =
    let T = tables_of c.args.set.now in
    let r = read t (goal.at.returns-in-FirstAndNew t c).After-columns_way in
    let first = c.columns_into-w in
    front-more T r c.in-FirstAndNew.is first.result first.new.ids first.ensures (omega (arith, more-fits T r c.in-FirstAndNew.is, c.requires.1, first.ensures.0, first.auto.ids))

pub columns_into-w-requires-in-Both : goal.columns_into-w-requires-in-Both
columns_into-w-requires-in-Both t c =
    let T = tables_of c.args.set.now in
    let r = read t (goal.at.columns_into-w-requires-in-Both t c).After-columns_way in
    let other : c.columns_way.result ≡ Own → ⊥ = λ e. cc (e, c.in-Both.is) in
    (omega arith, (first-sound T r other c.requires.0, omega (arith, first_fits T r other, c.requires.1)))

pub columns_into-requires-in-Both : goal.columns_into-requires-in-Both
columns_into-requires-in-Both t c =
    let T = tables_of c.args.set.now in
    let r = read t (goal.at.columns_into-requires-in-Both t c).After-columns_way in
    let j = c.tree_end-j in
    let first = c.columns_into-w-in-Both in
    (omega (arith, j.ensures), (second-sound T r c.in-Both.is j.result j.ensures c.requires.0, rw (length-take, length-drop) (omega (arith, both-fits T r c.in-Both.is j.result j.ensures, c.requires.1, first.ensures.0, first.auto.ids))))

pub returns-in-Both : goal.returns-in-Both
returns-in-Both t c =
    let T = tables_of c.args.set.now in
    let r = read t (goal.at.returns-in-Both t c).After-columns_way in
    let j = c.tree_end-j in
    let first = c.columns_into-w-in-Both in
    let second = c.columns_into-in-Both in
    let ids = first.new.ids in
    let more = second.new.ids in
    let w = first.result in
    let other : c.columns_way.result ≡ Own → ⊥ = λ e. cc (e, c.in-Both.is) in
    let h : w ≤ length ids = omega (arith, first_fits T r other, c.requires.1, first.ensures.0, first.auto.ids) in
    front-both T r c.in-Both.is j.result j.ensures w second.result ids more (put_mid w (length ids - w) ids more) first.ensures second.ensures (take_put w (length ids - w) ids more h) (lent_tail w ids more h)
