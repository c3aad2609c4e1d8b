use Prim.Native.Nat.{◌+◌}
use native.Mathlib.Omega.{arith}
use mathlib.Core.Path.{◌≡◌, refl, sym}
use Rattle.std.proofs.Common.{None, Some}
use Rattle.algebra.specs.Refusals.{once}
use Rattle.reading.specs.TableSet.{tables_of}
use Rattle.reading.specs.Plan.{nodes_of}
use Rattle.reading.specs.Flags.{Marks}
use Rattle.reading.specs.Tree.{operator_at}
use Rattle.reading.specs.Nodes.{operator_new, ids_of}
use Rattle.reading.proofs.FlagLaws.{flags_none}
use Rattle.reading.proofs.IdLaws.{ids_more, ids_stay}
use Rattle.reading.proofs.ids.ids_once.Goals as goal

pub loop-i-init : goal.loop-i-init
unfolding ids_of once
loop-i-init c = (refl, refl, flags_none)

pub returns-in_default : goal.returns-in_default
returns-in_default c =
    let a = c.args in
    let T = tables_of a.set.now in
    let p = a.plan.now in
    let l = c.loop-i in
    let k : Marks l.flags (operator_new T (operator_at p l.i)) None = rw (← c.node_at.ensures) c.in_default.ensures in
    sym (ids_stay T p (l.i + 1) (nodes_of p) (omega arith) (rw ids_more (k.after (ids_of T p l.i 0) l.invariant.2 l.invariant.1)))

pub loop-i-preserved : goal.loop-i-preserved
loop-i-preserved c =
    let a = c.args in
    let T = tables_of a.set.now in
    let p = a.plan.now in
    let l = c.loop-i in
    let k : Marks l.flags (operator_new T (operator_at p l.i)) (Some c.in-Some.marks) = rw (← c.node_at.ensures) c.in-Some.ensures in
    let m = k.after (ids_of T p l.i 0) l.invariant.2 l.invariant.1 in
    (m.1.long, rw ids_more m.0, rw ids_more m.1)

pub returns : goal.returns
returns c =
    let l = c.loop-i in
    let q : l.i ≡ nodes_of c.args.plan.now = omega arith in
    rw (← q) (sym l.invariant.1)
