use native.Mathlib.Omega.{arith}
use mathlib.Core.Path.{refl}
use Rattle.reporting.specs.Rows.{env_of}
use Rattle.reporting.proofs.Sides.{in_right_lem, in_left_lem, in_neither}
use Rattle.reporting.proofs.side.side_of.Goals as goal

pub returns-then-right-ds : goal.returns-then-right-ds
returns-then-right-ds c =
    let a = c.args in
    in_right_lem a.cs.now a.ds.now (env_of a.env.now) a.id c.place_of-right.result c.place_of-right.ensures c.if-right-ds.true

pub returns-then-left-cs : goal.returns-then-left-cs
returns-then-left-cs c =
    let a = c.args in
    let right = c.place_of-right in
    in_left_lem a.cs.now a.ds.now (env_of a.env.now) a.id c.place_of-left.result (omega (arith, right.ensures, c.if-right-ds.false)) c.place_of-left.ensures c.if-left-cs.true

pub returns : goal.returns
returns c =
    let a = c.args in
    let right = c.place_of-right in
    let left = c.place_of-left in
    in_neither a.cs.now a.ds.now (env_of a.env.now) a.id (env_of a.env.now a.id) (omega (arith, right.ensures, c.if-right-ds.false)) (omega (arith, left.ensures, c.if-left-cs.false)) refl
