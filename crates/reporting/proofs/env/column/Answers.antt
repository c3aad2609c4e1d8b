use mathlib.Core.Path.{◌∙◌}
use native.Mathlib.Omega.{arith}
use Rattle.reporting.specs.Rows.{env_of}
use Rattle.reporting.proofs.Envs.{bind_miss}
use Rattle.reporting.proofs.env.column.Goals as goal

pub loop-i-preserved : goal.loop-i-preserved
loop-i-preserved c =
    let a = c.args in
    let l = c.loop-i in
    l.invariant ∙ bind_miss a.ids.now a.row.now (env_of a.env.now) l.i a.id (omega arith) (omega arith) c.if-own-id.false
