use native.Mathlib.Omega.{arith}
use mathlib.Core.Path.{◌∙◌}
use Rattle.algebra.specs.Names.{closed, free}
use Rattle.reading.specs.TableSet.{tables_of}
use Rattle.reading.specs.Tree.{plan_at}
use Rattle.reading.proofs.FreeLaws.{flags_every, apart-every}
use Rattle.reading.proofs.ByteLaws.{free-small}
use Rattle.reading.proofs.free.is_closed.Goals as goal

pub returns : goal.returns
unfolding closed
returns c =
    let small = free-small (tables_of c.args.set.now) c.args.plan.now (λ k. omega (arith, c.type_inv.plan k)) c.args.i in
    c.apart.ensures.decides _ _ c.free_columns.ensures flags_every small ∙ apart-every (free (tables_of c.args.set.now) (plan_at c.args.plan.now c.args.i)) small
