use native.Mathlib.Omega.{arith}
use Rattle.reading.specs.TableSet.{tables_of}
use Rattle.reading.proofs.FlagLaws.{adds-first}
use Rattle.reading.proofs.ByteLaws.{free-small}
use Rattle.reading.proofs.free.avoids_at.Goals as goal

pub returns : goal.returns
returns c =
    let small = free-small (tables_of c.args.set.now) c.args.plan.now (λ k. omega (arith, c.type_inv.plan k)) c.args.g in
    c.apart.ensures.decides _ _ c.free_columns.ensures (adds-first c.add_columns-columns.ensures) small
