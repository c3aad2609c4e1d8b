use Rattle.reporting.specs.Rows.{env_of}
use Rattle.reporting.proofs.matching.rows_of_each.Goals as goal

pub returns-in-Some : goal.returns-in-Some
returns-in-Some c = c.linked_at.ensures (env_of c.args.env.now) c.find-found.ensures

pub returns : goal.returns
returns c = c.emit_all.ensures (env_of c.args.env.now) c.find-found.ensures
