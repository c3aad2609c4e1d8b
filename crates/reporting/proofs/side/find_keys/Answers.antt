use mathlib.Core.Path.{sym, ◌∙◌}
use Rattle.reporting.specs.Rows.{env_of}
use Rattle.reporting.proofs.Sides.{no_keys, keys_found}
use Rattle.reporting.proofs.side.find_keys.Goals as goal

pub returns-then-not-has_keys : goal.returns-then-not-has_keys
returns-then-not-has_keys c =
    let a = c.args in
    no_keys a.cs.now a.ds.now (env_of a.env.now) a.node (sym c.has_keys.ensures ∙ c.if-not-has_keys.true)

pub returns : goal.returns
returns c =
    let a = c.args in
    keys_found a.cs.now a.ds.now (env_of a.env.now) a.node c.key_comparison.result c.side_of.result c.side_of-2.result (sym c.has_keys.ensures ∙ c.if-not-has_keys.false) c.key_comparison.ensures c.side_of.ensures c.side_of-2.ensures
