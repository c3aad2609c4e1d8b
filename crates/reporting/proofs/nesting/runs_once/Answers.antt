use mathlib.Core.Path.{sym, ◌∙◌}
use Rattle.reporting.proofs.Once.{once-plain, once-each, once-avoids}
use Rattle.reporting.proofs.nesting.runs_once.Goals as goal

pub returns-then-not-is_nested : goal.returns-then-not-is_nested
returns-then-not-is_nested c = once-plain (sym c.is_nested.ensures ∙ c.if-not-is_nested.true)

pub returns-then-m-lt-FEW : goal.returns-then-m-lt-FEW
returns-then-m-lt-FEW c = once-each (sym c.is_nested.ensures ∙ c.if-not-is_nested.false)

pub returns : goal.returns
returns c = once-avoids (sym c.is_nested.ensures ∙ c.if-not-is_nested.false) c.avoids_at.ensures
