use mathlib.Core.Path.{sym, ap}
use Rattle.reading.specs.TableSet.{table_mark}
use Rattle.reading.proofs.set.table_mark.Goals as goal

pub returns-in-First : goal.returns-in-First
returns-in-First c = sym (ap table_mark c.in-First.is)

pub returns-in-Second : goal.returns-in-Second
returns-in-Second c = sym (ap table_mark c.in-Second.is)
