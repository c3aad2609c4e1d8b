use Prim.Native.Nat.{◌/◌}
use mathlib.Core.Path.{sym, ap}
use Rattle.reading.specs.Versions.{node_size}
use Rattle.reading.specs.declared.version.Version.{Version}
use Rattle.reading.proofs.version.nodes_in.Goals as goal

pub returns-in-First : goal.returns-in-First
returns-in-First c = sym (ap (λ (v : Version). c.args.n / node_size v) c.in-First.is)

pub returns-in-Second : goal.returns-in-Second
returns-in-Second c = sym (ap (λ (v : Version). c.args.n / node_size v) c.in-Second.is)
