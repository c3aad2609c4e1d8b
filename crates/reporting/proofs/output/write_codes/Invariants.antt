use mathlib.Core.Path.{◌≡◌}
use mathlib.Core.List.{◌++◌, map}
use lib.ListN.{length, take, drop}
use Rattle.reporting.specs.Report.{code_of}
use Rattle.reporting.proofs.output.write_codes.Given as goal

abbrev pub invariant-loop-i : goal.invariant-loop-i
invariant-loop-i l = (length l.out ≡ length l.initial.out) × (l.out ≡ map code_of (take l.i l.cells) ++ drop l.i l.initial.out)
