use mathlib.Core.Path.{◌≡◌}
use lib.ListN.{length, take}
use Rattle.reading.specs.Flags.{Adds}
use Rattle.reading.proofs.view.add_list.Given as goal

abbrev pub invariant-loop-id : goal.invariant-loop-id
invariant-loop-id l = (length l.marks ≡ 256) × Adds l.initial.marks (take l.id-index (take l.fn.list.count l.fn.list.ids)) l.marks
