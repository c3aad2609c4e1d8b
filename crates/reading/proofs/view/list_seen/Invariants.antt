use mathlib.Core.Path.{◌≡◌}
use lib.ListN.{length, take}
use Rattle.reading.proofs.FlagLaws.{ListLeft}
use Rattle.reading.proofs.view.list_seen.Given as goal

abbrev pub invariant-loop-id : goal.invariant-loop-id
invariant-loop-id l = (length l.left ≡ 256) × ListLeft l.initial.left (take l.fn.list.count l.fn.list.ids) l.left l.id-index
