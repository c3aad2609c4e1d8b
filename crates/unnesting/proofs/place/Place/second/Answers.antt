use native.Mathlib.Omega.{arith}
use Rattle.unnesting.proofs.CountLaws.{place-below}
use Rattle.unnesting.proofs.place.Place.second.Goals as goal

pub overflow_add-self : goal.overflow_add-self
overflow_add-self c = omega (arith, place-below _ _ c.args.self.accepted _ c.args.self.within)
