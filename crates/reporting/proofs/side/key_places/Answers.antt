use mathlib.Core.Path.{sym, subst}
use Rattle.std.specs.Prelude.{Option}
use Rattle.reporting.specs.Sides.{PlacesFor}
use Rattle.reporting.specs.declared.side.KeyPlaces.{KeyPlaces}
use Rattle.reporting.proofs.Sides.{equal_places}
use Rattle.reporting.proofs.side.key_places.Goals as goal

pub returns-in-Equal : goal.returns-in-Equal
returns-in-Equal c =
    let keys = c.args.keys in
    subst (λ (p : Option KeyPlaces). PlacesFor keys p) (sym c.side_places.ensures) (equal_places keys c.in_ok-compared.compared c.if-keys.false c.in_ok-compared.was c.in-Equal.is)
