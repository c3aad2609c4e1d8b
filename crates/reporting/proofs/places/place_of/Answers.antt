use mathlib.Core.Path.{ap, ◌∙◌}
use lib.ListN.{length}
use Rattle.std.specs.Option.{unwrap_or}
use Rattle.reporting.proofs.Alike.{place-found}
use Rattle.reporting.proofs.places.place_of.Goals as goal

pub returns : goal.returns
returns c =
    let a = c.args in
    c.unwrap_or.ensures ∙ ap (λ o. unwrap_or o (length a.ids.now)) c.found_at.ensures ∙ place-found a.x a.ids.now
