use mathlib.Core.Path.{sym, ◌∙◌}
use Rattle.reporting.proofs.Known.{found_shared, shared-if}
use Rattle.reporting.proofs.side.is_shared.Goals as goal

pub returns-then-compared_shared : goal.returns-then-compared_shared
returns-then-compared_shared c =
    let f = c.args.found in
    shared-if c.side_shared.result f (λ h. found_shared f (sym c.compared_shared.ensures ∙ c.if-compared_shared.true) (sym c.side_shared.ensures ∙ h))
