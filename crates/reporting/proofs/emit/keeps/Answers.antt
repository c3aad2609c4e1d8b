use mathlib.Core.Path.{sym, ap, ◌∙◌}
use mathlib.Core.Bool.{not}
use lib.ListN.{length, drop}
use Prim.Native.Nat.{◌-◌}
use Rattle.algebra.specs.Lists.{any}
use Rattle.reporting.specs.Held.{held_in}
use Rattle.reporting.specs.Sides.{meets}
use Rattle.reporting.proofs.Emits.{turned-inside, keeps_every, keeps_anti, keeps_other}
use Rattle.reporting.proofs.emit.keeps.Goals as goal

pub any_row-requires : goal.any_row-requires
any_row-requires c =
    let a = c.args in
    let x = a.asked.now in
    record { found = rw c.turned.ensures (turned-inside x.found (length a.cells.now - a.src) (length x.right.columns.now) c.requires.inside.found); held = c.requires.inside.held }

pub returns-in-Every-clause-value : goal.returns-in-Every-clause-value
returns-in-Every-clause-value c =
    let a = c.args in
    let x = a.asked.now in
    let rs = held_in x.right a.cells.now in
    ap not (c.any_row.ensures ∙ ap (λ f. any (meets f (drop a.src a.cells.now)) rs) c.turned.ensures)
    ∙ sym (keeps_every x.node.kind x.found (drop a.src a.cells.now) rs c.in-Every.is)

pub returns-in-Anti-clause-value : goal.returns-in-Anti-clause-value
returns-in-Anti-clause-value c =
    let a = c.args in
    let x = a.asked.now in
    ap not c.meets_some.ensures.value
    ∙ sym (keeps_anti x.node.kind x.found (drop a.src a.cells.now) (held_in x.right a.cells.now) c.in-Anti.is)

pub returns-in_default-clause-value : goal.returns-in_default-clause-value
returns-in_default-clause-value c =
    let a = c.args in
    let x = a.asked.now in
    c.meets_some-in_default.ensures.value
    ∙ sym (keeps_other x.node.kind x.found (drop a.src a.cells.now) (held_in x.right a.cells.now) c.in_default.not-Every c.in_default.not-Anti)
