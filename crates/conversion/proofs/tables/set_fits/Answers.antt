use Prim.Native.Nat.{ℕ}
use native.Mathlib.Omega.{arith}
use mathlib.Core.Path.{◌≡◌, sym, ap, ◌∙◌}
use mathlib.Core.List.{List}
use Rattle.algebra.specs.Lists.{all}
use Rattle.reading.specs.TableSet.{cell_allowed, table_from}
use Rattle.reading.proofs.Laws.{all-holds, all-fails}
use Rattle.conversion.specs.Bytes.{table_words}
use Rattle.conversion.proofs.TableBytes.{set_all}
use Rattle.conversion.proofs.tables.set_fits.Goals as goal
use Rattle.conversion.proofs.tables.set_fits.Goals.{After-table_fits}

tested : (c : After-table_fits) → c.table_fits.result ≡ all (cell_allowed c.args.version) (table_words (table_from c.loop-t.t c.args.set.now))
tested c = c.table_fits.ensures ∙ ap (λ (s : List ℕ). all (cell_allowed c.args.version) (table_words s)) c.table_from.ensures

pub returns-then-not-table_fits : goal.returns-then-not-table_fits
returns-then-not-table_fits c =
    let a = c.args in
    let l = c.loop-t in
    sym (set_all a.version a.set.now a.tables ∙ all-fails _ _ l.t (omega arith) (sym (tested (goal.at.returns-then-not-table_fits c).After-table_fits) ∙ c.if-not-table_fits.true))

pub returns : goal.returns
returns c =
    let a = c.args in
    let l = c.loop-t in
    sym (set_all a.version a.set.now a.tables ∙ all-holds _ _ (λ k h. l.invariant k (omega arith)))
