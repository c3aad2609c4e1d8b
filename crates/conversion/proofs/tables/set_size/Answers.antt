use Prim.Native.Nat.{ℕ}
use native.Mathlib.Omega.{arith}
use mathlib.Core.Path.{◌≡◌, sym, ap, ◌∙◌}
use mathlib.Core.List.{List}
use lib.ListN.{length, length-append}
use Rattle.reading.specs.TableSet.{table_from}
use Rattle.conversion.specs.Bytes.{table_bytes, set_bytes}
use Rattle.conversion.proofs.TableBytes.{set-none, set_more}
use Rattle.conversion.proofs.tables.set_size.Goals as goal

pub loop-t-init : goal.loop-t-init
loop-t-init c = (omega arith, sym (ap length (set-none c.args.version c.args.set.now)))

pub loop-t-preserved : goal.loop-t-preserved
loop-t-preserved c =
    let a = c.args in
    let l = c.loop-t in
    let e = ap length (set_more a.version a.set.now l.t) ∙ length-append (set_bytes a.version l.t a.set.now) (table_bytes a.version (table_from l.t a.set.now)) in
    let z = c.table_size-size.ensures.0 ∙ ap (λ (s : List ℕ). length (table_bytes a.version s)) c.table_from.ensures in
    (omega (arith, c.table_size-size.ensures.1), omega (arith, e, z))

pub returns : goal.returns
returns c =
    let a = c.args in
    let l = c.loop-t in
    let q : l.t ≡ a.tables = omega arith in
    l.invariant.1 ∙ ap (λ (k : ℕ). length (set_bytes a.version k a.set.now)) q
