use mathlib.Core.Path.{◌≡◌, sym, ap, ◌∙◌}
use Prim.Native.Nat.{◌+◌, ◌-◌}
use native.Mathlib.Omega.{arith}
use lib.ListN.{length, take, drop, get_or, length-set}
use Rattle.algebra.specs.Plans.{Row, bind}
use Rattle.reporting.specs.Rows.{env_of}
use Rattle.reporting.proofs.Chunks.{part-row}
use Rattle.reporting.proofs.Copies.{written-more, written-rest, written_as}
use Rattle.reporting.proofs.Envs.{cut-more}
use Rattle.reporting.proofs.select.cut_row.Goals as goal

pub loop-j-preserved : goal.loop-j-preserved
loop-j-preserved c =
    let a = c.args in
    let l = c.loop-j in
    let w = length a.ids.now in
    let row : Row = take w (drop a.src a.cells.now) in
    let id = get_or a.list.now l.j 0 in
    let p = l.invariant.1 in
    let same : take (a.src + w - a.src) (drop a.src l.cells) ≡ row = sym (part-row a.src w l.cells) ∙ ap (take w) (written-rest p a.src (omega arith)) in
    let cell : c.column.result ≡ bind a.ids.now row (env_of a.env.now) id = c.column.ensures ∙ ap (λ q. bind a.ids.now q (env_of a.env.now) id) same in
    (simp length-set l.invariant.0, written_as (cut-more a.list.now a.ids.now (env_of a.env.now) row l.j c.column.result (omega arith) cell) (written-more c.column.result p (omega arith)))
