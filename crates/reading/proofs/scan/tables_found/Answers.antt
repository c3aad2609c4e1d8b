use native.Mathlib.Omega.{arith}
use borrow.Author.Count.{below_more}
use mathlib.Core.Path.{◌≡◌, sym, ◌∙◌}
use Rattle.algebra.specs.Refusals.{found}
use Rattle.reading.specs.Plan.{nodes_of}
use Rattle.reading.specs.Tree.{operator_at}
use Rattle.reading.proofs.Laws.{all-holds, all-fails}
use Rattle.reading.proofs.scan.tables_found.Goals as goal

pub returns-then-not-table_found : goal.returns-then-not-table_found
returns-then-not-table_found c = record {
  decides = λ T e.
      let p = c.args.plan.now in
      let l = c.loop-i in
      let f = rw c.node_at.ensures at (c.table_found.ensures.decides T e) in
      sym (all-fails (nodes_of p) (λ i. found T (operator_at p i)) l.i (omega arith) (sym f ∙ c.if-not-table_found.true));
}

pub loop-i-preserved : goal.loop-i-preserved
loop-i-preserved c =
    let p = c.args.plan.now in
    let l = c.loop-i in
    λ T e.
    let f = rw c.node_at.ensures at (c.table_found.ensures.decides T e) in
    below_more _ _ (l.invariant T e) (sym f ∙ c.if-not-table_found.false)

pub returns : goal.returns
returns c = record {
  decides = λ T e.
      let p = c.args.plan.now in
      let l = c.loop-i in
      let q : l.i ≡ nodes_of p = omega arith in
      sym (all-holds (nodes_of p) (λ i. found T (operator_at p i)) (rw q at (l.invariant T e)));
}
