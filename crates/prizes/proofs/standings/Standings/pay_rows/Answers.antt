use Prim.Native.Nat.{ℕ, ◌*◌, ◌-◌, ◌≤◌, ◌<◌}
use mathlib.Core.Path.{◌≡◌, sym, ap, ◌∙◌}
use native.Mathlib.Omega.{arith}
use borrow.Rule.Slice.PartMut.{mid_len}
use lib.ListN.{length, take, drop}
use Rattle.prizes.specs.Helpers.{scores_in}
use Rattle.prizes.proofs.Tables.{scored_part, run_ends, pool-most, finished, finished-first, finished-last, run-written}
use Rattle.prizes.proofs.standings.Standings.pay_rows.Goals as goal
use Rattle.prizes.proofs.standings.Standings.pay_rows.Goals.{After-run_end-end}

ends : (c : After-run_end-end) → (c.loop-i.i < c.run_end-end.result) × (c.run_end-end.result ≤ c.args.self.now.rows)
ends c = let a = c.args in run_ends a.self.now.rows a.self.now.columns a.self.now.cells.now c.loop-i.i _ c.loop-i-test.true c.run_end-end.ensures

pub invariant_of-run : goal.invariant_of-run
invariant_of-run c =
    let a = c.args in
    let l = c.loop-i in
    record { scored = scored_part a.self.now.rows a.self.now.columns a.self.now.cells.now l.i (c.run_end-end.result - l.i) a.self.now.scored (omega (arith, ends (goal.at.invariant_of-run c).After-run_end-end)) }

pub pay_run-requires : goal.pay_run-requires
pay_run-requires c =
    let a = c.args in
    let l = c.loop-i in
    let end = c.run_end-end.result in
    let e = ends (goal.at.pay_run-requires c).After-run_end-end in
    let out : length (take (length l.out - 2 * l.i) (drop (2 * l.i) l.out)) ≡ length l.out - 2 * l.i = mid_len (2 * l.i) (length l.out) l.out (omega arith) in (
      omega (arith, e.1),
      omega (arith, c.pool_of-pool.ensures, pool-most (take (end - l.i) (drop l.i (scores_in a.self.now.rows a.self.now.columns a.self.now.cells.now))) a.places.now.pence.now l.i, a.places.now.few),
    )

pub loop-i-smaller : goal.loop-i-smaller
loop-i-smaller c = omega (arith, (ends (goal.at.loop-i-smaller c).After-run_end-end).0)

pub loop-i-preserved : goal.loop-i-preserved
loop-i-preserved c =
    let a = c.args in
    let l = c.loop-i in
    let end = c.run_end-end.result in
    let last = c.pay_run.new.out in (
      (ends (goal.at.loop-i-preserved c).After-run_end-end).1,
      run-written a.self.now.rows a.self.now.columns a.self.now.cells.now a.places.now.pence.now l.i end c.pool_of-pool.result l.out last
          c.loop-i-test.true c.run_end-end.ensures c.pool_of-pool.ensures (omega arith) c.pay_run.ensures
          ∙ l.invariant.1,
    )

pub returns : goal.returns
returns c =
    let a = c.args in
    let l = c.loop-i in
    let q : l.i ≡ a.self.now.rows = omega arith in
    sym (finished-last a.self.now.rows a.self.now.columns a.self.now.cells.now a.places.now.pence.now l.out)
    ∙ (ap (λ (k : ℕ). finished a.self.now.rows a.self.now.columns a.self.now.cells.now a.places.now.pence.now k l.out) (sym q)
    ∙ (l.invariant.1 ∙ finished-first a.self.now.rows a.self.now.columns a.self.now.cells.now a.places.now.pence.now a.out.now))
