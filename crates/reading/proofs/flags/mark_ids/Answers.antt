use Prim.Native.Nat.{◌+◌, ◌<◌}
use native.Mathlib.Omega.{arith}
use borrow.Author.Rules.{rules}
use mathlib.Core.Path.{◌≡◌, ◌∙◌}
use mathlib.Core.List.{◌++◌, append-nil}
use lib.ListN.{length-set}
use Rattle.algebra.specs.Lists.{upward}
use Rattle.reading.proofs.IdLaws.{member-last, once-fresh, once-above, once-twice, run_more, run-stays, flag_clear, flag_taken, flag-set}
use Rattle.reading.proofs.flags.mark_ids.Goals as goal

pub loop-k-init : goal.loop-k-init
loop-k-init c = (search rules, λ ids f o. rw (append-nil ids) (o, f))

pub returns-then-id-ge256 : goal.returns-then-id-ge256
returns-then-id-ge256 c = record {
  after = λ ids f o.
      let a = c.args in
      let k = c.loop-k.k in
      run-stays ids a.first (k + 1) a.count (omega arith) (rw run_more (once-above (ids ++ upward k a.first) (a.first + k) c.if-id-ge256.true));
}

pub returns-then-marks-id-ne0 : goal.returns-then-marks-id-ne0
returns-then-marks-id-ne0 c = record {
  after = λ ids f o.
      let a = c.args in
      let l = c.loop-k in
      let i = l.invariant.1 ids f o in
      run-stays ids a.first (l.k + 1) a.count (omega arith)
      (rw run_more (once-twice (ids ++ upward l.k a.first) (a.first + l.k) (flag_taken i.1 (a.first + l.k) (omega arith) c.if-marks-id-ne0.true)));
}

pub loop-k-preserved : goal.loop-k-preserved
loop-k-preserved c =
    let a = c.args in
    let l = c.loop-k in (
      length-set l.marks (a.first + l.k) 1 ∙ l.invariant.0,
      λ ids f o.
          let i = l.invariant.1 ids f o in
          let h : a.first + l.k < 256 = omega arith in
          rw run_more (
            once-fresh (ids ++ upward l.k a.first) (a.first + l.k) h (flag_clear i.1 (a.first + l.k) h c.if-marks-id-ne0.false) i.0,
            flag-set i.1 (a.first + l.k) h (λ k. member-last k (ids ++ upward l.k a.first) (a.first + l.k)),
          ),
    )

pub returns : goal.returns
returns c = record {
  after = λ ids f o.
      let l = c.loop-k in
      let q : l.k ≡ c.args.count = omega arith in
      rw (← q) (l.invariant.1 ids f o);
}
