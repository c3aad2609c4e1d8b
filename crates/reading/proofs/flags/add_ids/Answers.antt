use Prim.Native.Nat.{◌+◌}
use native.Mathlib.Omega.{arith}
use borrow.Author.Rules.{rules}
use mathlib.Core.Path.{◌≡◌, ap, ◌∙◌}
use lib.ListN.{length, length-set}
use Rattle.reading.proofs.IdLaws.{member-upward, flag-set, flag_above}
use Rattle.reading.proofs.flags.add_ids.Goals as goal
use Rattle.reading.proofs.flags.add_ids.Goals.{then-id-lt256, else-id-lt256}

pub loop-k-init : goal.loop-k-init
loop-k-init c = (search rules, λ ids f. f)

pub loop-k-preserved : goal.loop-k-preserved
loop-k-preserved c =
    let a = c.args in
    let l = c.loop-k in (
      elim c.if-id-lt256.branch [
        | then-id-lt256 w ↦ ap length w.marks-is ∙ (length-set l.marks (a.first + l.k) 1 ∙ l.invariant.0)
        | else-id-lt256 w ↦ ap length w.marks-is ∙ l.invariant.0
      ],
      λ ids f. elim c.if-id-lt256.branch [
        | then-id-lt256 w ↦ rw w.marks-is (flag-set (l.invariant.1 ids f) (a.first + l.k) (omega arith) (λ j. member-upward j l.k a.first ids))
        | else-id-lt256 w ↦ rw w.marks-is (flag_above (l.invariant.1 ids f) (a.first + l.k) (omega arith) (λ j. member-upward j l.k a.first ids))
      ],
    )

pub returns : goal.returns
returns c =
    let l = c.loop-k in
    let q : l.k ≡ c.args.count = omega arith in
    record { after = λ ids f. rw (← q) (l.invariant.1 ids f) }
