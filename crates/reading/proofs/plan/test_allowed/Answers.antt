use mathlib.Core.Path.{◌≡◌, sym, ◌∙◌}
use lib.ListN.{drop}
use borrow.Author.Tests.{eq-eqb, ne_eqb}
use Rattle.reading.specs.Bytes.{byte_at}
use Rattle.reading.specs.Versions.{test_size}
use Rattle.reading.specs.Plan.{test_row, limited, test_limits}
use Rattle.reading.proofs.plan.test_allowed.Goals as goal
use Rattle.reading.proofs.plan.test_allowed.Goals.{After-bytes_within, then-has-eq0, else-has-eq0}

ranged : (c : After-bytes_within)
    → let a = c.args in
    c.bytes_within.result ≡ limited (test_size a.version) (drop 16 a.node.now) (drop (test_row a.has (byte_at a.node.now 16)) test_limits)
ranged c =
    -- the row of limits that the two ways lead to
    let row : c.if-has-eq0.row ≡ test_row c.args.has (byte_at c.args.node.now 16) = elim c.if-has-eq0.branch [
      | then-has-eq0 w ↦ rw (eq-eqb _ _ w.if-has-eq0.true) w.row-is
      | else-has-eq0 w ↦ rw (ne_eqb _ _ w.if-has-eq0.false, ← c.byte_at-form.ensures) w.row-is
    ] in
    c.bytes_within.ensures ∙ rw (c.tail-2.ensures, row, c.tail.ensures, c.node_size-size.ensures.value)

pub returns-then-not-bytes_within : goal.returns-then-not-bytes_within
returns-then-not-bytes_within c = rw (sym (ranged (goal.at.returns-then-not-bytes_within c).After-bytes_within) ∙ c.if-not-bytes_within.true)

pub returns-then-form-ne2 : goal.returns-then-form-ne2
returns-then-form-ne2 c =
    let e = c.byte_at-form.ensures in
    rw (sym (ranged (goal.at.returns-then-form-ne2 c).After-bytes_within) ∙ c.if-not-bytes_within.false, ← e, ne_eqb _ _ c.if-form-ne2.true)

pub returns : goal.returns
returns c =
    let e = c.byte_at-form.ensures in
    rw (sym (ranged (goal.at.returns c).After-bytes_within) ∙ c.if-not-bytes_within.false, ← e, eq-eqb _ _ c.if-form-ne2.false, ← c.test_number.ensures) c.number_as.ensures
