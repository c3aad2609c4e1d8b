use mathlib.Core.Path.{sym, ◌∙◌}
use borrow.Author.Tests.{lt-ltb, le-ltb}
use Rattle.reading.specs.Plan.{fields_allowed}
use Rattle.reading.proofs.plan.fields_allowed.Goals as goal

pub returns-then-kind-ge15 : goal.returns-then-kind-ge15
unfolding fields_allowed
returns-then-kind-ge15 c = rw (← c.byte_at-kind.ensures, le-ltb _ _ c.if-kind-ge15.true)

pub returns-then-not-kind_allowed : goal.returns-then-not-kind_allowed
unfolding fields_allowed
returns-then-not-kind_allowed c =
    rw (← c.byte_at-kind.ensures, lt-ltb _ _ c.if-kind-ge15.false, sym c.kind_allowed.ensures ∙ c.if-not-kind_allowed.true)

pub returns-then-not-count_allowed : goal.returns-then-not-count_allowed
unfolding fields_allowed
returns-then-not-count_allowed c =
    rw (
      ← c.byte_at-kind.ensures,
      lt-ltb _ _ c.if-kind-ge15.false,
      sym c.kind_allowed.ensures ∙ c.if-not-kind_allowed.false,
      sym c.count_allowed.ensures ∙ c.if-not-count_allowed.true,
    )

pub returns-then-not-list_allowed : goal.returns-then-not-list_allowed
unfolding fields_allowed
returns-then-not-list_allowed c =
    rw (
      ← c.byte_at-kind.ensures,
      lt-ltb _ _ c.if-kind-ge15.false,
      sym c.kind_allowed.ensures ∙ c.if-not-kind_allowed.false,
      sym c.count_allowed.ensures ∙ c.if-not-count_allowed.false,
      ← c.kind_entry.ensures,
      sym c.list_allowed.ensures ∙ c.if-not-list_allowed.true,
    )

pub returns : goal.returns
unfolding fields_allowed
returns c =
    rw (
      ← c.byte_at-kind.ensures,
      lt-ltb _ _ c.if-kind-ge15.false,
      sym c.kind_allowed.ensures ∙ c.if-not-kind_allowed.false,
      sym c.count_allowed.ensures ∙ c.if-not-count_allowed.false,
      ← c.kind_entry.ensures,
      sym c.list_allowed.ensures ∙ c.if-not-list_allowed.false,
      ← c.kind_entry-2.ensures,
    ) c.test_allowed.ensures
