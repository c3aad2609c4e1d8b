use mathlib.Core.Path.{sym, ◌∙◌}
use Rattle.reading.proofs.ViewLaws.{list_fails, first-fails, second_fails, test-decides}
use Rattle.reading.proofs.view.names_seen.Goals as goal

pub returns-then-not-listed_seen : goal.returns-then-not-listed_seen
returns-then-not-listed_seen c = record {
  decides = λ scope cs ds f g h.
      list_fails c.args.node scope cs ds (sym (c.listed_seen.ensures.decides cs f) ∙ c.if-not-listed_seen.true);
}

pub returns-then-not-first_seen : goal.returns-then-not-first_seen
returns-then-not-first_seen c = record {
  decides = λ scope cs ds f g h.
      first-fails c.args.node scope cs ds
      (sym (c.listed_seen.ensures.decides cs f) ∙ c.if-not-listed_seen.false)
      (sym (c.first_seen.ensures.decides cs f) ∙ c.if-not-first_seen.true);
}

pub returns-then-not-second_seen : goal.returns-then-not-second_seen
returns-then-not-second_seen c = record {
  decides = λ scope cs ds f g h.
      second_fails c.args.node scope cs ds
      (sym (c.listed_seen.ensures.decides cs f) ∙ c.if-not-listed_seen.false)
      (sym (c.first_seen.ensures.decides cs f) ∙ c.if-not-first_seen.false)
      (sym (c.second_seen.ensures.decides ds g) ∙ c.if-not-second_seen.true);
}

pub returns : goal.returns
returns c = record {
  decides = λ scope cs ds f g h.
      c.tested_seen.ensures.decides _ h
      ∙ test-decides c.args.node scope cs ds
      (sym (c.listed_seen.ensures.decides cs f) ∙ c.if-not-listed_seen.false)
      (sym (c.first_seen.ensures.decides cs f) ∙ c.if-not-first_seen.false)
      (sym (c.second_seen.ensures.decides ds g) ∙ c.if-not-second_seen.false);
}
