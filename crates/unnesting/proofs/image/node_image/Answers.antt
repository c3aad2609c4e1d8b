use mathlib.Core.Path.{ap, ◌∙◌}
use lib.ListN.{length}
use Rattle.unnesting.proofs.ImageLaws.{image-made, test-long}
use borrow.Author.Rules.{rules}
use Rattle.unnesting.proofs.image.node_image.Goals as goal

pub returns : goal.returns
returns c =
    let n = c.args.node in
    let e = c.test_image.ensures in
    rw (c.copy_from_slice.ensures.after, c.copy_from_slice-2.ensures.after, c.copy_from_slice-3.ensures.after, c.from-kind.ensures, c.from-comparison.ensures)
    (image-made n c.test_image.result (search rules) (ap length e ∙ test-long n.negated n.test) e)
