use Prim.Native.Nat.{ℕ, ◌-◌}
use mathlib.Core.Path.{◌≡◌, ap, ◌∙◌}
use native.Mathlib.Omega.{arith}
use lib.ListN.{length, take, drop}
use Rattle.std.proofs.lemmas.List.{take_min, drop_min, take_rest}
use Rattle.algebra.specs.Lists.{total}
use Rattle.prizes.proofs.Amounts.{sum-total, total-take, total-drop}
use Rattle.prizes.proofs.fund.Places.pence_from.Goals as goal

pub pence_of-requires : goal.pence_of-requires
pence_of-requires c =
    let p = c.args.self.now.pence.now in
    let k = c.min.result in
    let rest = take (length p - k) (drop k p) in
    omega (arith, sum-total (take c.min-2.result rest), total-take c.min-2.result rest, total-take (length p - k) (drop k p), total-drop k p, c.args.self.now.few)

pub returns : goal.returns
returns c =
    let p = c.args.self.now.pence.now in
    let k = c.min.result in
    let rest = take (length p - k) (drop k p) in
    let is : rest ≡ drop c.args.from p = take_rest p k ∙ (ap (λ (j : ℕ). drop j p) c.min.ensures ∙ drop_min c.args.from p) in
    c.pence_of.ensures
    ∙ (sum-total (take c.min-2.result rest)
    ∙ ap total (ap (λ (j : ℕ). take j rest) c.min-2.ensures ∙ (take_min c.args.n rest ∙ ap (take c.args.n) is)))
