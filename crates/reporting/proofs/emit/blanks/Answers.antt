use mathlib.Core.Path.{◌≡◌, ap, ◌∙◌}
use Prim.Native.Nat.{ℕ, ◌+◌, ◌-◌}
use native.Mathlib.Omega.{arith}
use lib.ListN.{length, length-replicate, take, drop, length-drop, replicate}
use lib.Seq.{length-take-le}
use Rattle.reporting.proofs.Lent.{written_back}
use Rattle.reporting.proofs.emit.blanks.Goals as goal

pub returns : goal.returns
returns c =
    let a = c.args in
    let all : length (take (a.at + a.n - a.at) (drop a.at a.cells.now)) ≡ a.n = length-take-le (a.at + a.n - a.at) (drop a.at a.cells.now) (rw length-drop (omega (arith, c.requires))) ∙ omega arith in
    written_back a.at a.n a.cells.now (replicate a.n 0) c.fill.new.self c.requires (length-replicate a.n 0) (c.fill.ensures.after (λ y e. e) ∙ ap (λ (k : ℕ). replicate k 0) all)
