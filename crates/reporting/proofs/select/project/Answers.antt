use mathlib.Core.Path.{◌≡◌, sym, ap, subst}
use mathlib.Core.List.{List}
use Prim.Native.Nat.{ℕ}
use native.Mathlib.Omega.{arith}
use lib.ListN.{length}
use Rattle.reporting.specs.Positions.{positions, Inside}
use Rattle.reporting.specs.Rows.{rows_from, env_of}
use Rattle.reporting.specs.Evaluation.{CutsRoom, PicksGiven}
use Rattle.reporting.proofs.Alike.{positions-inside, positions-few}
use Rattle.reporting.proofs.Picks.{cuts-picked}
use Rattle.reporting.proofs.select.project.Goals as goal
use Rattle.reporting.proofs.select.project.Goals.{Else-found-n}

-- as many places were found as there are ids
all : (c : Else-found-n) → length (positions c.args.list.now c.args.ids.now) ≡ length c.args.list.now
all c =
    let a = c.args in
    omega (arith, positions-few a.list.now a.ids.now, ap length c.positions_of-found.ensures, c.if-found-n.false)

pub cut_rows_at-requires : goal.cut_rows_at-requires
cut_rows_at-requires c =
    let a = c.args in
    subst (λ (x : List ℕ). Inside x (length a.ids.now) × CutsRoom (length a.ids.now) (length x) a.own a.m (length a.cells.now)) (sym c.positions_of-found.ensures)
    (positions-inside a.list.now a.ids.now, subst (λ (n : ℕ). CutsRoom (length a.ids.now) n a.own a.m (length a.cells.now)) (sym (all (goal.at.cut_rows_at-requires c).Else-found-n)) c.requires.1)

pub returns : goal.returns
returns c =
    let a = c.args in
    let s = c.cut_rows_at in
    let many = all (goal.at.returns c).Else-found-n in
    let g : PicksGiven (positions a.list.now a.ids.now) (length a.ids.now) a.own a.m a.cells.now s.result s.new.cells = subst (λ (x : List ℕ). PicksGiven x (length a.ids.now) a.own a.m a.cells.now s.result s.new.cells) c.positions_of-found.ensures s.ensures in
    rw (cuts-picked a.list.now a.ids.now (env_of a.env.now) (rows_from a.own a.m (length a.ids.now) a.cells.now) many, ← many) g
