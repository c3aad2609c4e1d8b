use Rattle.reporting.proofs.Children.{both-wide, more-wide, left-wide}
use Rattle.reporting.proofs.matching.emitted_width.Goals as goal

pub returns-in-Cross : goal.returns-in-Cross
returns-in-Cross c = let a = c.args in both-wide a.node a.ids.now a.jds.now c.in-Cross.is

pub returns-in-Fold : goal.returns-in-Fold
returns-in-Fold c = let a = c.args in more-wide a.node a.ids.now a.jds.now c.in-Fold.is

pub returns-in_default : goal.returns-in_default
returns-in_default c =
    let a = c.args in
    let d = c.in_default in
    left-wide a.node a.ids.now a.jds.now c.requires.0 d.not-Cross d.not-Each d.not-Fold d.not-Pair
