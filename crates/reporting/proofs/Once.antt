-- An inner plan that names no column of the left rows gives each of them the same rows, so it is run once. Assumes nothing.
use Prim.Native.Nat.{ℕ}
use mathlib.Core.Bool.{Bool, true, false, not, ◌&&◌, true≢false, false≢true}
use mathlib.Core.Path.{◌≡◌, refl, sym, ap, ap₂, ◌∙◌, fun_ext}
use mathlib.Core.List.{List}
use borrow.Author.Tests.{not-false}
use Rattle.algebra.specs.Lists.{flat_map}
use Rattle.algebra.specs.Plans.{Row, Env, Tables, Plan, bind, columns, eval}
use Rattle.algebra.specs.Places.{Operator}
use Rattle.algebra.specs.Names.{free}
use Rattle.algebra.specs.Rules.{avoids}
use Rattle.algebra.proofs.Free.{eval-free}
use Rattle.algebra.proofs.Sound.{apart-agree}
use Rattle.reading.specs.TableSet.{tables_of}
use Rattle.reading.specs.Tree.{plan_at}
use Rattle.reading.specs.Nodes.{operator_nested}
use Rattle.reporting.specs.Rows.{emitted}
use Rattle.reporting.specs.Evaluation.{plain_row, differing, RunsOnce}
use Rattle.reporting.proofs.Children.{Double}

pub avoids-same : (T : Tables) (q p : Plan) → avoids T q p ≡ true → (env : Env) (l : Row) → eval T q (bind (columns T p) l env) ≡ eval T q env
avoids-same T q p h env l = eval-free T q (apart-agree (free T q) (columns T p) l env h)

-- the rows of a node whose right rows are the same for every left row
pub once-rows : {T : Tables} {op : Operator} {P p q : Plan} → Double T op P p q → differing T op p q ≡ false → (env : Env)
    → eval T P env ≡ flat_map (plain_row op (columns T p) (columns T q) (eval T q env) env) (eval T p env)
once-rows {T} {op} {P} {p} {q} D h env = by (operator_nested op) refl h
  where
    by : (b : Bool) → operator_nested op ≡ b → (b && not (avoids T q p)) ≡ false → eval T P env ≡ flat_map (plain_row op (columns T p) (columns T q) (eval T q env) env) (eval T p env)
    by false n k = D.plain n env
    by true n k =
        D.nests n env
        ∙ ap (λ (f : Row → List Row). flat_map f (eval T p env))
        (fun_ext (λ l. ap (emitted op (columns T q) l (bind (columns T p) l env)) (avoids-same T q p (not-false _ k) env l)))

-- ---- when it is run once
module _ {set plan : List ℕ} {left right : ℕ} {op : Operator} where
  pub once-plain : operator_nested op ≡ false → RunsOnce set plan left right op true
  once-plain e = record { same = λ h. ap (λ (b : Bool). b && not (avoids (tables_of set) (plan_at plan right) (plan_at plan left))) e; nests = λ h. absurd (true≢false h) }

  pub once-each : operator_nested op ≡ true → RunsOnce set plan left right op false
  once-each e = record { same = λ h. absurd (false≢true h); nests = λ h. e }

  pub once-avoids : {r : Bool} → operator_nested op ≡ true → r ≡ avoids (tables_of set) (plan_at plan right) (plan_at plan left) → RunsOnce set plan left right op r
  once-avoids e a = record { same = λ h. ap₂ (λ (b c : Bool). b && not c) e (sym a ∙ h); nests = λ h. e }
