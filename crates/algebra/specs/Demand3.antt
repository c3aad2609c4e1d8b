-- What demand 3 claims of a list of steps, and what a run is (docs/DEFINITION.md, "The three demands"). Definitions only.
use Rattle.std.specs.Prelude.{ℕ, ◌+◌, ◌≤◌, ◌<◌, ◌≡◌, List, [], ◌∷◌}
use Rattle.std.proofs.Math.Option.{none, some}
use Rattle.algebra.specs.Plans.{Env, Tables, Plan, columns, eval}
use Rattle.algebra.specs.Steps.{weight, Step, attempt, after, fitted}

module _ (T : Tables) where
  -- the same columns and, inside any rows, the same rows
  pub record Same (p q : Plan) : Type 0 where
    pub same_columns : columns T p ≡ columns T q
    pub same_rows_of : (env : Env) → eval T p env ≡ eval T q env

  -- the list of steps, tried one after another from the plan, leaves a plan that gives the same report, and the steps that fitted
  -- are at most as many as the weight that the plan lost
  pub record Demand3 (ss : List Step) (p : Plan) : Type 0 where
    pub unchanged : Same (after T ss p) p
    pub paid : fitted T ss p + weight (after T ss p) ≤ weight p

  -- no rule fits at this place of the plan
  abbrev pub Still : Plan → ℕ → Type 0
  Still p i = (u : ℕ) → 1 ≤ u → u ≤ 8 → attempt T (record { number = u; place = i }) p ≡ none

  -- the steps lead from a plan to the last one: each step fits, at the smallest place where a rule does, and none fits at the end
  pub data Run : Plan → List Step → Plan → Type 0 where
    done : {p : Plan} → ((i : ℕ) → Still p i) → Run p [] p
    next : {p q last : Plan} {u i : ℕ} {ss : List Step} → 1 ≤ u → u ≤ 8 → attempt T (record { number = u; place = i }) p ≡ some q → ((j : ℕ) → j < i → Still p j)
        → Run q ss last → Run p (record { number = u; place = i } ∷ ss) last
