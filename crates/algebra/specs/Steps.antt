-- Weight, trying a step, lists of steps, and the run (docs/DEFINITION.md, "When a rule fits" and "Steps"). Definitions only.
use Rattle.std.specs.Prelude.{ℕ, zero, suc, ◌+◌, cond, List, [], ◌∷◌}
use Rattle.std.proofs.Math.Option.{Option, none, some, map}
use Rattle.algebra.specs.Plans.{Tables, is_plain, Binary, cross, semi, quant, fold, each, pair, Plan, leaf, one, two}
use Rattle.algebra.specs.Places.{size, modify}
use Rattle.algebra.specs.Refusals.{passes}
use Rattle.algebra.specs.Rules.{when, sequenced, rule, fresh}

-- ---- weight
abbrev pub binary_weight : Binary → ℕ
binary_weight cross = 0
binary_weight (semi m l r t) = cond (is_plain t) 1 2
binary_weight (quant m t) = 3
binary_weight (fold g n t) = 2
binary_weight each = 1
binary_weight (pair g n l r c t) = 1

unfoldable pub weight : Plan → ℕ
weight (leaf x) = 0
weight (one u p) = weight p
weight (two b e f) = binary_weight b + (weight e + weight f)

-- ---- steps: rule and place
pub record Step : Type 0 where
  pub number : ℕ
  pub place : ℕ

abbrev pub or_else : Plan → Option Plan → Plan
or_else p none = p
or_else p (some q) = q

abbrev pub fits : Option Plan → ℕ
fits none = 0
fits (some q) = 1

-- the first that is there of f k, f (k + 1), .., n of them
abbrev pub first_or : {A : Type 0} → Option A → Option A → Option A
first_or none x = x
first_or (some a) x = some a

abbrev pub first : {A : Type 0} → ℕ → ℕ → (ℕ → Option A) → Option A
first zero k f = none
first (suc n) k f = first_or (f k) (first n (suc k) f)

abbrev pub follow : (Plan → List Step) → Option (Step × Plan) → List Step
follow k none = []
follow k (some x) = x.0 ∷ k x.1

module _ (T : Tables) where
  -- each rule needs the plan after it to pass refusals 8 to 14
  abbrev pub accepted : Option Plan → Option Plan
  accepted none = none
  accepted (some p) = when (passes T p) p

  -- the plan after the step, where its rule fits at its place
  unfoldable pub attempt : Step → Plan → Option Plan
  attempt s p = accepted (modify (rule T (sequenced T) (fresh T p) s.number) p s.place)

  -- the plan that the list of steps leaves, and how many of them fitted
  unfoldable pub after : List Step → Plan → Plan
  after [] p = p
  after (s ∷ ss) p = after ss (or_else p (attempt s p))

  unfoldable pub fitted : List Step → Plan → ℕ
  fitted [] p = 0
  fitted (s ∷ ss) p = fits (attempt s p) + fitted ss (or_else p (attempt s p))

  -- ---- the run: at the smallest place where a rule fits, again and again; n bounds the steps
  abbrev pub tried : Plan → ℕ → ℕ → Option (Step × Plan)
  tried p i u = map (λ q. (record { number = u; place = i }, q)) (attempt (record { number = u; place = i }) p)

  abbrev pub at_place : Plan → ℕ → Option (Step × Plan)
  at_place p i = first 8 1 (tried p i)

  unfoldable pub smallest : Plan → Option (Step × Plan)
  smallest p = first (size p) 0 (at_place p)

  unfoldable pub run : ℕ → Plan → List Step
  run zero p = []
  run (suc n) p = follow (run n) (smallest p)
