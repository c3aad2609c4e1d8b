-- What may stand between a Some, an Every or a Fold and the Select that U1, U2 and U5 look for: nothing, or one Project, which the node can
-- do without. Assumes nothing.
use Prim.Native.Nat.{ℕ}
use mathlib.Core.Bool.{Bool, true, false, not, cond, ◌||◌, and-eq-true_iff}
use mathlib.Core.Path.{◌≡◌, refl, ap, ap₂, sym, ◌∙◌, fun_ext}
use mathlib.Core.List.{List, [], ◌∷◌, ◌++◌, map, map-map}
use mathlib.Core.Option.{Option, none}
use lib.Dec.{eqb}
use borrow.Author.Tests.{eqb-true, not-true}
use Rattle.algebra.specs.Lists.{filter, all, flat_map, member}
use Rattle.algebra.specs.Cells.{Aggregate, aggregate}
use Rattle.algebra.specs.Plans.{Row, Env, Tables, Test, names, holds, select, project, distinct, group, sort, Binary, quant, fold, Plan, leaf, one, two, columns, bind, measure, gather_within, quantify, emit_within, cut, act_within, joined_within, eval, eval_within}
use Rattle.algebra.specs.Names.{measured}
use Rattle.algebra.specs.Rules.{unprojected, Sequence, unnest}
use Rattle.algebra.specs.Steps.{weight}
use Rattle.algebra.proofs.Lists.{filter_map, any-map, all_map}
use Rattle.algebra.proofs.Free.{Agree, more, agree_left, agree_right, bind-outside, holds_agree, measure-agree}

module _ (T : Tables) (S : Sequence) (c : Option ℕ) where
  pub record Between (b : Binary) : Type 0 where
    -- a Project over the Select makes no difference, whatever it lists
    pub project_dropped : (e : Plan) (ids : List ℕ) (s : Test) (g : Plan) → unnest T S c (two b e (one (project ids) (one (select s) g))) ≡ unnest T S c (two b e (one (select s) g))
    -- over two Projects, a Distinct or a Sort no rule fits
    pub two_projects : (e : Plan) (ids js : List ℕ) (g : Plan) → unnest T S c (two b e (one (project ids) (one (project js) g))) ≡ none
    pub no_distinct : (e : Plan) (ids : List ℕ) (g : Plan) → unnest T S c (two b e (one (distinct ids) g)) ≡ none
    pub no_sort : (e : Plan) (d : Bool) (ids : List ℕ) (g : Plan) → unnest T S c (two b e (one (sort d ids) g)) ≡ none

  pub quant-between : (m : Bool) (t : Test) → Between (quant m t)
  unfolding unnest
  quant-between m t = record {
    project_dropped = λ e ids s g. refl;
    two_projects = λ e ids js g. refl;
    no_distinct = λ e ids g. refl;
    no_sort = λ e d ids g. refl;
  }

  pub fold-between : (a : Aggregate) (n : ℕ) (t : Test) → Between (fold a n t)
  unfolding unnest
  fold-between a n t = record {
    project_dropped = λ e ids s g. refl;
    two_projects = λ e ids js g. refl;
    no_distinct = λ e ids g. refl;
    no_sort = λ e d ids g. refl;
  }

-- ---- the plan under a Project
-- a plan, and the plan without its top Project, if it has one
pub data Under : Plan → Plan → Type 0 where
  listed : (ids : List ℕ) (g : Plan) → Under (one (project ids) g) g
  itself : (f : Plan) → Under f f

abbrev pub under : (f : Plan) → Under f (unprojected f)
under (leaf x) = itself (leaf x)
under (one (select s) g) = itself (one (select s) g)
under (one (project ids) g) = listed ids g
under (one (distinct ids) g) = itself (one (distinct ids) g)
under (one (group a n l r c t) g) = itself (one (group a n l r c t) g)
under (one (sort d ids) g) = itself (one (sort d ids) g)
under (two b e f) = itself (two b e f)

-- a Project weighs nothing
pub under-weight : {f g : Plan} → Under f g → weight f ≡ weight g
unfolding weight
under-weight (listed ids g) = refl
under-weight (itself f) = refl

-- ---- names that read the same with and without it
-- inside a cut row a listed column has the value that it has in the row
bind-cut : (ids : List ℕ) (k env : Env) (x : ℕ) → bind ids (map k ids) env x ≡ cond (member x ids) (k x) (env x)
bind-cut [] k env x = refl
bind-cut (i ∷ ids) k env x =
    (elim (eqb x i) as (λ b. eqb x i ≡ b → cond b (k i) (bind ids (map k ids) env x) ≡ cond (b || member x ids) (k x) (env x)) [
      | true ↦ λ e. ap k (sym (eqb-true x i e))
      | false ↦ λ e. bind-cut ids k env x
    ]) refl

-- of a row's columns the names read only listed ones
abbrev shown : List ℕ → List ℕ → List ℕ → Bool
shown ids cs xs = all (λ x. member x ids || not (member x cs)) xs

shown-agree : (xs ids cs : List ℕ) (r : Row) (env : Env) → shown ids cs xs ≡ true → Agree (bind ids (cut ids cs env r) env) (bind cs r env) xs
shown-agree [] ids cs r env h = Agree.none
shown-agree (x ∷ xs) ids cs r env h =
    let (k, l) = (and-eq-true_iff (member x ids || not (member x cs)) (shown ids cs xs)).0 h in
    more (bind-cut ids (bind cs r env) env x ∙ value (member x ids) k) (shown-agree xs ids cs r env l)
  where
    value : (b : Bool) → (b || not (member x cs)) ≡ true → cond b (bind cs r env x) (env x) ≡ bind cs r env x
    value true k = refl
    value false k = sym (bind-outside cs r env x (not-true (member x cs) k))

quantify-map : (m : Bool) (p : Row → Bool) (k : Row → Row) (rs : List Row) → quantify m p (map k rs) ≡ quantify m (λ r. p (k r)) rs
quantify-map false p k rs = any-map p k rs
quantify-map true p k rs = all_map p k rs

module _ (T : Tables) where
  -- of the columns of the Project's child the names read only listed ones
  abbrev pub Shown : List ℕ → {f g : Plan} → Under f g → Type 0
  Shown xs (listed ids g) = shown ids (columns T g) xs ≡ true
  Shown xs (itself f) = Unit {0}

  -- then Some, Every and Fold give the same rows without it
  pub drop-quant : (m : Bool) (t : Test) (e : Plan) {f g : Plan} (u : Under f g) → Shown (names t) u → (env : Env) → eval T (two (quant m t) e g) env ≡ eval T (two (quant m t) e f) env
  unfolding eval_within columns joined_within emit_within act_within
  drop-quant m t e (itself f) h env = refl
  drop-quant m t e (listed ids g) h env = ap (λ (k : Row → List Row). flat_map k (eval T e env)) (fun_ext (λ l.
      let inside : Env = bind (columns T e) l env in
      ap (λ (v : Bool). cond v (l ∷ []) [])
      (ap (λ (p : Row → Bool). quantify m p (eval T g inside)) (fun_ext (λ r. sym (holds_agree t (shown-agree (names t) ids (columns T g) r inside h))))
      ∙ sym (quantify-map m (λ r. holds t (bind ids r inside)) (cut ids (columns T g) inside) (eval T g inside)))))

  pub drop-fold : (a : Aggregate) (n : ℕ) (t : Test) (e : Plan) {f g : Plan} (u : Under f g) → Shown (measured a ++ names t) u
      → (env : Env) → eval T (two (fold a n t) e g) env ≡ eval T (two (fold a n t) e f) env
  unfolding eval_within columns joined_within emit_within act_within gather_within
  drop-fold a n t e (itself f) h env = refl
  drop-fold a n t e (listed ids g) h env = ap (λ (k : Row → List Row). flat_map k (eval T e env)) (fun_ext (λ l.
      let inside : Env = bind (columns T e) l env in
      let reads : (r : Row) → Agree (bind ids (cut ids (columns T g) inside r) inside) (bind (columns T g) r inside) (measured a ++ names t) = λ r. shown-agree (measured a ++ names t) ids (columns T g) r inside h in
      ap (λ (vs : List ℕ). (l ++ (aggregate a vs ∷ [])) ∷ [])
      (ap₂ (λ (k : Row → ℕ) (p : Row → Bool). map k (filter p (eval T g inside)))
      (fun_ext (λ r. sym (measure-agree a (agree_left (measured a) (names t) (reads r)))))
      (fun_ext (λ r. sym (holds_agree t (agree_right (measured a) (names t) (reads r)))))
      ∙ sym (map-map (λ r. measure a (bind ids r inside)) (cut ids (columns T g) inside) (filter (λ r. holds t (bind ids (cut ids (columns T g) inside r) inside)) (eval T g inside)))
      ∙ ap (map (λ r. measure a (bind ids r inside))) (sym (filter_map (λ r. holds t (bind ids r inside)) (cut ids (columns T g) inside) (eval T g inside))))))
