-- What the trees at all places of a whole plan inherit from the plan's own tree. Assumes nothing.
use Rattle.std.specs.Prelude.{Err, Ok}
use Prim.Native.Nat.{ℕ, zero, suc, ◌+◌, ◌*◌, ◌-◌, ◌≤◌, ◌<◌, min}
use mathlib.Core.Bool.{true, false}
use mathlib.Core.Path.{◌≡◌, refl, ap, ap₂, sym, ◌∙◌, subst}
use mathlib.Core.List.{List, [], ◌∷◌, ◌++◌, append-nil}
use native.Mathlib.Omega.{arith}
use native.Mathlib.Decide.{dec_lt, ℕ_discrete}
use native.Mathlib.Nat.{zero-mul, mul-le-mul, le_trans}
use lib.Dec.{ltb}
use lib.ListN.{length, take, drop, replicate, length-drop, drop_of_length-le}
use borrow.Rule.Slice.PartMut.{put_mid, post_of}
use lib.Seq.{take-add, length-take-le}
use borrow.Author.Tests.{lt-ltb, le-ltb}
use Rattle.algebra.specs.Lists.{flat_map}
use Rattle.algebra.specs.Plans.{Row, Env, Tables, unit, Unary, distinct, Binary, Plan, leaf, one, two, columns, eval}
use Rattle.algebra.specs.Places.{Operator, unary_node, size, subtrees}
use Rattle.algebra.specs.Names.{introduced}
use Rattle.algebra.specs.Refusals.{bound, width, in_view, part, need}
use Rattle.algebra.specs.Rules.{outside}
use Rattle.algebra.proofs.Places.{size-positive}
use Rattle.algebra.proofs.Needs.{extent, part-one, part-two}
use Rattle.reading.specs.TableSet.{tables_of}
use Rattle.reading.specs.Plan.{nodes_of}
use Rattle.reading.specs.Tree.{plan_at, plan_of, whole_tree}
use Rattle.reading.specs.Nodes.{arity}
use Rattle.reading.specs.Refusals.{refusal_number}
use Rattle.reading.specs.Check.{or_next, input_refusal, check_of}
use Rattle.reading.specs.declared.refusal.Refusal.{Refusal}
use Rattle.reading.proofs.Trees.{plan_past, plan_case, first_tree, second_tree}
use Rattle.reading.proofs.Places.{whole-size}
use Rattle.reading.proofs.Acceptance.{number-positive}
use Rattle.reporting.specs.Rows.{chunk, env_of, Gives, acted, acted_columns}
use Rattle.reporting.specs.Evaluation.{Sound, Ready, UnaryRoom}
use Rattle.reporting.specs.Report.{scratch_number, tree_cells, rows_number, rows_left, RowsGiven}
use Rattle.reporting.specs.declared.answer.Report.{Report}
use Rattle.reporting.proofs.Chunks.{times_suc, length-chunk}
use Rattle.reporting.proofs.Soundness.{sound_child, sound-left, sound-right, sound-width, sound-bound, sound-within}
use Rattle.reporting.proofs.Lent.{tail_part}
use Rattle.reporting.proofs.Children.{Single, single}
use Rattle.reporting.proofs.Arms.{kid_of, unary_arm}
use Rattle.reporting.proofs.Reports.{refused-input, or-next, whole-input, zeros_outside, ready}

module _ (plan : List ℕ) (Q : Plan → Type 0) (child : (u : Unary) (p : Plan) → Q (one u p) → Q p) (left : (b : Binary) (e f : Plan) → Q (two b e f) → Q e)
    (right : (b : Binary) (e f : Plan) → Q (two b e f) → Q f)
  where
    -- from the tree at place j to those inside of it
    inside : (d j : ℕ) → nodes_of plan ≤ j + d → j + size (plan_at plan j) ≤ nodes_of plan → Q (plan_at plan j) → (i : ℕ) → j ≤ i → i < j + size (plan_at plan j) → Q (plan_at plan i)
    unfolding size
    inside zero j h g q i l m = absurd (omega (arith, size-positive (plan_at plan j)))
    inside (suc d) j h g q i l m = elim (ℕ_discrete i j) [
      | yes e ↦ subst (λ (k : ℕ). Q (plan_at plan k)) (sym e) q
      | no n ↦
          plan_case plan j (λ op p. j + size p ≤ nodes_of plan → Q p → i < j + size p → Q (plan_at plan i))
          (λ x a b c. absurd (omega arith))
          (λ u a b c. inside d (j + 1) (omega arith) (omega arith) (child u (first_tree plan j) b) i (omega arith) (omega arith))
          (λ o a b c. elim (dec_lt i (j + 1 + size (first_tree plan j))) [
            | yes k ↦ inside d (j + 1) (omega arith) (omega arith) (left o (first_tree plan j) (second_tree plan j) b) i (omega arith) (omega arith)
            | no k ↦ inside d (j + 1 + size (first_tree plan j)) (omega arith) (omega arith) (right o (first_tree plan j) (second_tree plan j) b) i (omega arith) (omega arith)
          ])
          (omega (arith, size-positive (plan_at plan j))) g q m
    ]

    pub inherited : whole_tree plan ≡ true → Q (plan_of plan) → (i : ℕ) → i < nodes_of plan → Q (plan_at plan i)
    inherited w q i h = inside (nodes_of plan) 0 (omega arith) (omega (arith, whole-size plan w)) q i (omega arith) (omega (arith, whole-size plan w))

-- ---- the tree at any place of an accepted plan can be evaluated in the scratch that the plan needs

-- one that is sound and whose part fits
record Fitting (T : Tables) (cells : ℕ) (p : Plan) : Type 0 where
  good : Sound T p
  fits : part T p ≤ cells

module _ (T : Tables) (cells : ℕ) where
  fitting_child : (u : Unary) (p : Plan) → Fitting T cells (one u p) → Fitting T cells p
  fitting_child u p f = record { good = sound_child f.good; fits = omega (arith, f.fits, part-one T u p) }

  fitting-left : (b : Binary) (e f : Plan) → Fitting T cells (two b e f) → Fitting T cells e
  fitting-left b e f g = record { good = sound-left g.good; fits = omega (arith, g.fits, part-two T b e f) }

  fitting-right : (b : Binary) (e f : Plan) → Fitting T cells (two b e f) → Fitting T cells f
  fitting-right b e f g = record { good = sound-right g.good; fits = omega (arith, g.fits, part-two T b e f) }

  unit-fitting : Fitting T cells (leaf unit)
  unfolding subtrees columns bound introduced in_view
  unit-fitting = record { good = record { narrow_all = refl; low_all = refl; small = refl; scope = []; in_view_all = refl }; fits = omega arith }

pub ready_at : (set plan : List ℕ) (cells : ℕ) → input_refusal set plan ≡ 0 → need (tables_of set) (plan_of plan) ≤ cells + 4096 → (i : ℕ) → Ready (tables_of set) (plan_at plan i) cells 256
ready_at set plan cells a h i =
    let T : Tables = tables_of set in
    let r = ready set plan cells a h in
    let f : Fitting T cells (plan_at plan i) = elim (dec_lt i (nodes_of plan)) [
      | yes l ↦
          inherited plan (Fitting T cells) (fitting_child T cells) (fitting-left T cells) (fitting-right T cells) (whole-input set plan a)
          (record { good = r.sound; fits = r.room }) i l
      | no l ↦ subst (Fitting T cells) (sym (plan_past plan i (omega arith))) (unit-fitting T cells)
    ] in
    record { sound = f.good; room = f.fits; bound = refl }

-- what the need has besides the plan's part
pub spare : (T : Tables) (p : Plan) → 4096 ≤ need T p
unfolding need
spare T p = omega arith

-- ---- what the evaluator leaves at a place

flat_cells : (k w : ℕ) (cells : List ℕ) → flat_map (λ (row : Row). row) (chunk k w cells) ≡ take (k * w) cells
unfolding chunk
flat_cells zero w cells = rw zero-mul
flat_cells (suc k) w cells =
    ap (λ (l : List ℕ). take w cells ++ l) (flat_cells k w (drop w cells)) ∙ sym (take-add w (k * w) cells) ∙ ap (λ (n : ℕ). take n cells) (sym (times_suc k w))

pub record EvaluatedAt (T : Tables) (p : Plan) (cells : List ℕ) (room rows columns : ℕ) : Type 0 where
  pub rows_are : rows ≡ length (eval T p outside)
  pub columns_are : columns ≡ width T p
  pub most : rows * columns ≤ 131072
  pub inside : rows * columns ≤ room
  pub front : take (rows * columns) cells ≡ flat_map (λ (row : Row). row) (eval T p outside)

pub evaluated-at : (T : Tables) (p : Plan) (cells : List ℕ) (room rows columns : ℕ) → width T p ≤ 32 → bound T p ≤ 4096 → extent T p ≤ room
    → Gives (eval T p (env_of (replicate 256 0))) (width T p) (bound T p) rows cells → columns ≡ width T p → EvaluatedAt T p cells room rows columns
evaluated-at T p cells room rows columns thin few fits g w =
    let is : chunk rows (width T p) cells ≡ eval T p outside = g.is ∙ ap (λ (env : Env). eval T p env) zeros_outside in
    let low : rows * columns ≤ extent T p = mul-le-mul g.few (omega arith) in
    record {
      rows_are = sym (length-chunk rows (width T p) cells) ∙ ap length is;
      columns_are = w;
      most = le_trans low (mul-le-mul few thin);
      inside = le_trans low fits;
      front = sym (flat_cells rows columns cells) ∙ ap (λ (n : ℕ). flat_map (λ (row : Row). row) (chunk rows n cells)) w ∙ ap (flat_map (λ (row : Row). row)) is;
    }

-- .. of the tree itself
pub tree-evaluated : (T : Tables) (p : Plan) (cells : List ℕ) (room rows columns : ℕ) → Ready T p room 256 → Gives (eval T p (env_of (replicate 256 0))) (width T p) (bound T p) rows cells
    → columns ≡ min (width T p) 33 → EvaluatedAt T p cells room rows columns
tree-evaluated T p cells room rows columns r g c =
    let thin : width T p ≤ 32 = sound-width r.sound in
    evaluated-at T p cells room rows columns thin (sound-bound r.sound) (omega (arith, sound-within r.sound, r.room)) g (omega arith)

-- .. of a Distinct of one column over it, whose own rows were left from cell 4,096 on
module _ (T : Tables) (p : Plan) (id : ℕ) (op : Operator) (e : op ≡ unary_node (distinct (id ∷ []))) where
  abbrev keys : Plan
  keys = one (distinct (id ∷ [])) p

  keys-single : Single T op keys p
  keys-single = subst (λ (o : Operator). Single T o keys p) (sym e) (single T (distinct (id ∷ [])) p)

  pub keys-arity : arity op ≡ 1
  keys-arity = ap arity e

  -- the keys, one cell each, stand before the tree's rows
  pub keys-room : (m cells : ℕ) → m ≤ 4096 → 4096 + m * width T p ≤ cells → UnaryRoom op (columns T p) 4096 m cells
  keys-room m cells h k = rw e (record { share = omega arith; cuts = record { below = λ i l. omega arith; inside = k } })

  pub keys-evaluated : (scratch ys cells : List ℕ) (m rows j : ℕ) → 4096 ≤ length scratch → Ready T p (length ys) 256
      → Gives (eval T p (env_of (replicate 256 0))) (width T p) (bound T p) m ys
      → Gives (acted op (columns T p) (env_of (replicate 256 0)) (chunk m (width T p) (drop 4096 (put_mid 4096 j scratch ys)))) (length (acted_columns op (columns T p))) m rows cells
      → EvaluatedAt T keys cells (length scratch) rows 1
  unfolding columns bound
  keys-evaluated scratch ys cells m rows j h r g k =
      evaluated-at T keys cells (length scratch) rows 1 (omega arith) (sound-bound r.sound) (omega (arith, sound-bound r.sound))
      (unary_arm keys-single 4096 j scratch h (kid_of r g) k) refl

-- ---- the ends of the call

-- nothing is behind all of the cells
all_left : (scratch : List ℕ) → scratch ++ replicate (length scratch - length scratch) 0 ≡ scratch
all_left scratch = let z : length scratch - length scratch ≡ 0 = omega arith in rw z (append-nil scratch)

module _ (set plan scratch : List ℕ) where
  -- the number, and what it leaves of scratch where the rows are still to be found
  abbrev Turned : ℕ → List ℕ → Type 0
  Turned number scratch' = (number ≡ rows_number set plan (length scratch)) × (scratch' ≡ rows_left (input_refusal set plan) (scratch_number set plan (length scratch)) scratch scratch)

  turned_by : (z number : ℕ) → input_refusal set plan ≡ z → z ≡ number → 0 < z → Turned number scratch
  unfolding rows_number
  turned_by zero number e n h = absurd (omega arith)
  turned_by (suc z) number e n h = (rw e (sym n), rw e)

  pub turned-input : (refusal : Refusal) → check_of set plan ≡ Err refusal → Turned (refusal_number refusal) scratch
  turned-input refusal e = let (f, p) = refused-input set plan refusal e in turned_by (refusal_number refusal) (refusal_number refusal) f refl p

  module _ (a : input_refusal set plan ≡ 0) where
    pub turned-short : (scratch' : List ℕ) → length scratch < need (tables_of set) (plan_of plan) → scratch' ≡ replicate (length scratch) 0 → Turned 16 scratch'
    unfolding rows_number
    turned-short scratch' h c = let e = lt-ltb (length scratch) (need (tables_of set) (plan_of plan)) h in (rw (a, e), rw (a, e) c)

    pub turned_none : need (tables_of set) (plan_of plan) ≤ length scratch → Turned 0 scratch
    unfolding rows_number
    turned_none h = let e = le-ltb (length scratch) (need (tables_of set) (plan_of plan)) h in (rw (a, e), rw (a, e) (sym (all_left scratch)))

  -- a call that is not turned back
  pub not-turned : rows_number set plan (length scratch) ≡ 0 → (input_refusal set plan ≡ 0) × (need (tables_of set) (plan_of plan) ≤ length scratch)
  unfolding rows_number
  not-turned e =
      let (a, s) = or-next (input_refusal set plan) _ e in (
        a,
        elim (dec_lt (length scratch) (need (tables_of set) (plan_of plan))) [
          | yes l ↦ let t = lt-ltb (length scratch) (need (tables_of set) (plan_of plan)) l in let z : ◌≡◌ {A = ℕ} 16 0 = rw t at s in absurd (omega arith)
          | no l ↦ omega arith
        ],
      )

  module _ (p : Plan) where
    -- one that is
    rows-turned-by : (k : Refusal) (scratch' : List ℕ) (z s : ℕ) → input_refusal set plan ≡ z → scratch_number set plan (length scratch) ≡ s → refusal_number k ≡ or_next z s → scratch' ≡ rows_left z s scratch scratch
        → RowsGiven set plan p scratch scratch' (Err k)
    unfolding rows_number
    rows-turned-by k scratch' zero zero e f n c = absurd (omega (arith, number-positive k))
    rows-turned-by k scratch' zero (suc s) e f n c = record { number = rw (e, f) n; rows = rw (e, f); columns = rw (e, f); cells = rw (e, f) c }
    rows-turned-by k scratch' (suc z) s e f n c = record { number = rw e n; rows = rw e; columns = rw e; cells = rw e c }

    pub rows-turned : (k : Refusal) (scratch' : List ℕ) → Turned (refusal_number k) scratch' → RowsGiven set plan p scratch scratch' (Err k)
    unfolding rows_number
    rows-turned k scratch' t = rows-turned-by k scratch' (input_refusal set plan) (scratch_number set plan (length scratch)) refl refl t.0 t.1

    -- the rows stand in front of zeros
    pub rows-done : (r : Report) (cells scratch' : List ℕ) (rows columns : ℕ) → input_refusal set plan ≡ 0 → need (tables_of set) (plan_of plan) ≤ length scratch → length cells ≡ length scratch
        → EvaluatedAt (tables_of set) p cells (length scratch) rows columns → (r.rows ≡ rows) × (r.columns ≡ columns)
        → scratch' ≡ take (rows * columns) cells ++ replicate (length cells - rows * columns) 0 → RowsGiven set plan p scratch scratch' (Ok r)
    unfolding rows_number
    rows-done r cells scratch' rows columns a h l v k c =
        let e : ltb (length scratch) (need (tables_of set) (plan_of plan)) ≡ false = le-ltb (length scratch) (need (tables_of set) (plan_of plan)) h in
        let u : ℕ = rows * columns in
        let fit : u ≤ length cells = omega (arith, v.inside) in
        let n : u ≡ length (tree_cells set p) = sym (length-take-le u cells fit) ∙ ap length v.front in
        record {
          number = rw (a, e);
          rows = rw (a, e) (k.0 ∙ v.rows_are);
          columns = rw (a, e) (k.1 ∙ v.columns_are);
          cells = rw (a, e) (c ∙ ap₂ (λ (front : List ℕ) (m : ℕ). front ++ replicate m 0) v.front (ap₂ ◌-◌ l n));
        }

-- the front of the cells, after the part behind it was lent to be cleared
pub front_kept : (u : ℕ) (cells last : List ℕ) → u ≤ length cells → last ≡ replicate (length (take (length cells - u) (drop u cells))) 0
    → put_mid u (length cells - u) cells last ≡ take u cells ++ replicate (length cells - u) 0
front_kept u cells last fit k =
    let long : length (drop u cells) ≡ length cells - u = length-drop u cells in
    let none : post_of u (length cells - u) cells ≡ [] = drop_of_length-le (drop u cells) {i = length cells - u} (omega arith) in
    let part : length (take (length cells - u) (drop u cells)) ≡ length cells - u = ap length (tail_part u cells) ∙ long in
    ap (λ (z : List ℕ). take u cells ++ z) (ap (λ (z : List ℕ). last ++ z) none ∙ append-nil last ∙ k ∙ ap (λ (m : ℕ). replicate m 0) part)
