-- What each arm of `eval` shows, of plain values: no record of a place in the code is named here. Assumes nothing.
use mathlib.Core.Path.{◌≡◌, refl, sym, ap, ◌∙◌, subst}
use mathlib.Core.Bool.{Bool, true, false}
use mathlib.Core.List.{List}
use Prim.Native.Nat.{ℕ, ◌+◌, ◌*◌, ◌-◌, ◌≤◌, ◌<◌, min}
use native.Mathlib.Nat.{le_trans, mul-le-mul}
use native.Mathlib.Omega.{arith}
use lib.ListN.{length, take, drop}
use lib.Seq.{take-take}
use borrow.Rule.Slice.PartMut.{put_mid, take_put}
use Rattle.algebra.specs.Lists.{flat_map}
use Rattle.algebra.specs.Plans.{Row, Env, Tables, unit, Plan, leaf, bind, columns, eval, eval_within}
use Rattle.algebra.specs.Places.{Operator}
use Rattle.algebra.specs.Refusals.{width, bound, has_region, counted_rows, part}
use Rattle.algebra.proofs.Needs.{extent}
use Rattle.reading.specs.TableSet.{tables_of}
use Rattle.reading.specs.Tree.{plan_at}
use Rattle.reading.specs.Nodes.{operator_nested}
use Rattle.reporting.specs.Rows.{chunk, row_at, rows_from, env_of, Gives, acted, acted_columns, emitted_columns, emitted_most}
use Rattle.reporting.specs.Evaluation.{columns_at, Sound, Ready, share_of, UnaryRoom, StepRoom, LoopRoom, PlainStep, NestedStep, nested_row, plain_row, differing, leaf_given, leaf_width, leaf_most}
use Rattle.reporting.proofs.Chunks.{mono, turns, chunk-drop-same, row_same}
use Rattle.reporting.proofs.Lent.{lent_rows}
use Rattle.reporting.proofs.Building.{one-row}
use Rattle.reporting.proofs.Soundness.{sound-bound, sound-within}
use Rattle.reporting.proofs.Children.{most-mono, Childless, First, Single, Double}
use Rattle.reporting.proofs.Once.{once-rows}

-- the ids at the front of a buffer, as a part of it has them
pub ids-part : {ids : List ℕ} (w : ℕ) (buffer : List ℕ) → take w buffer ≡ ids → take (w - 0) buffer ≡ ids
ids-part w buffer e = let z : w - 0 ≡ w = omega arith in ap (λ (k : ℕ). take k buffer) z ∙ e

pub take_less : (n k : ℕ) (xs ys : List ℕ) → n ≤ k → take k xs ≡ take k ys → take n xs ≡ take n ys
take_less n k xs ys h e = sym (take-take n k xs h) ∙ ap (take n) e ∙ take-take n k ys h

gives_as : {rows rows' : List Row} {w w' m m' r : ℕ} {cells : List ℕ} → Gives rows w m r cells → rows ≡ rows' → w ≡ w' → m ≤ m' → Gives rows' w' m' r cells
gives_as {r = r} {cells = cells} g e f h = record { is = ap (λ (x : ℕ). chunk r x cells) (sym f) ∙ g.is ∙ e; few = le_trans g.few h }

-- the rows of a tree lie in its part
pub rows_inside : {T : Tables} {p : Plan} (m : ℕ) → Sound T p → m ≤ bound T p → m * width T p ≤ part T p
rows_inside {T} {p} m s h = le_trans (mono m (bound T p) (width T p) h) (sound-within s)

-- and those of a tree that can be evaluated in its cells
pub rows_fit : {T : Tables} {p : Plan} {len words : ℕ} (m : ℕ) → Ready T p len words → m ≤ bound T p → m * width T p ≤ len
rows_fit m r h = le_trans (rows_inside m r.sound h) r.room

-- a tree's rows, which were left in a part
pub record Kid (T : Tables) (p : Plan) (env : Env) (m : ℕ) (ys : List ℕ) : Type 0 where
  pub gives : Gives (eval T p env) (width T p) (bound T p) m ys
  pub lies : m * width T p ≤ length ys

pub kid_of : {T : Tables} {p : Plan} {env : Env} {m words : ℕ} {ys : List ℕ} → Ready T p (length ys) words → Gives (eval T p env) (width T p) (bound T p) m ys → Kid T p env m ys
kid_of {m = m} r g = record { gives = g; lies = rows_fit m r g.few }

-- ---- no node, and a node with no children

pub past_arm : (T : Tables) (P : Plan) (env : Env) (cells : List ℕ) → P ≡ leaf unit → Gives (eval T P env) (width T P) (bound T P) 1 cells
unfolding eval_within columns bound chunk
past_arm T P env cells e =
    let g : Gives (eval T (leaf unit) env) (width T (leaf unit)) (bound T (leaf unit)) 1 cells = record { is = refl; few = omega arith } in
    subst (λ (p : Plan). Gives (eval T p env) (width T p) (bound T p) 1 cells) (sym e) g

module _ {T : Tables} {op : Operator} {P : Plan} (L : Childless T op P) where
  pub leaf_room : {len words : ℕ} → Ready T P len words → leaf_most T op * leaf_width T op ≤ len
  leaf_room R = let e : extent T P ≡ leaf_most T op * leaf_width T op = λ i. L.most i * L.wide i in omega (arith, sound-within R.sound, R.room)

  pub leaf_arm : (env : Env) {r : ℕ} {cells : List ℕ} → Gives (leaf_given T op) (leaf_width T op) (leaf_most T op) r cells → Gives (eval T P env) (width T P) (bound T P) r cells
  leaf_arm env g = gives_as g (sym (L.rows env)) (sym L.wide) (omega (arith, L.most))

-- ---- a node counts no fewer cells for more rows
share-mono : (op : Operator) (j k w : ℕ) → j ≤ k → share_of op j w ≤ share_of op k w
share-mono op j k w h = elim (has_region op) as (λ b. counted_rows b j * w ≤ counted_rows b k * w) [ true ↦ mono j k w h | false ↦ mono (min 1 j) (min 1 k) w (omega arith) ]

-- ---- the first child
module _ {T : Tables} {op : Operator} {P p : Plan} {len words own : ℕ} (R : Ready T P len words) (F : First T op P p) (o : own ≡ share_of op (bound T P) (width T P)) where
  pub own-fits : own ≤ len
  own-fits = omega (arith, R.room, F.room)

  pub child_ready : (n : ℕ) → n ≡ len - own → Ready T p n words
  child_ready n e = record { sound = F.sound R.sound; room = omega (arith, R.room, F.room); bound = R.bound }

left-rows : {T : Tables} {p : Plan} {env : Env} {m : ℕ} {ys : List ℕ} (own j : ℕ) (cells : List ℕ) → own ≤ length cells → Kid T p env m ys → chunk m (width T p) (drop own (put_mid own j cells ys)) ≡ eval T p env
left-rows {T} {p} {m = m} {ys = ys} own j cells h C = lent_rows own j cells ys m (width T p) h C.lies ∙ C.gives.is

-- ---- a node with one child
module _ {T : Tables} {op : Operator} {P p : Plan} (S : Single T op P p) where
  -- where the node has a region it has room for all rows; where it has none they are no wider than the child's, and the first is written to its room for one
  module _ {len words own : ℕ} (m : ℕ) (R : Ready T P len words) (F : First T op P p) (o : own ≡ share_of op (bound T P) (width T P)) (h : m ≤ bound T p) where
    abbrev wo : ℕ
    wo = length (acted_columns op (columns T p))

    at : own ≡ share_of op (bound T p) wo
    at = o ∙ (λ i. share_of op (S.most i) (length (S.ids i)))

    below_by : (b : Bool) → has_region op ≡ b → (i : ℕ) → i < m → i * wo + wo ≤ own + i * width T p
    below_by true e i l = let a : own ≡ bound T p * wo = rw e at at in omega (arith, turns m wo i l, mono m (bound T p) wo h)
    below_by false e i l =
        let a : own ≡ min 1 (bound T p) * wo = rw e at at in
        let less : i * wo ≤ i * width T p = mul-le-mul (omega arith) (S.slim R.sound e) in
        omega (arith, one-row wo (bound T p) (omega arith))

    pub unary_room : UnaryRoom op (columns T p) own m len
    unary_room = record {
      share = omega (arith, at, share-mono op m (bound T p) wo h);
      cuts = record { below = below_by (has_region op) refl; inside = omega (arith, F.room, R.room, rows_inside m (F.sound R.sound) h) };
    }

  pub unary_arm : {env : Env} {m r : ℕ} {ys cells' : List ℕ} (own j : ℕ) (cells : List ℕ) → own ≤ length cells → Kid T p env m ys
      → Gives (acted op (columns T p) env (chunk m (width T p) (drop own (put_mid own j cells ys)))) (length (acted_columns op (columns T p))) m r cells'
      → Gives (eval T P env) (width T P) (bound T P) r cells'
  unary_arm {env} own j cells h C g =
      gives_as g (ap (acted op (columns T p) env) (left-rows own j cells h C) ∙ sym (S.rows env)) (sym (ap length S.ids)) (omega (arith, S.most, C.gives.few))

-- ---- a node with two children
module _ {T : Tables} {op : Operator} {P p q : Plan} (D : Double T op P p q) where
  -- how many rows it gives
  pub emitted-few : (m k : ℕ) → m ≤ bound T p → k ≤ bound T q → m * emitted_most op k ≤ bound T P
  emitted-few m k h f = subst (λ (x : ℕ). m * emitted_most op k ≤ x) (sym D.most) (mul-le-mul h (most-mono op k (bound T q) f))

  module _ {len words own behind : ℕ} (R : Ready T P len words) (F : First T op P p) (o : own ≡ share_of op (bound T P) (width T P)) (b : behind ≡ own + part T p) where
    pub behind-fits : behind ≤ len
    behind-fits = omega (arith, R.room, D.room)

    pub inner_ready : (n : ℕ) → n ≡ len - behind → Ready T q n words
    inner_ready n e = record { sound = D.sound R.sound; room = omega (arith, R.room, D.room); bound = R.bound }

    pub right-inside : (k : ℕ) → k ≤ bound T q → behind + k * width T q ≤ len
    right-inside k h = omega (arith, behind-fits, rows_fit k (inner_ready (len - behind) refl) h)

    pub few_of : (m k : ℕ) → m ≤ bound T p → k ≤ bound T q → m * emitted_most op k ≤ 4096
    few_of m k h f = le_trans (emitted-few m k h f) (sound-bound R.sound)

    -- what the node counts has room for what the left rows give, and they end before the second child's part
    pub loop_room : (m k : ℕ) → m ≤ bound T p → k ≤ bound T q → LoopRoom op (columns T p) (columns T q) k own m behind
    loop_room m k h f = record { share = omega (arith, at, share-mono op (m * emitted_most op k) (bound T P) wo (emitted-few m k h f)); apart = omega (arith, rows_inside m (F.sound R.sound) h) }
      where
        wo : ℕ
        wo = length (emitted_columns op (columns T p) (columns T q))

        at : own ≡ share_of op (bound T P) wo
        at = o ∙ ap (λ (cs : List ℕ). share_of op (bound T P) (length cs)) D.ids

  pub nested_arm : {env : Env} {m r : ℕ} {ys cells' : List ℕ} (own j : ℕ) (cells : List ℕ) → operator_nested op ≡ true → own ≤ length cells → Kid T p env m ys
      → Gives (flat_map (nested_row T op (columns T p) q env) (chunk m (width T p) (drop own (put_mid own j cells ys)))) (length (emitted_columns op (columns T p) (columns T q))) (m * emitted_most op (bound T q)) r cells'
      → Gives (eval T P env) (width T P) (bound T P) r cells'
  nested_arm {env} {m} own j cells n h C g =
      gives_as g (ap (flat_map (nested_row T op (columns T p) q env)) (left-rows own j cells h C) ∙ sym (D.nests n env)) (sym (ap length D.ids))
      (emitted-few m (bound T q) C.gives.few (omega arith))

  pub binary_arm : {env : Env} {m k r : ℕ} {ys zs cells' : List ℕ} (own j behind i : ℕ) (cells : List ℕ) → differing T op p q ≡ false → own ≤ length cells → Kid T p env m ys
      → let W = put_mid own j cells ys in
      own + m * width T p ≤ behind → behind ≤ length W → Kid T q env k zs
      → let X = put_mid behind i W zs in
      Gives (flat_map (plain_row op (columns T p) (columns T q) (chunk k (width T q) (drop behind X)) env) (chunk m (width T p) (drop own X))) (length (emitted_columns op (columns T p) (columns T q))) (m * emitted_most op k) r cells'
      → Gives (eval T P env) (width T P) (bound T P) r cells'
  binary_arm {env} {m} {k} {ys = ys} {zs = zs} own j behind i cells n h C below inside E g =
      let W : List ℕ = put_mid own j cells ys in
      let X : List ℕ = put_mid behind i W zs in
      let l : chunk m (width T p) (drop own X) ≡ eval T p env = chunk-drop-same own m (width T p) behind X W below (take_put behind i W zs inside) ∙ left-rows own j cells h C in
      let s : chunk k (width T q) (drop behind X) ≡ eval T q env = left-rows behind i W inside E in
      gives_as g ((λ z. flat_map (plain_row op (columns T p) (columns T q) (s z) env) (l z)) ∙ sym (once-rows D n env)) (sym (ap length D.ids))
      (emitted-few m k C.gives.few E.gives.few)

-- the room for a row's rows is enough for fewer right rows
pub step_less : {op : Operator} {cs ds : List ℕ} {k src dst behind : ℕ} (j : ℕ) → StepRoom op cs ds k src dst behind → j ≤ k → StepRoom op cs ds j src dst behind
step_less {op} {cs} {ds} {k} j r h = record {
  below = omega (arith, r.below, share-mono op (emitted_most op j) (emitted_most op k) (length (emitted_columns op cs ds)) (most-mono op j k h));
  apart = r.apart;
}

-- ---- one left row of a nested node: the inner plan's rows are in the part that was lent, and what is before it stayed
module _ (cells ys ids : List ℕ) (src behind : ℕ) (left : src + length ids ≤ behind) (fits : behind ≤ length cells) where
  abbrev Lent : List ℕ
  Lent = put_mid behind (length cells - behind) cells ys

  front : take behind Lent ≡ take behind cells
  front = take_put behind (length cells - behind) cells ys fits

  pub step_arm : {set plan : List ℕ} {inner : ℕ} {inside : Env} {k r dst : ℕ} {exit : List ℕ} (op : Operator) (jds words : List ℕ) → jds ≡ columns_at set plan inner
      → inside ≡ bind ids (row_at src (length ids) cells) (env_of words) → Kid (tables_of set) (plan_at plan inner) inside k ys → dst ≤ src
      → PlainStep op ids jds (env_of words) src dst behind k Lent r exit
      → NestedStep set plan inner op ids words src dst behind cells r exit
  step_arm {set} {plan} {inner} {inside} {k} {dst = dst} {exit = exit} op jds words ej ee C below g =
      let T : Tables = tables_of set in
      let q : Plan = plan_at plan inner in
      let end : ℕ = src + length ids in
      let row : row_at src (length ids) Lent ≡ row_at src (length ids) cells = row_same src (length ids) behind Lent cells left front in
      let rows : rows_from behind k (length jds) Lent ≡ eval T q inside = ap (λ (ds : List ℕ). chunk k (length ds) (drop behind Lent)) ej ∙ left-rows behind (length cells - behind) cells fits C in
      record {
        gives =
            gives_as g.gives
            ((λ z. plain_row op ids (ej z) (rows z) (env_of words) (row z)) ∙ ap (λ (x : Env). plain_row op ids (columns T q) (eval T q x) (env_of words) (row_at src (length ids) cells)) ee)
            (ap (λ (ds : List ℕ). length (emitted_columns op ids ds)) ej)
            (most-mono op k (bound T q) C.gives.few);
        before = g.before ∙ take_less dst behind Lent cells (omega arith) front;
        between = ap (take (behind - end)) g.behind ∙ row_same end (behind - end) behind Lent cells (omega arith) front;
      }
