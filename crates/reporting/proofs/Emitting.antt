-- The loop over left rows of a node whose columns are found, under every environment that they were found in. Assumes nothing.
use Rattle.std.specs.Coded.{Coded-set, coded_list, coded_ℕ, le_prop}
use mathlib.Core.Logic.{∥∥₁_elim}
use mathlib.Core.Path.{◌≡◌, refl, ap, ◌∙◌, subst}
use mathlib.Core.List.{List}
use Prim.Native.Nat.{ℕ, ◌+◌, ◌*◌, ◌-◌, ◌≤◌, ◌<◌}
use native.Mathlib.Omega.{arith}
use lib.ListN.{length, drop}
use Rattle.algebra.specs.Lists.{flat_map}
use Rattle.algebra.specs.Plans.{Row, Env}
use Rattle.algebra.specs.Places.{Operator}
use Rattle.reading.specs.Tree.{operator_of}
use Rattle.reading.specs.Nodes.{arity}
use Rattle.reading.specs.declared.plan.Node.{Node}
use Rattle.reporting.specs.Rows.{chunk, row_at, rows_from, Gives, emitted_columns, emitted_most}
use Rattle.reporting.specs.Sides.{FoundFor, FoundSomewhere}
use Rattle.reporting.specs.Evaluation.{plain_row, StepRoom, LoopRoom, EmitGiven, EmitsGiven}
use Rattle.reporting.specs.declared.side.Found.{Found}
use Rattle.reporting.proofs.Chunks.{turns}
use Rattle.reporting.proofs.Children.{keeps_rows}
use Rattle.reporting.proofs.Lent.{drop-beyond}
use Rattle.reporting.proofs.Building.{Building, building_start, building_done, building_turn, building_row, turn_below, turn-ends}

-- what the left rows so far gave stands at the front; the right rows are as they were
pub record Emitting (node : Node) (f : Found) (cs ds : List ℕ) (own m behind k : ℕ) (first cells : List ℕ) (i out src dst : ℕ) : Type 0 where
  pub rows : (env : Env) → FoundFor node cs ds env f
      → let given = plain_row (operator_of node) cs ds (rows_from behind k (length ds) first) env in
      Building given (flat_map given (rows_from own m (length cs) first)) (emitted_most (operator_of node) k) m (length cs) (length (emitted_columns (operator_of node) cs ds)) own cells i out src dst
  pub right : drop behind cells ≡ drop behind first
  pub long : length cells ≡ length first

module _ (node : Node) (f : Found) (cs ds : List ℕ) (own m behind k : ℕ) (first : List ℕ) where
  abbrev op : Operator
  op = operator_of node

  abbrev wo : ℕ
  wo = length (emitted_columns op cs ds)

  pub emitting_start : Emitting node f cs ds own m behind k first first 0 0 own 0
  emitting_start = record { rows = λ env found. building_start first refl; right = refl; long = refl }

  module _ (found : ∥ FoundSomewhere node cs ds f ∥₁) (two : arity op ≡ 2) (room : LoopRoom op cs ds k own m behind) (cells : List ℕ) (i out src dst : ℕ)
      (p : Emitting node f cs ds own m behind k first cells i out src dst) where
    pub emitting_done : m ≤ i → EmitsGiven node f cs ds own m behind k first out cells
    emitting_done h = λ env g. building_done (p.rows env g) h

    module _ (h : i < m) where
      -- the row at hand has room for what it gives
      pub emitting_room : StepRoom op cs ds k src dst behind
      emitting_room = record {
        below = ∥∥₁_elim found le_prop (λ s. turn_below (p.rows s.env s.found) h op (λ e. keeps_rows op two e cs ds k) room.share);
        apart = ∥∥₁_elim found le_prop (λ s. omega (arith, building_row (p.rows s.env s.found) h, room.apart));
      }

      -- no more rows come than the bound has
      pub emitting_few : m * emitted_most op k ≤ 4096 → out + emitted_most op k ≤ 4096
      emitting_few most = ∥∥₁_elim found le_prop (λ s. omega (arith, (p.rows s.env s.found).few, turns m (emitted_most op k) i h, most))

      module _ (r : ℕ) (cells' : List ℕ) (step : EmitGiven node f cs ds src dst behind k cells r cells') where
        pub step-few : r ≤ emitted_most op k
        step-few = ∥∥₁_elim found le_prop (λ s. (step s.env s.found).gives.few)

        -- the next place is no higher than the row's end
        pub emitting_ends : (width : ℕ) → width ≡ wo → dst + r * width ≤ behind
        emitting_ends width e =
            ∥∥₁_elim found le_prop (λ s.
            let ends = turn-ends (p.rows s.env s.found) h op (λ e. keeps_rows op two e cs ds k) room.share r step-few in
            omega (arith, ends, emitting_room.apart, ap (λ (x : ℕ). r * x) e))

        pub emitting_turn : length cells' ≡ length cells → (width : ℕ) → width ≡ wo
            → Emitting node f cs ds own m behind k first cells' (i + 1) (out + r) (src + length cs) (dst + r * width)
        emitting_turn len width e =
            let left : drop (src + length cs) cells' ≡ drop (src + length cs) cells = ∥∥₁_elim found (Coded-set (coded_list coded_ℕ) _ _) (λ s. (step s.env s.found).behind) in
            record {
              rows = λ env g.
                  let rs : List ℕ → List Row = λ x. chunk k (length ds) x in
                  let given = subst (λ (x : List ℕ). Gives (plain_row op cs ds (rs x) env (row_at src (length cs) cells)) wo (emitted_most op k) r (drop dst cells')) p.right (step env g).gives in
                  building_turn (p.rows env g) cells' r _ _ h given (step env g).before (ap (chunk (m - (i + 1)) (length cs)) left) refl (ap (λ (x : ℕ). dst + r * x) e);
              right = drop-beyond (src + length cs) behind cells' cells emitting_room.apart left ∙ p.right;
              long = len ∙ p.long;
            }
