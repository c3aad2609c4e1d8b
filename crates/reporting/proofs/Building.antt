-- The loop over rows: at the front stands what the rows so far gave, each at most `per` rows, and the rows that are left will give the
-- rest of the answer. Assumes nothing.
use mathlib.Core.Path.{◌≡◌, refl, sym, ap, ◌∙◌, subst}
use mathlib.Core.Bool.{Bool, true, false, cond}
use mathlib.Core.List.{List, [], ◌∷◌, ◌++◌, map, append_assoc, append-nil}
use Prim.Native.Nat.{ℕ, zero, suc, ◌+◌, ◌*◌, ◌-◌, ◌≤◌, ◌<◌, min}
use native.Mathlib.Nat.{add-zero, zero-mul, one-mul, mul-one, add-mul, le_trans}
use native.Mathlib.Numerals.{add-one}
use native.Mathlib.Omega.{arith}
use lib.ListN.{take, drop}
use Rattle.algebra.specs.Lists.{filter, flat_map}
use Rattle.algebra.specs.Plans.{Row}
use Rattle.algebra.specs.Places.{Operator}
use Rattle.algebra.specs.Refusals.{has_region}
use Rattle.reporting.specs.Rows.{chunk, Gives}
use Rattle.reporting.specs.Written.{Written}
use Rattle.reporting.specs.Evaluation.{share_of, CutsRoom}
use Rattle.reporting.proofs.Chunks.{mono, turns, times_suc, next_row, chunk_add, chunk-same, gives_one, gives_none}
use Rattle.reporting.proofs.Copies.{written-rest}

-- what a row gives: itself where it passes; one row
abbrev pub kept : (Row → Bool) → Row → List Row
kept p r = cond (p r) (r ∷ []) []

abbrev pub single : (Row → Row) → Row → List Row
single f r = f r ∷ []

pub filter-kept : (p : Row → Bool) (rows : List Row) → flat_map (kept p) rows ≡ filter p rows
filter-kept p [] = refl
filter-kept p (r ∷ rows) =
    elim (p r) as (λ b. cond b (r ∷ []) [] ++ flat_map (kept p) rows ≡ cond b (r ∷ filter p rows) (filter p rows)) [
      | true ↦ ap (λ (l : List Row). r ∷ l) (filter-kept p rows)
      | false ↦ filter-kept p rows
    ]

pub map-single : (f : Row → Row) (rows : List Row) → flat_map (single f) rows ≡ map f rows
map-single f [] = refl
map-single f (r ∷ rows) = ap (λ (l : List Row). f r ∷ l) (map-single f rows)

pub record Building (f : Row → List Row) (answer : List Row) (per m w wo own : ℕ) (cells : List ℕ) (i out src dst : ℕ) : Type 0 where
  pub within : i ≤ m
  pub few : out ≤ i * per
  pub src_at : src ≡ own + i * w
  pub dst-at : dst ≡ out * wo
  pub so_far : answer ≡ chunk out wo cells ++ flat_map f (chunk (m - i) w (drop src cells))

-- the same at the places themselves
pub building_places : {f : Row → List Row} {answer : List Row} {per m w wo own : ℕ} {cells : List ℕ} {i out src dst : ℕ} → Building f answer per m w wo own cells i out src dst → Building f answer per m w wo own cells i out (own + i * w) (out * wo)
building_places {f} {answer} {per} {m} {w} {wo} {own} {cells} {i} {out} {src} p =
    subst (λ (s : ℕ). Building f answer per m w wo own cells i out s (out * wo)) p.src_at (subst (λ (d : ℕ). Building f answer per m w wo own cells i out src d) p.dst-at p)

module _ {f : Row → List Row} {answer : List Row} {per m w wo own : ℕ} where
  pub building_start : (cells : List ℕ) → answer ≡ flat_map f (chunk m w (drop own cells)) → Building f answer per m w wo own cells 0 0 own 0
  unfolding chunk
  building_start cells e =
      let all : m ≡ m - 0 = omega arith in
      record {
        within = omega arith;
        few = omega arith;
        src_at = rw (zero-mul, add-zero);
        dst-at = rw zero-mul;
        so_far = e ∙ ap (λ (k : ℕ). flat_map f (chunk k w (drop own cells))) all;
      }

  module _ {cells : List ℕ} {i out src dst : ℕ} (p : Building f answer per m w wo own cells i out src dst) where
    pub building_done : m ≤ i → Gives answer wo (m * per) out cells
    unfolding chunk
    building_done h =
        let e : m - i ≡ 0 = omega arith in
        record {
          is = sym (p.so_far ∙ ap (λ (k : ℕ). chunk out wo cells ++ flat_map f (chunk k w (drop src cells))) e ∙ append-nil (chunk out wo cells));
          few = le_trans p.few (mono i m per p.within);
        }

    -- the row at hand ends where the rows end, or before
    pub building_row : i < m → src + w ≤ own + m * w
    building_row h = omega (arith, turns m w i h, p.src_at)

    -- there is room for r rows of the row at hand
    pub building_room : (r : ℕ) → i < m → r ≤ per → dst + r * wo ≤ m * per * wo
    building_room r h few =
        let t : i * per + per ≤ m * per = turns m per i h in
        let all : (out + r) * wo ≤ m * per * wo = mono (out + r) (m * per) wo (omega (arith, p.few)) in
        let s : (out + r) * wo ≡ out * wo + r * wo = add-mul out r wo in
        omega (arith, p.dst-at)

    -- the row at hand gave r rows, which stand at dst; what stood before them, and the rows that are left, are as they were
    pub building_turn : (cells' : List ℕ) (r out' dst' : ℕ) → i < m → Gives (f (take w (drop src cells))) wo per r (drop dst cells')
        → take dst cells' ≡ take dst cells → chunk (m - (i + 1)) w (drop (src + w) cells') ≡ chunk (m - (i + 1)) w (drop (src + w) cells)
        → out' ≡ out + r → dst' ≡ dst + r * wo → Building f answer per m w wo own cells' (i + 1) out' (src + w) dst'
    building_turn cells' r out' dst' h g front left eo ed =
        let row : Row = take w (drop src cells) in
        let rest : List Row = chunk (m - (i + 1)) w (drop (src + w) cells) in
        let to : dst ≡ out * wo = p.dst-at in
        let same : take (out * wo) cells' ≡ take (out * wo) cells = rw (← to) front in
        let here : chunk r wo (drop (out * wo) cells') ≡ f row = rw (← to) g.is in
        let more : chunk out wo cells ++ f row ≡ chunk (out + r) wo cells' = sym (chunk_add out r wo cells' ∙ (λ j. chunk-same out wo cells' cells same j ++ here j)) in
        record {
          within = omega arith;
          few = rw (add-one i, times_suc i per) (omega (arith, g.few, p.few));
          src_at = rw (add-one i, times_suc i w) (omega (arith, p.src_at));
          dst-at = rw (eo, add-mul) (omega arith);
          so_far =
              p.so_far
              ∙ ap (λ (l : List Row). chunk out wo cells ++ flat_map f l) (next_row m w i src cells h)
              ∙ sym (append_assoc (chunk out wo cells) (f row) (flat_map f rest))
              ∙ ap (λ (l : List Row). l ++ flat_map f rest) more
              ∙ ap (λ (l : List Row). chunk (out + r) wo cells' ++ flat_map f l) (sym left)
              ∙ ap (λ (k : ℕ). chunk k wo cells' ++ flat_map f (chunk (m - (i + 1)) w (drop (src + w) cells'))) (sym eo);
        }

-- ---- where the rows of the row at hand go: they end before it begins
-- of some rows, one is counted
pub one-row : (w rows : ℕ) → 1 ≤ rows → min 1 rows * w ≡ w
one-row w rows h = let one : min 1 rows ≡ 1 = omega arith in ap (λ (k : ℕ). k * w) one ∙ one-mul w

-- rows that are kept take no more cells than those that were read
kept-rows : {f : Row → List Row} {answer : List Row} {m w own : ℕ} {cells : List ℕ} {i out src dst : ℕ} → Building f answer 1 m w w own cells i out src dst → dst ≤ i * w
kept-rows {w = w} {i = i} {out = out} p = omega (arith, p.dst-at, mono out i w (omega (arith, p.few, mul-one i)))

pub kept-below : {f : Row → List Row} {answer : List Row} {m w own : ℕ} {cells : List ℕ} {i out src dst : ℕ} → Building f answer 1 m w w own cells i out src dst → dst ≤ src
kept-below p = omega (arith, p.src_at, kept-rows p)

module _ {f : Row → List Row} {answer : List Row} {per m w wo own : ℕ} {cells : List ℕ} {i out src dst : ℕ} (p : Building f answer per m w wo own cells i out src dst) (h : i < m)
    (op : Operator) (keeps : has_region op ≡ false → (per ≡ 1) × (wo ≡ w)) (room : share_of op (m * per) wo ≤ own) where
  pub turn_below : dst + share_of op per wo ≤ src
  turn_below = by (has_region op) refl
    where
      by : (b : Bool) → has_region op ≡ b → dst + share_of op per wo ≤ src
      by true e = rw e (omega (arith, building_room p per h (omega arith), rw e at room, p.src_at))
      by false e =
          let (a, b) = keeps e in
          let all : m * per ≡ m = ap (λ (k : ℕ). m * k) a ∙ mul-one m in
          let first : min 1 (m * per) * wo ≡ wo = one-row wo (m * per) (omega arith) in
          let row : min 1 per * wo ≡ wo = one-row wo per (omega arith) in
          rw e (omega (arith, row, first, rw e at room, p.src_at, kept-rows (rw (a, b) at p), b))

  pub turn-ends : (r : ℕ) → r ≤ per → dst + r * wo ≤ src
  turn-ends r l = by (has_region op) refl
    where
      by : (b : Bool) → has_region op ≡ b → dst + r * wo ≤ src
      by true e = omega (arith, rw e at turn_below, mono r per wo l)
      by false e = omega (arith, rw e at turn_below, mono r (min 1 per) wo (omega (arith, (keeps e).0)))

-- cut rows, each of which ends before its row begins, end within the cells
pub cuts-inside : {w n own cells : ℕ} (m : ℕ) → CutsRoom w n own m cells → m * n ≤ cells
cuts-inside {n = n} zero r = omega (arith, zero-mul n)
cuts-inside {w} {n} (suc i) r = omega (arith, times_suc i n, times_suc i w, r.below i (omega arith), r.inside)

-- ---- a row that gives at most one row
module _ {f : Row → List Row} {answer : List Row} {m w wo own : ℕ} {cells : List ℕ} {i out src dst : ℕ} (p : Building f answer 1 m w wo own cells i out src dst) (h : i < m) where
  -- there is room for it
  pub kept-room : dst + wo ≤ m * wo
  kept-room =
      let t : dst + 1 * wo ≤ m * 1 * wo = building_room p 1 h (omega arith) in
      let e : 1 * wo ≡ wo = one-mul wo in
      let f : m * 1 * wo ≡ m * wo = ap (λ (k : ℕ). k * wo) (mul-one m) in
      omega arith

  -- one row was written
  pub kept-turn : (row : Row) (cells' : List ℕ) (out' dst' : ℕ) → f (take w (drop src cells)) ≡ row ∷ [] → Written dst wo row cells cells' → dst + wo ≤ src + w
      → out' ≡ out + 1 → dst' ≡ dst + wo → Building f answer 1 m w wo own cells' (i + 1) out' (src + w) dst'
  kept-turn row cells' out' dst' e g below eo ed =
      building_turn p cells' 1 out' dst' h (gives_one (f (take w (drop src cells))) wo row (drop dst cells') e g.here) g.before
      (ap (chunk (m - (i + 1)) w) (written-rest g (src + w) below)) eo (rw one-mul ed)

  -- none was
  pub skipped_turn : (cells' : List ℕ) (out' dst' : ℕ) → f (take w (drop src cells)) ≡ [] → cells' ≡ cells → out' ≡ out → dst' ≡ dst
      → Building f answer 1 m w wo own cells' (i + 1) out' (src + w) dst'
  skipped_turn cells' out' dst' e same eo ed =
      let eo' : out' ≡ out + 0 = omega arith in
      let ed' : dst' ≡ dst + 0 * wo = rw zero-mul (omega arith) in
      building_turn p cells' 0 out' dst' h (gives_none (f (take w (drop src cells))) wo (drop dst cells') e) (ap (take dst) same)
      (ap (λ (x : List ℕ). chunk (m - (i + 1)) w (drop (src + w) x)) same) eo' ed'

-- as many rows as there were, or fewer
pub kept-done : {f : Row → List Row} {answer : List Row} {m w wo own : ℕ} {cells : List ℕ} {i out src dst : ℕ} → Building f answer 1 m w wo own cells i out src dst
    → m ≤ i → Gives answer wo m out cells
kept-done {m = m} p h = let g = building_done p h in record { is = g.is; few = omega (arith, g.few, mul-one m) }
