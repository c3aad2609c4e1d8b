-- The right rows that a left row meets, one after the other: as they lie, and along a chain of an index. Assumes nothing.
use mathlib.Core.Path.{◌≡◌, refl, sym, ap, ap₂, ◌∙◌}
use mathlib.Core.Bool.{Bool, true, false, ◌||◌}
use mathlib.Core.List.{List, [], ◌∷◌, map}
use Prim.Native.Nat.{ℕ, suc, ◌+◌, ◌*◌, ◌-◌, ◌≤◌, ◌<◌}
use native.Mathlib.Omega.{arith}
use lib.ListN.{length, length-map, take, drop, get_or}
use lib.Seq.{drop-drop}
use Rattle.algebra.specs.Lists.{filter, any}
use Rattle.algebra.specs.Cells.{is_number}
use Rattle.algebra.specs.Plans.{Row}
use Rattle.algebra.proofs.Lists.{filter-length, filter_in, filter_out, filter_map, any-map}
use Rattle.reporting.specs.Rows.{chunk, rows_from}
use Rattle.reporting.specs.Index.{bucket_of, slot_of, nth, chain, Linked}
use Rattle.reporting.specs.Sides.{side_cell, Equals, FoundInside, meets, found_cells}
use Rattle.reporting.specs.declared.side.Found.{Found}
use Rattle.reporting.proofs.Chunks.{length-chunk}
use Rattle.reporting.proofs.Numbers.{chunk-nth}
use Rattle.reporting.proofs.Chains.{Walk, walk-next, walk_inside, found_walk, found-any, found, chain-end}
use Rattle.reporting.proofs.Sides.{side_right, meets-right, meets_slot, meets-none}

-- ---- the first of the rows that are left, the front of r
module _ (f : Found) (l : Row) (w v : ℕ) (inside : FoundInside f w v) (rows rest : List Row) (r : Row) (first : rows ≡ take v r ∷ rest) where
  pub any-first : any (meets f l) rows ≡ (meets f l r || any (meets f l) rest)
  any-first = ap (any (meets f l)) first ∙ ap (λ (b : Bool). b || any (meets f l) rest) (meets-right w v l r f inside)

  pub cells_met : meets f l r ≡ true → found_cells f l rows ≡ side_cell f.measured l r ∷ found_cells f l rest
  unfolding found_cells
  cells_met h =
      ap (λ (qs : List Row). map (side_cell f.measured l) (filter (meets f l) qs)) first
      ∙ ap (map (side_cell f.measured l)) (filter_in (meets f l) (take v r) rest (meets-right w v l r f inside ∙ h))
      ∙ ap (λ (x : ℕ). x ∷ map (side_cell f.measured l) (filter (meets f l) rest)) (side_right w v l r f.measured inside.measured)

  pub cells-not_met : meets f l r ≡ false → found_cells f l rows ≡ found_cells f l rest
  unfolding found_cells
  cells-not_met h =
      ap (λ (qs : List Row). map (side_cell f.measured l) (filter (meets f l) qs)) first
      ∙ ap (map (side_cell f.measured l)) (filter_out (meets f l) (take v r) rest (meets-right w v l r f inside ∙ h))

-- ---- all rows
pub cells-few : (f : Found) (l : Row) (rows : List Row) → length (found_cells f l rows) ≤ length rows
unfolding found_cells
cells-few f l rows = omega (arith, length-map (filter (meets f l) rows) (side_cell f.measured l), filter-length (meets f l) rows)

pub cells-none : (f : Found) (l : Row) → found_cells f l [] ≡ []
unfolding found_cells
cells-none f l = refl

-- no row is left
pub none_left_lem : (k w i : ℕ) (xs : List ℕ) → k ≤ i → chunk (k - i) w xs ≡ []
unfolding chunk
none_left_lem k w i xs h = let e : k - i ≡ 0 = omega arith in ap (λ (n : ℕ). chunk n w xs) e

-- ---- the rows on a chain from a link on
abbrev pub on_chain : ℕ → List Row → List ℕ → ℕ → List Row
on_chain k rows next h = map (nth rows) (chain (suc k) next h)

-- the next of them, as it lies among the cells
pub chain_first : (behind k v : ℕ) (cells next : List ℕ) (h h' : ℕ) → Walk k next h → 0 < h → h' ≡ get_or next (h - 1) 0
    → on_chain k (rows_from behind k v cells) next h ≡ take v (drop (behind + (h - 1) * v) cells) ∷ on_chain k (rows_from behind k v cells) next h'
chain_first behind k v cells next h h' walk pos e =
    let rows : List Row = rows_from behind k v cells in
    let row : nth rows (h - 1) ≡ take v (drop (behind + (h - 1) * v) cells) =
    chunk-nth k v (drop behind cells) (h - 1) (walk_inside k next h walk pos) ∙ ap (take v) (drop-drop ((h - 1) * v) behind cells) in
    ap (map (nth rows)) (walk-next k next h walk pos h' e) ∙ ap (λ (q : Row). q ∷ on_chain k rows next h') row

pub chain-none : (k : ℕ) (rows : List Row) (next : List ℕ) (h : ℕ) → h ≤ 0 → on_chain k rows next h ≡ []
chain-none k rows next h e = ap (map (nth rows)) (chain-end (suc k) next h e)

-- ---- keys that are compared by =
module _ (f : Found) (l : Row) (left right : ℕ) (keys : Equals left right f.keys) where
  -- a key that is no number meets no row
  pub none_met : is_number (get_or l left 0) ≡ false → (rows : List Row) → (any (meets f l) rows ≡ false) × (found_cells f l rows ≡ [])
  unfolding found_cells
  none_met h [] = (refl, refl)
  none_met h (q ∷ rows) =
      let no : meets f l q ≡ false = meets-none f left right keys l h q in
      let rest = none_met h rows in (
        ap₂ ◌||◌ no rest.0,
        ap (map (side_cell f.measured l)) (filter_out (meets f l) q rows no) ∙ rest.1,
      )

  -- the rows that it meets are those on the chain of its bucket that it meets
  module _ (behind k v : ℕ) (cells heads next : List ℕ) (x : Linked right k (rows_from behind k v cells) heads next) (key b h : ℕ) (is : key ≡ get_or l left 0) (small : b < 4096) (at : b ≡ bucket_of key) (e : h ≡ get_or heads b 0) where
    rows : List Row
    rows = rows_from behind k v cells

    only : (q : Row) → meets f l q ≡ true → slot_of right q ≡ b
    only q m = meets_slot f left right keys l q m ∙ ap bucket_of (sym is) ∙ sym at

    pub met_walk : Walk k next h
    unfolding rows
    met_walk = found_walk (slot_of right) rows k (length-chunk k v (drop behind cells)) heads next x.index b small h e

    pub met_any : any (meets f l) (rows_from behind k v cells) ≡ any (meets f l) (on_chain k (rows_from behind k v cells) next h)
    unfolding rows
    met_any =
        found-any (slot_of right) rows k (length-chunk k v (drop behind cells)) heads next x.index b small h e (meets f l) only
        ∙ sym (any-map (meets f l) (nth rows) (chain (suc k) next h))

    pub met_cells : found_cells f l (rows_from behind k v cells) ≡ found_cells f l (on_chain k (rows_from behind k v cells) next h)
    unfolding rows found_cells
    met_cells =
        ap (map (side_cell f.measured l))
        (found (slot_of right) rows k (length-chunk k v (drop behind cells)) heads next x.index b small h e (meets f l) only
        ∙ sym (filter_map (meets f l) (nth rows) (chain (suc k) next h)))
