-- The players and the scores of rows that stand in cells. Assumes nothing.
use Prim.Native.Nat.{ℕ, zero, suc, ◌+◌, ◌*◌, ◌≤◌, ◌<◌}
use native.Mathlib.Omega.{arith}
use native.Mathlib.Nat.{suc-mul, zero-mul}
use mathlib.Core.Path.{◌≡◌, ap, ◌∙◌}
use mathlib.Core.List.{List, map}
use lib.ListN.{length, drop, get_or, length-map}
use lib.Seq.{get_or-take, get_or-drop}
use Rattle.reporting.specs.Rows.{chunk}
use Rattle.reporting.proofs.Chunks.{length-chunk}
use Rattle.prizes.specs.Helpers.{players_in, scores_in}

-- cell j of row i
cell_at : (j rows w : ℕ) (cells : List ℕ) (i : ℕ) → j < w → i < rows → get_or (map (λ row. get_or row j 0) (chunk rows w cells)) i 0 ≡ get_or cells (i * w + j) 0
unfolding chunk
cell_at j zero w cells i h k = absurd (omega arith)
cell_at j (suc rows) w cells zero h k = get_or-take w cells j 0 h ∙ let z : j ≡ 0 * w + j = omega (arith, zero-mul w) in ap (λ (n : ℕ). get_or cells n 0) z
cell_at j (suc rows) w cells (suc i) h k =
    let z : w + (i * w + j) ≡ suc i * w + j = omega (arith, suc-mul i w) in
    cell_at j rows w (drop w cells) i h (omega arith) ∙ (get_or-drop w cells (i * w + j) 0 ∙ ap (λ (n : ℕ). get_or cells n 0) z)

module _ (rows w : ℕ) (cells : List ℕ) where
  pub player-at : (i : ℕ) → i < rows → 2 ≤ w → get_or (players_in rows w cells) i 0 ≡ get_or cells (i * w) 0
  unfolding players_in
  player-at i h k = cell_at 0 rows w cells i (omega arith) h ∙ let z : i * w + 0 ≡ i * w = omega arith in ap (λ (n : ℕ). get_or cells n 0) z

  pub score_at : (i : ℕ) → i < rows → 2 ≤ w → get_or (scores_in rows w cells) i 0 ≡ get_or cells (i * w + 1) 0
  unfolding scores_in
  score_at i h k = cell_at 1 rows w cells i (omega arith) h

  pub players-length : length (players_in rows w cells) ≡ rows
  unfolding players_in
  players-length = length-map (chunk rows w cells) _ ∙ length-chunk rows w cells

  pub scores-length : length (scores_in rows w cells) ≡ rows
  unfolding scores_in
  scores-length = length-map (chunk rows w cells) _ ∙ length-chunk rows w cells
