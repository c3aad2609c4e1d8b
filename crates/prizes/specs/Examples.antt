-- Worked examples of the prize fund table (docs/DEFINITION.md, "The prize fund table"), as one claim. Definitions only; the proof is `examples`
-- of proofs/Examples.antt.
use Rattle.std.specs.Prelude.{ℕ, ◌+◌, ◌≡◌, List, [], ◌∷◌}
use Rattle.algebra.specs.Cells.{blank, origin}
use Rattle.prizes.specs.Payments.{place_pence, runs, payments, club_line}

-- the cell of a number
abbrev pub cell : ℕ → ℕ
cell x = origin + x

-- what the rows' scores, a purse and shares come to: the places' pence, the payments and the club line
pub record ComesTo (scores : List ℕ) (purse : ℕ) (shares pence paid : List ℕ) (club : ℕ) : Type 0 where
  pub places : place_pence purse shares ≡ pence
  pub rows_paid : payments scores (place_pence purse shares) ≡ paid
  pub line : club_line scores (place_pence purse shares) ≡ club

-- ---- the claim
pub record Examples : Type 0 where
  -- Example 1: scores 70, 71, 71, 73; purse 1,001; shares 5,000, 3,000, 2,000. The penny left over is the first place's; 71 and 71 are a tie.
  pub example1 : ComesTo (cell 70 ∷ cell 71 ∷ cell 71 ∷ cell 73 ∷ []) 1001 (5000 ∷ 3000 ∷ 2000 ∷ [])
      (501 ∷ 300 ∷ 200 ∷ []) (501 ∷ 250 ∷ 250 ∷ 0 ∷ []) 0
  -- Example 2: scores 68, blank, 70, 70, 70; purse 1,005; shares 4,000, 3,000, 2,000, 1,000. The tie reaches past the last share, and its odd
  -- penny is the earliest row's; the blank score's place goes to the club line.
  pub example2 : ComesTo (cell 68 ∷ blank ∷ cell 70 ∷ cell 70 ∷ cell 70 ∷ []) 1005 (4000 ∷ 3000 ∷ 2000 ∷ 1000 ∷ [])
      (403 ∷ 301 ∷ 201 ∷ 100 ∷ []) (403 ∷ 0 ∷ 101 ∷ 100 ∷ 100 ∷ []) 301
  -- a blank score between two equal ones: they are no tie
  pub blank_between : ComesTo (cell 70 ∷ blank ∷ cell 70 ∷ []) 100 (5000 ∷ 3000 ∷ 2000 ∷ []) (50 ∷ 30 ∷ 20 ∷ []) (50 ∷ 0 ∷ 20 ∷ []) 30
  -- more places than rows: the places past the last row go to the club line
  pub more_places : ComesTo (cell 70 ∷ []) 1 (0 ∷ 10000 ∷ []) (0 ∷ 1 ∷ []) (0 ∷ []) 1
  -- no rows: the club line is the purse
  pub no_rows : ComesTo [] 100 (5000 ∷ 3000 ∷ 2000 ∷ []) (50 ∷ 30 ∷ 20 ∷ []) [] 100
  -- two blank scores are no tie: each is a run by itself, and both places go to the club line
  pub two_blanks : (runs (blank ∷ blank ∷ []) ≡ (blank ∷ []) ∷ (blank ∷ []) ∷ [])
      × ComesTo (blank ∷ blank ∷ []) 100 (6000 ∷ 4000 ∷ []) (60 ∷ 40 ∷ []) (0 ∷ 0 ∷ []) 100
