-- The prize fund table: the places' pence, the pools and the club line (docs/DEFINITION.md, "The prize fund table"). Money is counted in
-- pence, a share in hundredths of a per cent. Definitions only.
use Rattle.std.specs.Prelude.{ℕ, zero, suc, ◌+◌, ◌*◌, ◌-◌, ◌/◌, ◌%◌, Bool, length, take, drop, replicate, if◌then◌else◌}
use mathlib.Core.List.{List, [], ◌∷◌, ◌++◌, map, foldr}
use Rattle.algebra.specs.Lists.{all, total}
use Rattle.algebra.specs.Cells.{eq, is_number, compares}

-- n pence more, one to each amount from the first on
unfoldable pub one_each : ℕ → List ℕ → List ℕ
one_each n [] = []
one_each zero (x ∷ xs) = x ∷ xs
one_each (suc n) (x ∷ xs) = suc x ∷ one_each n xs

-- ---- the places' pence

-- a share of the purse, rounded down
abbrev pub share_of : ℕ → ℕ → ℕ
share_of purse share = purse * share / 10000

-- what the shares so rounded leave over
abbrev pub left_over : ℕ → List ℕ → ℕ
left_over purse shares = purse - total (map (share_of purse) shares)

-- each place's share, with the pence left over, one each to the places from the first
unfoldable pub place_pence : ℕ → List ℕ → List ℕ
place_pence purse shares = one_each (left_over purse shares) (map (share_of purse) shares)

-- ---- pools: the longest runs of adjacent rows with equal scores

-- equal, as = compares: both are numbers, so a blank or off-scale score is equal to none
abbrev pub tied : ℕ → ℕ → Bool
tied a b = compares eq a b

-- a score before the runs that follow it: it joins the first of them, or is a run by itself (no run is empty)
abbrev pub joined : ℕ → List (List ℕ) → List (List ℕ)
joined s [] = (s ∷ []) ∷ []
joined s ([] ∷ later) = (s ∷ []) ∷ later
joined s ((t ∷ ts) ∷ later) = if tied s t then (s ∷ t ∷ ts) ∷ later else (s ∷ []) ∷ (t ∷ ts) ∷ later

unfoldable pub runs : List ℕ → List (List ℕ)
runs scores = foldr joined [] scores

-- The pence of a run whose first row has the first of these places: its places' pence, 0 for rows past the last place; nothing where the
-- score is no number.
abbrev pub pool : List ℕ → List ℕ → ℕ
pool run pence = if all is_number run then total (take (length run) pence) else 0

-- a pool split evenly among n rows, odd pence to the earlier rows
abbrev pub split : ℕ → ℕ → List ℕ
split n pence = one_each (pence % n) (replicate n (pence / n))

-- run by run; a row that is paid nothing keeps its place
unfoldable pub pay_runs : List (List ℕ) → List ℕ → List ℕ
pay_runs [] pence = []
pay_runs (run ∷ later) pence = split (length run) (pool run pence) ++ pay_runs later (drop (length run) pence)

-- what each row is paid, by the rows' scores and the places' pence
abbrev pub payments : List ℕ → List ℕ → List ℕ
payments scores pence = pay_runs (runs scores) pence

-- ---- the club line

-- the pence of the places past the last row, and of those whose score is no number
unfoldable pub club_line : List ℕ → List ℕ → ℕ
club_line [] pence = total pence
club_line (s ∷ scores) [] = 0
club_line (s ∷ scores) (p ∷ pence) = (if is_number s then 0 else p) + club_line scores pence
