-- The club line, place by place. Assumes nothing.
use Rattle.std.specs.Prelude.{if◌then◌else◌}
use Prim.Native.Nat.{ℕ, suc, ◌+◌, ◌≤◌, ◌<◌}
use native.Mathlib.Omega.{arith}
use native.Mathlib.Numerals.{add-one}
use mathlib.Core.Bool.{true, false}
use mathlib.Core.Path.{◌≡◌, refl, sym, ap, ◌∙◌}
use mathlib.Core.List.{List, [], ◌∷◌}
use lib.ListN.{length, drop, get_or, drop_of_length-le}
use lib.Seq.{drop-cons, drop-drop, get_or-drop}
use Rattle.algebra.specs.Cells.{is_number}
use Rattle.prizes.specs.Payments.{club_line}

-- the first place: past the last row there is no number
first-place : (scores : List ℕ) (p : ℕ) (pence : List ℕ) → club_line scores (p ∷ pence) ≡ (if is_number (get_or scores 0 0) then 0 else p) + club_line (drop 1 scores) pence
unfolding club_line
first-place [] p pence = refl
first-place (s ∷ scores) p pence = refl

club-next : (scores pence : List ℕ) (i : ℕ) → i < length pence
    → club_line (drop i scores) (drop i pence) ≡ (if is_number (get_or scores i 0) then 0 else get_or pence i 0) + club_line (drop (i + 1) scores) (drop (i + 1) pence)
club-next scores pence i h =
    let p : ℕ = get_or pence i 0 in
    let z : i + 0 ≡ i = omega arith in
    let s : get_or (drop i scores) 0 0 ≡ get_or scores i 0 = get_or-drop i scores 0 0 ∙ ap (λ (k : ℕ). get_or scores k 0) z in
    ap (club_line (drop i scores)) (drop-cons pence i 0 h)
    ∙ (first-place (drop i scores) p (drop (suc i) pence)
    ∙ (λ j. (if is_number (s j) then 0 else p) + club_line (drop-drop 1 i scores j) (drop (sym (add-one i) j) pence)))

-- .. where the row's score is no number, and where it is one
pub club-taken : (scores pence : List ℕ) (i : ℕ) → i < length pence → is_number (get_or scores i 0) ≡ false
    → club_line (drop i scores) (drop i pence) ≡ get_or pence i 0 + club_line (drop (i + 1) scores) (drop (i + 1) pence)
club-taken scores pence i h e = club-next scores pence i h ∙ rw e

pub club-passed : (scores pence : List ℕ) (i : ℕ) → i < length pence → is_number (get_or scores i 0) ≡ true
    → club_line (drop i scores) (drop i pence) ≡ club_line (drop (i + 1) scores) (drop (i + 1) pence)
club-passed scores pence i h e = club-next scores pence i h ∙ rw e (omega arith)

pub no_place : (scores : List ℕ) → club_line scores [] ≡ 0
unfolding club_line
no_place [] = refl
no_place (s ∷ scores) = refl

pub club-end : (scores pence : List ℕ) (i : ℕ) → length pence ≤ i → club_line (drop i scores) (drop i pence) ≡ 0
club-end scores pence i h = ap (club_line (drop i scores)) (drop_of_length-le pence {i = i} h) ∙ no_place (drop i scores)
