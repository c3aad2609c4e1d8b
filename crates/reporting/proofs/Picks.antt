-- Rows cut by the positions of their columns, which are found once. Assumes nothing.
use mathlib.Core.Path.{◌≡◌, refl, sym, ap, ap₂, ◌∙◌, fun_ext}
use mathlib.Core.Bool.{true, false, cond}
use mathlib.Core.List.{List, [], ◌∷◌, ◌++◌, map}
use Prim.Native.Nat.{ℕ, suc, ◌+◌, ◌≤◌, ◌<◌}
use native.Mathlib.Numerals.{add-one}
use native.Mathlib.Omega.{arith}
use lib.ListN.{length, take, drop, get_or, set}
use lib.Seq.{get_or-drop, get_or-take, take-suc}
use Rattle.algebra.specs.Lists.{member}
use Rattle.algebra.specs.Plans.{Row, Env, bind, cut}
use Rattle.reporting.specs.Positions.{picked, Inside, place_of, positions}
use Rattle.reporting.specs.Written.{Written}
use Rattle.reporting.proofs.Copies.{written-more, written-rest, written_as}
use Rattle.reporting.proofs.Envs.{bind-own}

-- ---- the loop over the positions
picked_append : (ps qs : List ℕ) (row : Row) → picked (ps ++ qs) row ≡ picked ps row ++ picked qs row
unfolding picked
picked_append [] qs row = refl
picked_append (p ∷ ps) qs row = ap (λ (l : List ℕ). get_or row p 0 ∷ l) (picked_append ps qs row)

picked_more : (ps : List ℕ) (row : Row) (j : ℕ) → j < length ps → picked (take j ps) row ++ (get_or row (get_or ps j 0) 0 ∷ []) ≡ picked (take (j + 1) ps) row
unfolding picked
picked_more ps row j h =
    sym (picked_append (take j ps) (get_or ps j 0 ∷ []) row)
    ∙ ap (λ (l : List ℕ). picked l row) (sym (take-suc ps j 0 h) ∙ ap (λ (k : ℕ). take k ps) (sym (add-one j)))

-- nothing is written yet, and one cell more
pub picks_start : (ps c : List ℕ) (src dst : ℕ) → Written dst 0 (picked (take 0 ps) (drop src c)) c c
unfolding picked
picks_start ps c src dst = record { before = refl; here = refl; behind = refl }

pub picks_turn : (ps c d : List ℕ) (src dst j : ℕ) → Written dst j (picked (take j ps) (drop src c)) c d → j < length ps → dst + length ps ≤ src → src ≤ length d
    → Written dst (j + 1) (picked (take (j + 1) ps) (drop src c)) c (set d (dst + j) (get_or d (src + get_or ps j 0) 0))
picks_turn ps c d src dst j p h room inside =
    let place : ℕ = get_or ps j 0 in
    let cell : get_or d (src + place) 0 ≡ get_or (drop src c) place 0 =
    sym (get_or-drop src d place 0) ∙ ap (λ (l : List ℕ). get_or l place 0) (written-rest p src (omega arith)) in
    written_as (ap (λ (v : ℕ). picked (take j ps) (drop src c) ++ (v ∷ [])) cell ∙ picked_more ps (drop src c) j h)
    (written-more (get_or d (src + place) 0) p (omega arith))

-- only the front of a row is read
pub picked-front : (ps : List ℕ) (w : ℕ) (row : Row) → Inside ps w → picked ps (take w row) ≡ picked ps row
unfolding picked
picked-front [] w row h = refl
picked-front (p ∷ ps) w row h =
    ap₂ (λ (x : ℕ) (l : List ℕ). x ∷ l) (get_or-take w row p 0 (h 0 (omega arith))) (picked-front ps w row (λ i l. h (suc i) (omega arith)))

-- ---- ids that are all columns are cut by their positions
positions-few : (ids cs : List ℕ) → length (positions ids cs) ≤ length ids
unfolding positions
positions-few [] cs = omega arith
positions-few (x ∷ ids) cs =
    elim (member x cs) as (λ b. length (cond b (place_of x cs ∷ positions ids cs) (positions ids cs)) ≤ suc (length ids)) [
      | true ↦ omega (arith, positions-few ids cs)
      | false ↦ omega (arith, positions-few ids cs)
    ]

cut-picked : (ids cs : List ℕ) (env : Env) (q : Row) → length (positions ids cs) ≡ length ids → cut ids cs env q ≡ picked (positions ids cs) q
unfolding picked positions
cut-picked [] cs env q h = refl
cut-picked (x ∷ ids) cs env q h =
    let ps : List ℕ = positions ids cs in
    (elim (member x cs) as (λ b. member x cs ≡ b → length (cond b (place_of x cs ∷ ps) ps) ≡ suc (length ids) → bind cs q env x ∷ cut ids cs env q ≡ picked (cond b (place_of x cs ∷ ps) ps) q) [
      | true ↦ λ m g. ap₂ (λ (v : ℕ) (l : List ℕ). v ∷ l) (bind-own env x cs q m) (cut-picked ids cs env q (omega arith))
      | false ↦ λ m g. absurd (omega (arith, positions-few ids cs))
    ]) refl h

pub cuts-picked : (ids cs : List ℕ) (env : Env) (rows : List Row) → length (positions ids cs) ≡ length ids → map (cut ids cs env) rows ≡ map (picked (positions ids cs)) rows
cuts-picked ids cs env rows h = ap (λ (f : Row → Row). map f rows) (fun_ext (λ q. cut-picked ids cs env q h))
