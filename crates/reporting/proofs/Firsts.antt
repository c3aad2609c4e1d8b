-- Distinct: the rows kept so far, and what the rest adds to them. Assumes nothing.
use mathlib.Core.Path.{◌≡◌, refl, sym, ap, ap₂, ◌∙◌, subst}
use mathlib.Core.Bool.{Bool, true, false, not, cond, ◌&&◌, ◌||◌}
use mathlib.Core.List.{List, [], ◌∷◌, ◌++◌, append_assoc, append-nil}
use Prim.Native.Nat.{ℕ, ◌+◌, ◌*◌, ◌-◌, ◌≤◌, ◌<◌}
use native.Mathlib.Nat.{zero-mul}
use native.Mathlib.Numerals.{add-one}
use native.Mathlib.Omega.{arith}
use lib.ListN.{length, take, drop, get_or, set, replicate, length-drop}
use lib.Seq.{paste, length-paste}
use Rattle.algebra.specs.Lists.{same, filter, any, firsts}
use Rattle.algebra.specs.Plans.{Row}
use Rattle.algebra.proofs.Lists.{filter-filter, filter-true, same_true}
use Rattle.reporting.specs.Rows.{chunk, Gives}
use Rattle.reporting.specs.Index.{downward, Index}
use Rattle.reporting.proofs.Numbers.{any_snoc}
use Rattle.reporting.proofs.Chains.{index-none, index_snoc}
use Rattle.reporting.proofs.Chunks.{mono, turns, times_suc, next_row, length-chunk, chunk_snoc, chunk-same, paste-front, paste-row, paste-rest}

-- two filters are one
filter_through : (p q s : Row → Bool) → ((x : Row) → (q x && p x) ≡ s x) → (xs : List Row) → filter p (filter q xs) ≡ filter s xs
filter_through p q s e xs = filter-filter p q xs ∙ ap (λ (f : Row → Bool). filter f xs) (λ i x. e x i)

-- q is not among the rows kept
abbrev pub fresh : List Row → Row → Bool
fresh kept q = not (any (λ k. same k q) kept)

-- those of the rows that are not kept yet
abbrev pub beyond : List Row → List Row → List Row
beyond kept rows = filter (fresh kept) rows

fresh_seen : (kept : List Row) (r q : Row) → any (λ k. same k r) kept ≡ true → (not (same r q) && fresh kept q) ≡ fresh kept q
fresh_seen kept r q h =
    (elim (same r q) as (λ b. same r q ≡ b → (not b && fresh kept q) ≡ fresh kept q) [
      | true ↦ λ e. sym (sym (ap (fresh kept) (same_true r q e)) ∙ ap not h)
      | false ↦ λ e. refl
    ]) refl

not-or : (a b : Bool) → (not b && not a) ≡ not (a || b)
not-or true true = refl
not-or true false = refl
not-or false true = refl
not-or false false = refl

fresh_new : (kept : List Row) (r q : Row) → (not (same r q) && fresh kept q) ≡ fresh (kept ++ (r ∷ [])) q
fresh_new kept r q = not-or (any (λ k. same k q) kept) (same r q) ∙ ap not (sym (any_snoc (λ k. same k q) kept r))

-- ---- the law of the loop: the next row is among the kept ones and adds nothing, or it is the next of the answer and is kept
pub beyond-none : (rs : List Row) → beyond [] rs ≡ rs
beyond-none rs = filter-true rs

pub beyond_seen : (kept rs : List Row) (r : Row) → any (λ k. same k r) kept ≡ true → beyond kept (firsts (r ∷ rs)) ≡ beyond kept (firsts rs)
beyond_seen kept rs r h =
    let q : Row → Bool = λ q. not (same r q) in
    ap (λ (b : Bool). cond (not b) (r ∷ filter (fresh kept) (filter q (firsts rs))) (filter (fresh kept) (filter q (firsts rs)))) h
    ∙ filter_through (fresh kept) q (fresh kept) (λ x. fresh_seen kept r x h) (firsts rs)

pub beyond_new : (kept rs : List Row) (r : Row) → any (λ k. same k r) kept ≡ false → beyond kept (firsts (r ∷ rs)) ≡ r ∷ beyond (kept ++ (r ∷ [])) (firsts rs)
beyond_new kept rs r h =
    let q : Row → Bool = λ q. not (same r q) in
    ap (λ (b : Bool). cond (not b) (r ∷ filter (fresh kept) (filter q (firsts rs))) (filter (fresh kept) (filter q (firsts rs)))) h
    ∙ ap (λ (l : List Row). r ∷ l) (filter_through (fresh kept) q (fresh (kept ++ (r ∷ []))) (λ x. fresh_new kept r x) (firsts rs))

-- a row is copied behind those that are kept
pub chunk_kept : (w out src dst : ℕ) (cells cells' : List ℕ) → dst ≡ out * w → dst ≤ src → src + w ≤ length cells → cells' ≡ paste cells dst (drop src cells) w → chunk (out + 1) w cells' ≡ chunk out w cells ++ (take w (drop src cells) ∷ [])
chunk_kept w out src dst cells cells' to below inside e =
    let l : length (drop src cells) ≡ length cells - src = length-drop src cells in
    let fits : dst ≤ length cells = omega arith in
    let long : w ≤ length (drop src cells) = omega arith in
    let front : take (out * w) cells' ≡ take (out * w) cells = rw (← to) (ap (take dst) e ∙ paste-front cells dst (drop src cells) w fits long) in
    let here : take w (drop (out * w) cells') ≡ take w (drop src cells) = rw (← to) (ap (λ (x : List ℕ). take w (drop dst x)) e ∙ paste-row cells dst (drop src cells) w fits long) in
    ap (λ (k : ℕ). chunk k w cells') (add-one out) ∙ chunk_snoc out w cells'
    ∙ ap₂ (λ (a : List Row) (b : Row). a ++ (b ∷ [])) (chunk-same out w cells' cells front) here

-- ---- the loop of Distinct: the answer is what stands at the front, and what the rows that are left will add to it
pub record Sifting (answer : List Row) (m w : ℕ) (first cells : List ℕ) (i out src dst : ℕ) : Type 0 where
  pub within : i ≤ m
  pub few : out ≤ i
  pub src_at : src ≡ i * w
  pub dst-at : dst ≡ out * w
  pub long : length cells ≡ length first
  pub behind : drop (m * w) cells ≡ drop (m * w) first
  pub so_far : answer ≡ chunk out w cells ++ beyond (chunk out w cells) (firsts (chunk (m - i) w (drop src cells)))

-- the same at the places themselves
pub sifting_places : {answer : List Row} {m w : ℕ} {first cells : List ℕ} {i out src dst : ℕ} → Sifting answer m w first cells i out src dst → Sifting answer m w first cells i out (i * w) (out * w)
sifting_places {answer} {m} {w} {first} {cells} {i} {out} {src} p =
    subst (λ (s : ℕ). Sifting answer m w first cells i out s (out * w)) p.src_at (subst (λ (d : ℕ). Sifting answer m w first cells i out src d) p.dst-at p)

module _ (answer : List Row) (m w : ℕ) (first : List ℕ) where
  pub sifting_start : answer ≡ firsts (chunk m w first) → Sifting answer m w first first 0 0 0 0
  unfolding chunk
  sifting_start e = let all : m ≡ m - 0 = omega arith in record {
    within = omega arith;
    few = omega arith;
    src_at = rw zero-mul;
    dst-at = rw zero-mul;
    long = refl;
    behind = refl;
    so_far = e ∙ ap (λ (k : ℕ). firsts (chunk k w first)) all ∙ sym (beyond-none (firsts (chunk (m - 0) w first)));
  }

  pub sifting_done : (cells : List ℕ) (i out src dst : ℕ) → Sifting answer m w first cells i out src dst → m ≤ i → Gives answer w m out cells
  unfolding chunk
  sifting_done cells i out src dst p h =
      let e : m - i ≡ 0 = omega arith in
      record {
        is = sym (p.so_far ∙ ap (λ (k : ℕ). chunk out w cells ++ beyond (chunk out w cells) (firsts (chunk k w (drop src cells)))) e ∙ append-nil (chunk out w cells));
        few = omega (arith, p.few, p.within);
      }

  module _ (cells cells' : List ℕ) (i out out' src dst dst' : ℕ) (p : Sifting answer m w first cells i out src dst) (h : i < m) where
    -- the row at hand was seen: nothing is written
    pub sifting_seen : any (λ q. same q (take w (drop src cells))) (chunk out w cells) ≡ true → cells' ≡ cells → out' ≡ out → dst' ≡ dst → Sifting answer m w first cells' (i + 1) out' (src + w) dst'
    sifting_seen seen e₁ e₂ e₃ =
        let row : Row = take w (drop src cells) in
        let rest : List Row = chunk (m - (i + 1)) w (drop (src + w) cells) in
        let next : Sifting answer m w first cells (i + 1) out (src + w) dst = record {
          within = omega arith;
          few = omega (arith, p.few);
          src_at = rw (add-one i, times_suc i w) (omega (arith, p.src_at));
          dst-at = p.dst-at;
          long = p.long;
          behind = p.behind;
          so_far =
              p.so_far
              ∙ ap (λ (l : List Row). chunk out w cells ++ beyond (chunk out w cells) (firsts l)) (next_row m w i src cells h)
              ∙ ap (λ (l : List Row). chunk out w cells ++ l) (beyond_seen (chunk out w cells) rest row seen);
        } in
        rw (e₁, e₂, e₃) next

    -- it is new: it is copied to the front
    pub sifting_new : any (λ q. same q (take w (drop src cells))) (chunk out w cells) ≡ false → m * w ≤ length cells → cells' ≡ paste cells dst (drop src cells) w → out' ≡ out + 1 → dst' ≡ dst + w → Sifting answer m w first cells' (i + 1) out' (src + w) dst'
    sifting_new new inside e₁ e₂ e₃ =
        let t : i * w + w ≤ m * w = turns m w i h in
        let o : out * w ≤ i * w = mono out i w p.few in
        let at : src ≡ i * w = p.src_at in
        let to : dst ≡ out * w = p.dst-at in
        let l : length (drop src cells) ≡ length cells - src = length-drop src cells in
        let row : Row = take w (drop src cells) in
        let kept : List Row = chunk out w cells in
        let rest : List Row = chunk (m - (i + 1)) w (drop (src + w) cells) in
        let fits : dst ≤ length cells = omega arith in
        let long : w ≤ length (drop src cells) = omega arith in
        let left : chunk (m - (i + 1)) w (drop (src + w) cells') ≡ rest = ap (chunk (m - (i + 1)) w) (ap (drop (src + w)) e₁ ∙ paste-rest cells dst (drop src cells) w fits long (src + w) (omega arith)) in
        let more : chunk (out + 1) w cells' ≡ kept ++ (row ∷ []) = chunk_kept w out src dst cells cells' to (omega arith) (omega arith) e₁ in
        let next : Sifting answer m w first cells' (i + 1) (out + 1) (src + w) (dst + w) = record {
          within = omega arith;
          few = omega (arith, p.few);
          src_at = rw (add-one i, times_suc i w) (omega (arith, p.src_at));
          dst-at = rw (add-one out, times_suc out w) (omega arith);
          long = ap length e₁ ∙ length-paste cells dst (drop src cells) w (omega arith) (omega arith) ∙ p.long;
          behind = ap (drop (m * w)) e₁ ∙ paste-rest cells dst (drop src cells) w fits long (m * w) (omega arith) ∙ p.behind;
          so_far =
              p.so_far
              ∙ ap (λ (l : List Row). kept ++ beyond kept (firsts l)) (next_row m w i src cells h)
              ∙ ap (λ (l : List Row). kept ++ l) (beyond_new kept rest row new)
              ∙ sym (append_assoc kept (row ∷ []) (beyond (kept ++ (row ∷ [])) (firsts rest)))
              ∙ ap₂ (λ (a b : List Row). a ++ beyond a (firsts b)) (sym more) (sym left);
        } in
        rw (e₂, e₃) next

-- ---- the index of the rows that are kept

-- no row is kept yet
pub index_start : (slot : Row → ℕ) (w : ℕ) (cells heads next : List ℕ) → heads ≡ replicate 4096 0 → Index slot (chunk 0 w cells) (downward 0) heads next
index_start slot w cells heads next e = rw e (index-none slot (chunk 0 w cells) 4096 next (omega arith))

-- a row is kept
pub index_kept : (slot : Row → ℕ) (w out src dst b : ℕ) (cells cells' heads heads' next next' : List ℕ) → dst ≡ out * w → dst ≤ src → src + w ≤ length cells → cells' ≡ paste cells dst (drop src cells) w → b ≡ slot (take w (drop src cells)) → b < length heads → out < length next → heads' ≡ set heads b (out + 1) → next' ≡ set next out (get_or heads b 0) → Index slot (chunk out w cells) (downward out) heads next → Index slot (chunk (out + 1) w cells') (downward (out + 1)) heads' next'
index_kept slot w out src dst b cells cells' heads heads' next next' to below inside e at lh ln eh en x =
    let more : chunk (out + 1) w cells' ≡ chunk out w cells ++ (take w (drop src cells) ∷ []) = chunk_kept w out src dst cells cells' to below inside e in
    rw (more, eh, en) (index_snoc slot (chunk out w cells) (take w (drop src cells)) out heads next b (length-chunk out w cells) at lh ln x)

-- only rows of its bucket are the same as a row
pub same-only : (slot : Row → ℕ) (b : ℕ) (row : Row) → b ≡ slot row → (q : Row) → same q row ≡ true → slot q ≡ b
same-only slot b row e q t = ap slot (same_true q row t) ∙ sym e
