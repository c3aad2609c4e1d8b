-- Copies of cells, and rows written among cells. Assumes nothing.
use mathlib.Core.Path.{◌≡◌, refl, sym, ap, ◌∙◌}
use mathlib.Core.List.{List, [], ◌∷◌, ◌++◌}
use Prim.Native.Nat.{ℕ, ◌+◌, ◌-◌, ◌≤◌, ◌<◌}
use native.Mathlib.Nat.{add-zero}
use native.Mathlib.Numerals.{add-one}
use native.Mathlib.Omega.{arith}
use lib.ListN.{length, take, drop, get_or, set, length-drop}
use lib.Seq.{paste, paste-suc, length_paste_head, get_or-append-add, get_or-drop, drop-drop, drop-cons, take-add, take-take, take-set-le, drop-set-lt, drop-set-add}
use Rattle.algebra.specs.Plans.{Row}
use Rattle.reporting.specs.Written.{Written}
use Rattle.reporting.proofs.Chunks.{paste-front, paste-row, paste-rest, row_same}

-- past what a copy has replaced, the list is as it was
paste-beyond : (d : List ℕ) (at : ℕ) (s : List ℕ) (n i : ℕ) → at ≤ length d → n ≤ length s → at + n ≤ i → get_or (paste d at s n) i 0 ≡ get_or d i 0
paste-beyond d at s n i hd hs h =
    let p : List ℕ = take at d ++ take n s in
    let e : length p + (i - (at + n)) ≡ i = rw (length_paste_head d at s n hd hs) (omega arith) in
    let f : (at + n) + (i - (at + n)) ≡ i = omega arith in
    ap (λ (k : ℕ). get_or (p ++ drop (at + n) d) k 0) (sym e)
    ∙ get_or-append-add p (drop (at + n) d) (i - (at + n)) 0
    ∙ get_or-drop (at + n) d (i - (at + n)) 0
    ∙ ap (λ (k : ℕ). get_or d k 0) f

-- one more cell is copied down
pub copied_more : (d cells : List ℕ) (src dst i : ℕ) → cells ≡ paste d dst (drop src d) i → dst ≤ src → src + i < length d → set cells (dst + i) (get_or cells (src + i) 0) ≡ paste d dst (drop src d) (i + 1)
copied_more d cells src dst i e h₁ h₂ =
    let s : List ℕ = drop src d in
    let len : length s ≡ length d - src = length-drop src d in
    ap (λ (l : List ℕ). set l (dst + i) (get_or l (src + i) 0)) e
    ∙ ap (λ (v : ℕ). set (paste d dst s i) (dst + i) v) (paste-beyond d dst s i (src + i) (omega arith) (omega arith) (omega arith) ∙ sym (get_or-drop src d i 0))
    ∙ paste-suc d dst s i 0 (omega arith) (omega arith)
    ∙ ap (λ (k : ℕ). paste d dst s k) (sym (add-one i))

-- ---- rows written

-- what stands from a place behind the row on
pub written-rest : {at w : ℕ} {row : Row} {c d : List ℕ} → Written at w row c d → (k : ℕ) → at + w ≤ k → drop k d ≡ drop k c
written-rest {at} {w} {row} {c} {d} p k h =
    let e : (at + w) + (k - (at + w)) ≡ k = omega arith in
    ap (λ (j : ℕ). drop j d) (sym e) ∙ sym (drop-drop (k - (at + w)) (at + w) d) ∙ ap (drop (k - (at + w))) p.behind
    ∙ drop-drop (k - (at + w)) (at + w) c ∙ ap (λ (j : ℕ). drop j c) e

-- what stands before a place before the row
pub written-front : {at w : ℕ} {row : Row} {c d : List ℕ} → Written at w row c d → (k : ℕ) → k ≤ at → take k d ≡ take k c
written-front {at} {w} {row} {c} {d} p k h = sym (take-take k at d h) ∙ ap (take k) p.before ∙ take-take k at c h

-- nothing is written yet
pub written_none : (at : ℕ) (c : List ℕ) → Written at 0 [] c c
written_none at c = record { before = refl; here = refl; behind = refl }

-- a copy of n cells
pub written_copy : (c d s : List ℕ) (at n : ℕ) → d ≡ paste c at s n → at ≤ length c → n ≤ length s → Written at n (take n s) c d
written_copy c d s at n e h k = record {
  before = ap (take at) e ∙ paste-front c at s n h k;
  here = ap (λ (l : List ℕ). take n (drop at l)) e ∙ paste-row c at s n h k;
  behind = ap (drop (at + n)) e ∙ paste-rest c at s n h k (at + n) (omega arith);
}

-- one cell
pub written-cell : (c : List ℕ) (at v : ℕ) → at < length c → Written at 1 (v ∷ []) c (set c at v)
written-cell c at v h = record {
  before = take-set-le at c at v (omega arith);
  here =
      ap (λ (k : ℕ). take 1 (drop at (set c k v))) (sym (add-zero at)) ∙ ap (take 1) (drop-set-add at c 0 v)
      ∙ ap (λ (l : List ℕ). take 1 (set l 0 v)) (drop-cons c at 0 h);
  behind = drop-set-lt (at + 1) c at v (omega arith);
}

-- a row, and another behind it
pub written_both : {at w v : ℕ} {l r : Row} {c d e : List ℕ} → Written at w l c d → Written (at + w) v r d e → Written at (w + v) (l ++ r) c e
written_both {at} {w} {v} {l} {r} {c} {d} {e} p q = record {
  before = written-front q at (omega arith) ∙ p.before;
  here =
      let left : take w (drop at e) ≡ l = row_same at w (at + w) e d (omega arith) q.before ∙ p.here in
      let right : take v (drop w (drop at e)) ≡ r = ap (take v) (drop-drop w at e) ∙ q.here in
      take-add w v (drop at e) ∙ (λ j. left j ++ right j);
  behind =
      let at-end : at + w + v ≡ at + (w + v) = omega arith in
      rw (← at-end) (q.behind ∙ written-rest p (at + w + v) (omega arith));
}

pub written_as : {at w : ℕ} {row row' : Row} {c d : List ℕ} → row ≡ row' → Written at w row c d → Written at w row' c d
written_as e p = record { before = p.before; here = p.here ∙ e; behind = p.behind }

-- one cell more
pub written-more : {at w : ℕ} {row : Row} {c d : List ℕ} (v : ℕ) → Written at w row c d → at + w < length d → Written at (w + 1) (row ++ (v ∷ [])) c (set d (at + w) v)
written-more {at} {w} {row} {c} {d} v p h = written_both p (written-cell d (at + w) v h)

-- a row and then another, both copied down
pub written-joined : (c d e : List ℕ) (src from to w v : ℕ) → d ≡ paste c to (drop src c) w → e ≡ paste d (to + w) (drop from d) v → length d ≡ length c
    → to ≤ src → src + w ≤ length c → to + w ≤ from → from + v ≤ length c → Written to (w + v) (take w (drop src c) ++ take v (drop from c)) c e
written-joined c d e src from to w v p q same h₁ h₂ h₃ h₄ =
    let long : length (drop src c) ≡ length c - src = length-drop src c in
    let long' : length (drop from d) ≡ length d - from = length-drop from d in
    let first : Written to w (take w (drop src c)) c d = written_copy c d (drop src c) to w p (omega arith) (omega arith) in
    let second : Written (to + w) v (take v (drop from d)) d e = written_copy d e (drop from d) (to + w) v q (omega arith) (omega arith) in
    let row : take v (drop from d) ≡ take v (drop from c) = ap (take v) (written-rest first from h₃) in
    written_both first (rw (← row) second)
