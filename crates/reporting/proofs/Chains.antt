-- Chains, the index of rows by them, and what is found by it. Assumes nothing.
use mathlib.Core.Path.{◌≡◌, refl, sym, ap, ap₂, ◌∙◌, subst}
use mathlib.Core.Bool.{Bool, true, false, cond}
use mathlib.Core.List.{List, [], ◌∷◌, ◌++◌, map}
use Prim.Native.Nat.{ℕ, zero, suc, ◌+◌, ◌*◌, ◌-◌, ◌%◌, ◌≤◌, ◌<◌}
use native.Mathlib.Numerals.{add-one}
use native.Mathlib.Omega.{arith}
use lib.Dec.{eqb, ltb}
use lib.ListN.{length, length-map, drop, get_or, set, replicate, length-replicate, get_or-replicate, drop_of_length-le, get_or-append}
use lib.Seq.{get_or-set_same, get_or-set_other, get_or_at, drop-cons}
use borrow.Author.Tests.{eqb-true, eqb-false, eq-eqb}
use Rattle.algebra.specs.Lists.{filter, any, upward}
use Rattle.algebra.specs.Plans.{Row}
use Rattle.algebra.proofs.Lists.{filter-length, any-count}
use Rattle.reading.proofs.Places.{upward-length}
use Rattle.reporting.specs.Rows.{chunk}
use Rattle.reporting.specs.Index.{halves, bucket_of, slot_of, mixed, nth, downward, in_bucket, chain, Index}
use Rattle.reporting.proofs.Numbers.{Each, each-filter, each-upward, each-downward, filter-each, downward-length, any-downward, filter-nth, bucket-filter, bucket-any, cell-nth}

-- ---- the number of a row, cell by cell
pub mixed-next : (row : Row) (h h' i : ℕ) → i < length row → h' ≡ (h * 2654435761 + halves (get_or row i 0)) % 4294967296 → mixed h (drop i row) ≡ mixed h' (drop (i + 1) row)
unfolding mixed
mixed-next row h h' i l e = ap (mixed h) (drop-cons row i 0 l) ∙ ap₂ (λ (x n : ℕ). mixed x (drop n row)) (sym e) (sym (add-one i))

pub mixed-end : (row : Row) (h i : ℕ) → length row ≤ i → mixed h (drop i row) ≡ h
unfolding mixed
mixed-end row h i l = ap (mixed h) (drop_of_length-le row {i = i} l)

-- ---- chains: one that has ended is the same where it may hold more
chain_more : (f : ℕ) (next : List ℕ) (h : ℕ) → length (chain f next h) < f → chain (suc f) next h ≡ chain f next h
unfolding chain
chain_more zero next h l = absurd (omega arith)
chain_more (suc f) next zero l = refl
chain_more (suc f) next (suc i) l = ap (λ (r : List ℕ). i ∷ r) (chain_more f next (get_or next i 0) (omega arith))

-- so its rest may hold as many as it
chain-suc : (f : ℕ) (next : List ℕ) (i : ℕ) → length (chain (suc f) next (suc i)) ≤ f → chain (suc f) next (suc i) ≡ i ∷ chain (suc f) next (get_or next i 0)
unfolding chain
chain-suc f next i l = ap (λ (r : List ℕ). i ∷ r) (sym (chain_more f next (get_or next i 0) (omega arith)))

chain_next : (f : ℕ) (next : List ℕ) (h : ℕ) → 0 < h → length (chain (suc f) next h) ≤ f → chain (suc f) next h ≡ (h - 1) ∷ chain (suc f) next (get_or next (h - 1) 0)
chain_next f next h p l =
    let e : h ≡ suc (h - 1) = omega arith in
    ap (chain (suc f) next) e ∙ chain-suc f next (h - 1) (subst (λ (j : ℕ). length (chain (suc f) next j) ≤ f) e l)

pub chain-end : (f : ℕ) (next : List ℕ) (h : ℕ) → h ≤ 0 → chain f next h ≡ []
unfolding chain
chain-end zero next h l = refl
chain-end (suc f) next h l = let e : h ≡ 0 = omega arith in ap (chain (suc f) next) e

-- the link of a row that is not on the chain may change
chain-set : (f : ℕ) (next : List ℕ) (i v h : ℕ) → Each (λ j. j ≡ i → ⊥) (chain f next h) → chain f (set next i v) h ≡ chain f next h
unfolding chain
chain-set zero next i v h e = refl
chain-set (suc f) next i v zero e = refl
chain-set (suc f) next i v (suc j) e =
    ap (λ (r : List ℕ). j ∷ r) (ap (chain f (set next i v)) (get_or-set_other next i j v 0 e.0) ∙ chain-set f next i v (get_or next j 0) e.1)

-- ---- the index of no rows
pub index-none : (slot : Row → ℕ) (rs : List Row) (n : ℕ) (next : List ℕ) → 4096 ≤ n → Index slot rs [] (replicate n 0) next
unfolding chain
index-none slot rs n next h = record { bucket = λ b l. ap (chain 1 next) (get_or-replicate n b 0 0 (omega arith)) }

pub heads_length : {heads : List ℕ} → heads ≡ replicate 4096 0 → length heads ≡ 4096
heads_length e = ap length e ∙ length-replicate {A = ℕ} 4096 0

-- ---- one row more, at the front of the chain of its bucket
module _ (slot : Row → ℕ) (rs : List Row) (ns heads next : List ℕ) (x : Index slot rs ns heads next) (i s : ℕ) (at : s ≡ slot (nth rs i)) (fresh : Each (λ j. j ≡ i → ⊥) ns) (inside : s < length heads) (room : i < length next) where
  put_next : List ℕ
  put_next = set next i (get_or heads s 0)

  -- the chains that were there are as they were
  stays : (b : ℕ) → b < 4096 → chain (suc (length ns)) put_next (get_or heads b 0) ≡ in_bucket slot rs b ns
  unfolding put_next
  stays b l =
      let q : ℕ → Bool = λ j. eqb (slot (nth rs j)) b in
      let off : Each (λ j. j ≡ i → ⊥) (chain (suc (length ns)) next (get_or heads b 0)) =
      subst (λ (c : List ℕ). Each (λ j. j ≡ i → ⊥) c) (sym (x.bucket b l)) (each-filter (λ j. j ≡ i → ⊥) q ns fresh) in
      chain-set (suc (length ns)) next i (get_or heads s 0) (get_or heads b 0) off ∙ x.bucket b l

  longer : (b : ℕ) → b < 4096 → chain (suc (suc (length ns))) put_next (get_or heads b 0) ≡ in_bucket slot rs b ns
  longer b l =
      let few : length (chain (suc (length ns)) put_next (get_or heads b 0)) ≤ length ns =
      subst (λ (c : List ℕ). length c ≤ length ns) (sym (stays b l)) (filter-length (λ j. eqb (slot (nth rs j)) b) ns) in
      chain_more (suc (length ns)) put_next (get_or heads b 0) (omega arith) ∙ stays b l

  first : chain (suc (suc (length ns))) put_next (suc i) ≡ i ∷ chain (suc (length ns)) put_next (get_or heads s 0)
  unfolding chain put_next
  first = ap (λ (h : ℕ). i ∷ chain (suc (length ns)) (set next i (get_or heads s 0)) h) (get_or-set_same next i (get_or heads s 0) 0 room)

  put-bucket : (b : ℕ) → b < 4096 → chain (suc (suc (length ns))) put_next (get_or (set heads s (suc i)) b 0) ≡ in_bucket slot rs b (i ∷ ns)
  put-bucket b l =
      (elim (eqb (slot (nth rs i)) b) as (λ t. eqb (slot (nth rs i)) b ≡ t → chain (suc (suc (length ns))) put_next (get_or (set heads s (suc i)) b 0) ≡ cond t (i ∷ in_bucket slot rs b ns) (in_bucket slot rs b ns)) [
        | true ↦ λ e.
            let same : s ≡ b = at ∙ eqb-true (slot (nth rs i)) b e in
            ap (λ (c : ℕ). chain (suc (suc (length ns))) put_next (get_or (set heads s (suc i)) c 0)) (sym same)
            ∙ ap (chain (suc (suc (length ns))) put_next) (get_or-set_same heads s (suc i) 0 inside)
            ∙ first
            ∙ ap (λ (c : ℕ). i ∷ chain (suc (length ns)) put_next (get_or heads c 0)) same
            ∙ ap (λ (c : List ℕ). i ∷ c) (stays b l)
        | false ↦ λ e.
            ap (chain (suc (suc (length ns))) put_next) (get_or-set_other heads s b (suc i) 0 (λ d. eqb-false (slot (nth rs i)) b e (sym at ∙ sym d)))
            ∙ longer b l
      ]) refl

  pub index-put : Index slot rs (i ∷ ns) (set heads s (suc i)) (set next i (get_or heads s 0))
  unfolding put_next
  index-put = record { bucket = put-bucket }

-- other rows, the same at the numbers that the index has
pub index_same : (slot : Row → ℕ) (rs rs' : List Row) (ns heads next : List ℕ) → Each (λ j. nth rs j ≡ nth rs' j) ns → Index slot rs ns heads next → Index slot rs' ns heads next
index_same slot rs rs' ns heads next e x = record {
  bucket = λ b l. x.bucket b l ∙ filter-each (λ j. eqb (slot (nth rs j)) b) (λ j. eqb (slot (nth rs' j)) b) ns (agree b ns e);
}
  where
    agree : (b : ℕ) (ns : List ℕ) → Each (λ j. nth rs j ≡ nth rs' j) ns → Each (λ j. eqb (slot (nth rs j)) b ≡ eqb (slot (nth rs' j)) b) ns
    agree b [] e = tt
    agree b (n ∷ ns) e = (ap (λ (q : Row). eqb (slot q) b) e.0, agree b ns e.1)

-- a row more at the end of the rows, whose numbers run downward
pub index_snoc : (slot : Row → ℕ) (rs : List Row) (row : Row) (n : ℕ) (heads next : List ℕ) (b : ℕ) → length rs ≡ n → b ≡ slot row → b < length heads → n < length next → Index slot rs (downward n) heads next → Index slot (rs ++ (row ∷ [])) (downward (n + 1)) (set heads b (n + 1)) (set next n (get_or heads b 0))
index_snoc slot rs row n heads next b len at lh ln x =
    let more : List Row = rs ++ (row ∷ []) in
    let agree : Each (λ j. nth rs j ≡ nth more j) (downward n) = each-downward (λ j. nth rs j ≡ nth more j) n (λ j h. sym (get_or-append rs (row ∷ []) [] j (omega arith))) in
    let fresh : Each (λ j. j ≡ n → ⊥) (downward n) = each-downward (λ j. j ≡ n → ⊥) n (λ j h e. omega arith) in
    let here : nth more n ≡ row = get_or_at rs row [] [] n len in
    rw (add-one n) (index-put slot more (downward n) heads next (index_same slot rs more (downward n) heads next agree x) n b (at ∙ ap slot (sym here)) fresh lh ln)

-- ---- the walk along a chain: it has ended, and holds numbers of rows only
pub record Walk (k : ℕ) (next : List ℕ) (h : ℕ) : Type 0 where
  pub ended : length (chain (suc k) next h) ≤ k
  pub inside : Each (λ j. j < k) (chain (suc k) next h)

-- one link on
module _ (k : ℕ) (next : List ℕ) (h : ℕ) (w : Walk k next h) (p : 0 < h) (h' : ℕ) (e : h' ≡ get_or next (h - 1) 0) where
  pub walk-next : chain (suc k) next h ≡ (h - 1) ∷ chain (suc k) next h'
  walk-next = chain_next k next h p w.ended ∙ ap (λ (j : ℕ). (h - 1) ∷ chain (suc k) next j) (sym e)

  walk_each : Each (λ j. j < k) ((h - 1) ∷ chain (suc k) next h')
  walk_each = subst (λ (c : List ℕ). Each (λ j. j < k) c) walk-next w.inside

  pub walk_less : length (chain (suc k) next h') < length (chain (suc k) next h)
  walk_less = let e : length (chain (suc k) next h) ≡ suc (length (chain (suc k) next h')) = ap length walk-next in omega arith

  pub walk-on : Walk k next h'
  walk-on = record { ended = omega (arith, walk_less, w.ended); inside = walk_each.1 }

pub walk_inside : (k : ℕ) (next : List ℕ) (h : ℕ) → Walk k next h → 0 < h → h - 1 < k
walk_inside k next h w p = (walk_each k next h w p (get_or next (h - 1) 0) refl).0

-- ---- the chain of a bucket, where the index has k numbers below k
module _ (slot : Row → ℕ) (rs : List Row) (ns heads next : List ℕ) (x : Index slot rs ns heads next) (k : ℕ) (many : length ns ≡ k) (below : Each (λ j. j < k) ns) (b : ℕ) (l : b < 4096) (h : ℕ) (e : h ≡ get_or heads b 0) where
  bucket-chain : chain (suc k) next h ≡ in_bucket slot rs b ns
  bucket-chain = ap₂ (λ (n j : ℕ). chain (suc n) next j) (sym many) e ∙ x.bucket b l

  walk_start : Walk k next h
  walk_start =
      let q : ℕ → Bool = λ j. eqb (slot (nth rs j)) b in
      record {
        ended = subst (λ (c : List ℕ). length c ≤ k) (sym bucket-chain) (subst (λ (n : ℕ). length (filter q ns) ≤ n) many (filter-length q ns));
        inside = subst (λ (c : List ℕ). Each (λ j. j < k) c) (sym bucket-chain) (each-filter (λ j. j < k) q ns below);
      }

  -- a test that only rows of the bucket pass
  module _ (p : Row → Bool) (only : (q : Row) → p q ≡ true → slot q ≡ b) where
    in-bucket : (i : ℕ) → p (nth rs i) ≡ true → eqb (slot (nth rs i)) b ≡ true
    in-bucket i t = eq-eqb (slot (nth rs i)) b (only (nth rs i) t)

    pub chain-filter : filter (λ i. p (nth rs i)) (chain (suc k) next h) ≡ filter (λ i. p (nth rs i)) ns
    chain-filter = ap (filter (λ i. p (nth rs i))) bucket-chain ∙ bucket-filter (λ i. p (nth rs i)) (λ i. eqb (slot (nth rs i)) b) in-bucket ns

    chain-any : any (λ i. p (nth rs i)) (chain (suc k) next h) ≡ any (λ i. p (nth rs i)) ns
    chain-any = ap (any (λ i. p (nth rs i))) bucket-chain ∙ bucket-any (λ i. p (nth rs i)) (λ i. eqb (slot (nth rs i)) b) in-bucket ns

-- ---- an index of all rows in their order: the rows that pass a test, which only rows of the bucket pass, are those on its chain that pass it
module _ (slot : Row → ℕ) (rs : List Row) (k : ℕ) (many : length rs ≡ k) (heads next : List ℕ) (x : Index slot rs (upward k 0) heads next) (b : ℕ) (l : b < 4096) (h : ℕ) (e : h ≡ get_or heads b 0) where
  below : Each (λ j. j < k) (upward k 0)
  below = each-upward (λ j. j < k) k 0 (λ j g l. omega arith)

  pub found_walk : Walk k next h
  found_walk = walk_start slot rs (upward k 0) heads next x k (upward-length k 0) below b l h e

  module _ (p : Row → Bool) (only : (q : Row) → p q ≡ true → slot q ≡ b) where
    pub found : filter p rs ≡ map (nth rs) (filter (λ i. p (nth rs i)) (chain (suc k) next h))
    found =
        filter-nth p rs
        ∙ ap (λ (n : ℕ). map (nth rs) (filter (λ i. p (nth rs i)) (upward n 0))) many
        ∙ ap (map (nth rs)) (sym (chain-filter slot rs (upward k 0) heads next x k (upward-length k 0) below b l h e p only))

    pub found-count : length (filter p rs) ≡ length (filter (λ i. p (nth rs i)) (chain (suc k) next h))
    found-count = ap length found ∙ length-map (filter (λ i. p (nth rs i)) (chain (suc k) next h)) (nth rs)

    pub found-any : any p rs ≡ any (λ i. p (nth rs i)) (chain (suc k) next h)
    found-any = any-count p rs ∙ ap (ltb 0) found-count ∙ sym (any-count (λ i. p (nth rs i)) (chain (suc k) next h))

-- the same for an index whose numbers run downward: only whether some row passes
module _ (slot : Row → ℕ) (rs : List Row) (k : ℕ) (many : length rs ≡ k) (heads next : List ℕ) (x : Index slot rs (downward k) heads next) (b : ℕ) (l : b < 4096) (h : ℕ) (e : h ≡ get_or heads b 0) where
  fewer : Each (λ j. j < k) (downward k)
  fewer = each-downward (λ j. j < k) k (λ j g. g)

  pub kept_walk : Walk k next h
  kept_walk = walk_start slot rs (downward k) heads next x k (downward-length k) fewer b l h e

  pub kept_any : (p : Row → Bool) → ((q : Row) → p q ≡ true → slot q ≡ b) → any p rs ≡ any (λ i. p (nth rs i)) (chain (suc k) next h)
  kept_any p only =
      any-count p rs ∙ ap (λ (r : List Row). ltb 0 (length r)) (filter-nth p rs)
      ∙ ap (ltb 0) (length-map (filter (λ i. p (nth rs i)) (upward (length rs) 0)) (nth rs))
      ∙ sym (any-count (λ i. p (nth rs i)) (upward (length rs) 0))
      ∙ ap (λ (n : ℕ). any (λ i. p (nth rs i)) (upward n 0)) many
      ∙ sym (any-downward (λ i. p (nth rs i)) k)
      ∙ sym (chain-any slot rs (downward k) heads next x k (downward-length k) fewer b l h e p only)

-- ---- building: rows are put in from the last to the first
pub build_start : (slot : Row → ℕ) (rs : List Row) (k : ℕ) (heads next : List ℕ) → heads ≡ replicate 4096 0 → Index slot rs (upward (k - k) k) heads next
build_start slot rs k heads next e =
    let z : 0 ≡ k - k = omega arith in
    rw (← z, e) (index-none slot rs 4096 next (omega arith))

pub build_turn : (place w k : ℕ) (rows heads next heads' next' : List ℕ) (i b : ℕ) → 0 < i → i ≤ k → place < w → b ≡ bucket_of (get_or rows ((i - 1) * w + place) 0) → b < length heads → k ≤ length next → heads' ≡ set heads b (i - 1 + 1) → next' ≡ set next (i - 1) (get_or heads b 0) → Index (slot_of place) (chunk k w rows) (upward (k - i) i) heads next → Index (slot_of place) (chunk k w rows) (upward (k - (i - 1)) (i - 1)) heads' next'
build_turn place w k rows heads next heads' next' i b pos le inside at lh ln eh en x =
    let rs : List Row = chunk k w rows in
    let n : k - (i - 1) ≡ suc (k - i) = omega arith in
    let m : suc (i - 1) ≡ i = omega arith in
    let v : i - 1 + 1 ≡ suc (i - 1) = omega arith in
    let slot : b ≡ slot_of place (nth rs (i - 1)) = at ∙ ap bucket_of (sym (cell-nth k w rows (i - 1) place (omega arith) inside)) in
    let fresh : Each (λ j. j ≡ i - 1 → ⊥) (upward (k - i) i) = each-upward (λ j. j ≡ i - 1 → ⊥) (k - i) i (λ j l g e. omega arith) in
    let more : Index (slot_of place) rs ((i - 1) ∷ upward (k - i) i) (set heads b (suc (i - 1))) (set next (i - 1) (get_or heads b 0)) =
    index-put (slot_of place) rs (upward (k - i) i) heads next x (i - 1) b slot fresh lh (omega arith) in
    let numbers : upward (k - (i - 1)) (i - 1) ≡ (i - 1) ∷ upward (k - i) i =
    ap (λ (c : ℕ). upward c (i - 1)) n ∙ ap (λ (c : ℕ). (i - 1) ∷ upward (k - i) c) m in
    rw (numbers, eh, en, v) more
