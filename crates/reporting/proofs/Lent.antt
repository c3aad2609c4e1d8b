-- Parts of a list to its end: as they are lent, and as they are back. Assumes nothing.
use mathlib.Core.Path.{◌≡◌, sym, ap, ◌∙◌}
use mathlib.Core.List.{List, [], ◌++◌, append-nil}
use Prim.Native.Nat.{ℕ, ◌+◌, ◌*◌, ◌-◌, ◌≤◌}
use native.Mathlib.Omega.{arith}
use lib.ListN.{length, take, drop, length-drop, drop_of_length-le}
use lib.Seq.{take_all, take_at, drop-drop, drop_at, length-take-le, take-append-le}
use borrow.Rule.Slice.PartMut.{put_mid, post_of, take_put, drop_put}
use Rattle.reporting.specs.Rows.{chunk}
use Rattle.reporting.specs.Written.{Written}
use Rattle.reporting.proofs.Chunks.{chunk-same}

pub tail_part : {A : Type 0} (b : ℕ) (xs : List A) → take (length xs - b) (drop b xs) ≡ drop b xs
tail_part b xs = take_all (length xs - b) (drop b xs) (rw length-drop (omega arith))

pub drop-from : (a b : ℕ) (xs : List ℕ) → a ≤ b → drop (b - a) (drop a xs) ≡ drop b xs
drop-from a b xs h = let e : a + (b - a) ≡ b = omega arith in drop-drop (b - a) a xs ∙ ap (λ (k : ℕ). drop k xs) e

pub drop-beyond : (a b : ℕ) (xs ys : List ℕ) → a ≤ b → drop a xs ≡ drop a ys → drop b xs ≡ drop b ys
drop-beyond a b xs ys h e = sym (drop-from a b xs h) ∙ ap (drop (b - a)) e ∙ drop-from a b ys h

-- a part to the end that was lent and is back
pub lent_back : {A : Type 0} (k : ℕ) (cells ys : List A) → put_mid k (length cells - k) cells ys ≡ take k cells ++ ys
lent_back {A} k cells ys =
    let long : length (drop k cells) ≡ length cells - k = length-drop k cells in
    let none : post_of k (length cells - k) cells ≡ [] = drop_of_length-le (drop k cells) {i = length cells - k} (omega arith) in
    ap (λ (l : List A). take k cells ++ (ys ++ l)) none ∙ ap (λ (l : List A). take k cells ++ l) (append-nil ys)

pub lent_tail : (k : ℕ) (cells ys : List ℕ) → k ≤ length cells → drop k (put_mid k (length cells - k) cells ys) ≡ ys
lent_tail k cells ys h = ap (drop k) (lent_back k cells ys) ∙ drop_at (take k cells) ys k (length-take-le k cells h)

-- the rows at the front of a part that is back
pub lent_rows : (k j : ℕ) (cells ys : List ℕ) (m w : ℕ) → k ≤ length cells → m * w ≤ length ys → chunk m w (drop k (put_mid k j cells ys)) ≡ chunk m w ys
lent_rows k j cells ys m w h f =
    ap (chunk m w) (drop_at (take k cells) (ys ++ post_of k j cells) k (length-take-le k cells h))
    ∙ chunk-same m w (ys ++ post_of k j cells) ys (take-append-le (m * w) ys (post_of k j cells) f)

pub tail_length : (k : ℕ) (cells : List ℕ) → length (take (length cells - k) (drop k cells)) ≡ length cells - k
tail_length k cells = length-take-le (length cells - k) (drop k cells) (rw length-drop (omega arith))

-- a row written over a part that was lent and is back
pub written_back : (at n : ℕ) (cells row ys : List ℕ) → at + n ≤ length cells → length row ≡ n → ys ≡ row → Written at n row cells (put_mid at (at + n - at) cells ys)
written_back at n cells row ys h long e =
    let all : length ys ≡ n = ap length e ∙ long in record {
      before = take_put at (at + n - at) cells ys (omega arith);
      here =
          ap (take n) (drop_at (take at cells) (ys ++ post_of at (at + n - at) cells) at (length-take-le at cells (omega arith)))
          ∙ take_at ys (post_of at (at + n - at) cells) n all
          ∙ e;
      behind = drop_put at (at + n) cells ys (omega arith) h (omega arith);
    }
