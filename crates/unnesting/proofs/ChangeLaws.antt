-- The front of a list in which bytes are written, and the bytes of a change. Assumes nothing.
use Prim.Native.Nat.{ℕ, ◌+◌, ◌≤◌}
use native.Mathlib.Omega.{arith}
use mathlib.Core.Path.{◌≡◌, refl, sym, ap, ◌∙◌}
use mathlib.Core.List.{List, [], ◌∷◌, ◌++◌, append_assoc}
use lib.ListN.{length, take, drop, set, length-append}
use lib.Seq.{length-take-le, take_at, take-suc-set}
use Rattle.reading.specs.Plan.{nodes_of, plan_mark}
use Rattle.reading.specs.declared.version.Version.TheVariants.{Second}
use Rattle.unnesting.specs.Images.{image, bytes_written}
use Rattle.unnesting.specs.Shapes.{node_slice, more_bytes, changed_bytes, changed_count}
use Rattle.unnesting.specs.declared.change.Change.{Change}

-- up to the end of what was written: the front before it, then it
pub written-front : (out : List ℕ) (at : ℕ) (bytes : List ℕ) (r : ℕ) → at + length bytes ≤ length out → r ≡ at + length bytes
    → take r (bytes_written out at bytes) ≡ take at out ++ bytes
written-front out at bytes r fits e =
    let rest = drop (at + length bytes) out in
    let long : length (take at out ++ bytes) ≡ r = length-append (take at out) bytes ∙ omega (arith, length-take-le at out (omega arith)) in
    ap (take r) (sym (append_assoc (take at out) bytes rest)) ∙ take_at (take at out ++ bytes) rest r long

-- the header: the mark, and the count behind it
pub header-front : (out l : List ℕ) (count : ℕ) → 6 ≤ length out → length l ≡ length out → l ≡ bytes_written out 0 (plan_mark Second)
    → take 6 (set l 5 count) ≡ plan_mark Second ++ (count ∷ [])
header-front out l count h k e =
    take-suc-set l 5 count (omega arith)
    ∙ ap (λ (s : List ℕ). s ++ (count ∷ [])) (ap (take 5) e ∙ written-front out 0 (plan_mark Second) 5 (omega arith) refl)

-- ---- the plan after a change, from its fronts: the header, and after each of the five steps

grown : (h a b c d e : List ℕ) → ((((h ++ a) ++ b) ++ c) ++ d) ++ e ≡ h ++ (a ++ (b ++ (c ++ (d ++ e))))
grown h a b c d e = simp append_assoc

module _ (plan : List ℕ) (i : ℕ) (change : Change) (n count : ℕ) (m : n ≡ nodes_of plan) (k : count ≡ changed_count plan i change) where
  pub changed : {t₀ t₁ t₂ t₃ t₄ t₅ : List ℕ} → t₀ ≡ plan_mark Second ++ (count ∷ []) → t₁ ≡ t₀ ++ node_slice plan 0 i → t₂ ≡ t₁ ++ image change.first
      → t₃ ≡ t₂ ++ node_slice plan (i + 1) change.keep → t₄ ≡ t₃ ++ more_bytes change.more → t₅ ≡ t₄ ++ node_slice plan change.from n
      → t₅ ≡ plan_mark Second ++ (changed_count plan i change ∷ changed_bytes plan i change)
  changed e₀ e₁ e₂ e₃ e₄ e₅ =
      rw (e₅, e₄, e₃, e₂, e₁, e₀, m, k)
      (grown (plan_mark Second ++ (changed_count plan i change ∷ [])) (node_slice plan 0 i) (image change.first) (node_slice plan (i + 1) change.keep) (more_bytes change.more) (node_slice plan change.from (nodes_of plan)))
