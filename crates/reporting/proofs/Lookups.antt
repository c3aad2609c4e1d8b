-- Right rows that are as they were can be looked up as before. Assumes nothing.
use mathlib.Core.Path.{◌≡◌, subst}
use mathlib.Core.List.{List}
use Prim.Native.Nat.{ℕ}
use lib.ListN.{length, drop}
use Rattle.reporting.specs.Asked.{LookupFor}
use Rattle.reporting.specs.Held.{Indexed}
use Rattle.reporting.specs.Index.{Linked}
use Rattle.reporting.specs.Known.{Known}
use Rattle.reporting.specs.Rows.{chunk}
use Rattle.reporting.specs.declared.asked.Asked.{Asked}
use Rattle.reporting.specs.declared.asked.Lookup.{Lookup}
use Rattle.reporting.specs.declared.asked.Lookup.TheVariants.{All, ByKey, Kept}
use Rattle.reporting.specs.declared.index.KeyIndex.{KeyIndex}

module _ (a : Asked) (c d : List ℕ) (same : drop a.right.at c ≡ drop a.right.at d) where
  still-indexed : (x : KeyIndex) → Indexed x a.found a.right c → Indexed x a.found a.right d
  still-indexed x p =
      record {
        equals = p.equals;
        linked = subst (λ (l : List ℕ). Linked x.keys.right a.right.count (chunk a.right.count (length a.right.columns.now) l) x.heads.now x.next.now) same p.linked;
      }

  pub still_looked_up : (x : Lookup) (known : List ℕ) → LookupFor x a c known → LookupFor x a d known
  still_looked_up All known p = tt
  still_looked_up (ByKey x) known p = (p.0, still-indexed x p.1)
  still_looked_up (Kept x) known p = (
    p.0,
    still-indexed x p.1,
    p.2,
    subst (λ (l : List ℕ). Known a.found x.keys.left x.keys.right (chunk a.right.count (length a.right.columns.now) l) known) same p.3,
  )
