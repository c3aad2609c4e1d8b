-- What can be evaluated: the children of a tree that is sound are sound, and its rows fit. Assumes nothing.
use Prim.Native.Nat.{◌≤◌}
use mathlib.Core.Bool.{true}
use mathlib.Core.Path.{◌≡◌}
use native.Mathlib.Nat.{mul-le-mul}
use borrow.Author.Tests.{leb-true}
use Rattle.algebra.specs.Lists.{all}
use Rattle.algebra.specs.Plans.{Tables, Unary, Binary, Plan, one, two, nested, columns}
use Rattle.algebra.specs.Names.{unary_new, binary_new, introduced}
use Rattle.algebra.specs.Refusals.{byte, inner_scope, narrow, low, bound, width, part}
use Rattle.algebra.proofs.Lists.{all_append}
use Rattle.algebra.proofs.Refusals.{all-root, all_child, all_left, all_right, in_view_one, in_view_two}
use Rattle.algebra.proofs.Needs.{extent, rows-within}
use Rattle.reporting.specs.Evaluation.{Sound}

module _ {T : Tables} where
  -- ---- the children
  pub sound_child : {u : Unary} {p : Plan} → Sound T (one u p) → Sound T p
  unfolding introduced
  sound_child {u} {p} s = record {
    narrow_all = all_child (narrow T) u p s.narrow_all;
    low_all = all_child (low T) u p s.low_all;
    small = (all_append byte (unary_new u) (introduced T p) s.small).1;
    scope = s.scope;
    in_view_all = (in_view_one T s.scope u p s.in_view_all).1;
  }

  small-both : {b : Binary} {e f : Plan} → Sound T (two b e f) → (all byte (introduced T e) ≡ true) × (all byte (introduced T f) ≡ true)
  unfolding introduced
  small-both {b} {e} {f} s = all_append byte (introduced T e) (introduced T f) (all_append byte (binary_new b) _ s.small).1

  pub sound-left : {b : Binary} {e f : Plan} → Sound T (two b e f) → Sound T e
  sound-left {b} {e} {f} s = record {
    narrow_all = all_left (narrow T) b e f s.narrow_all;
    low_all = all_left (low T) b e f s.low_all;
    small = (small-both s).0;
    scope = s.scope;
    in_view_all = (in_view_two T s.scope b e f s.in_view_all).1;
  }

  pub sound-right : {b : Binary} {e f : Plan} → Sound T (two b e f) → Sound T f
  sound-right {b} {e} {f} s = record {
    narrow_all = all_right (narrow T) b e f s.narrow_all;
    low_all = all_right (low T) b e f s.low_all;
    small = (small-both s).1;
    scope = inner_scope (nested b) (columns T e) s.scope;
    in_view_all = (in_view_two T s.scope b e f s.in_view_all).2;
  }

  -- ---- the rows
  module _ {p : Plan} (s : Sound T p) where
    pub sound-narrow : narrow T p ≡ true
    sound-narrow = all-root (narrow T) p s.narrow_all

    pub sound-low : low T p ≡ true
    sound-low = all-root (low T) p s.low_all

    pub sound-width : width T p ≤ 32
    sound-width = leb-true (width T p) 32 sound-narrow

    pub sound-bound : bound T p ≤ 4096
    sound-bound = leb-true (bound T p) 4096 sound-low

    pub extent-fits : extent T p ≤ 131072
    extent-fits = mul-le-mul sound-bound sound-width

    -- they lie in the tree's part
    pub sound-within : extent T p ≤ part T p
    sound-within = rows-within T s.scope p s.in_view_all
