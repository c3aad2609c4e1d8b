-- The links of U1, U2 and U5 (docs/DEFINITION.md, "Words of the rules"): a comparison between a column of e and a column of g, where f is
-- a Select over g, or a Project over it. The contracts of helpers speak of these; the links are the algebra's `link_of`. Definitions only.
use Rattle.std.specs.Prelude.{ℕ, ◌+◌, ◌≤◌, ◌<◌, Bool, true, false, ◌&&◌, ◌≡◌, List, Option, Some, None}
use Rattle.algebra.specs.Lists.{member}
use Rattle.algebra.specs.Plans.{Tables, Test, Plan, columns}
use Rattle.algebra.specs.Places.{size}
use Rattle.algebra.specs.Rules.{Top, selected, other, unprojected, unlinked, link, link_of, Link as KeyLink}
use Rattle.reading.specs.Plan.{nodes_of}
use Rattle.reading.specs.Tree.{comparison_of, plan_at}
use Rattle.reading.specs.Flags.{Flags}
use Rattle.reading.specs.declared.kinds.Kind.{Kind}
use Rattle.reading.specs.declared.kinds.Kind.TheVariants.{Every}
use Rattle.reading.specs.declared.comparison.Comparison.{Comparison}
use Rattle.reading.specs.declared.comparison.Comparison.TheVariants.{Equal}
use Rattle.reading.specs.declared.plan.Node.{Node}
use Rattle.unnesting.specs.declared.change.Change.{Change}
use Rattle.unnesting.specs.declared.change.More.TheVariants.{Nothing}
use Rattle.unnesting.specs.declared.join.Link.{Link}

-- the algebra's link of an answer
abbrev pub key_link : Option Link → KeyLink
key_link None = unlinked
key_link (Some l) = link l.left l.right (comparison_of l.comparison)

-- its comparison; where there is no link, =
abbrev pub link_comparison : Option Link → Comparison
link_comparison None = Equal
link_comparison (Some l) = l.comparison

abbrev pub is_every : Kind → Bool
is_every Every = true
is_every kind = false

-- the link between e and the child of a Select; another tree has none
abbrev pub top_link : Tables → Plan → {f : Plan} → Top f → KeyLink
top_link T e (selected s g) = link_of (columns T e) (columns T g) s
top_link T e (other f) = unlinked

-- The flags of two lists decide whether a stands in the first and b in the second.
pub record Stand (first second : List ℕ) (a b : ℕ) (r : Bool) : Type 0 where
  pub decides : (xs ys : List ℕ) → Flags first xs → Flags second ys → r ≡ (member a xs && member b ys)

-- The flags of two lists decide how a test links them.
pub record Links (first second : List ℕ) (t : Test) (r : Option Link) : Type 0 where
  pub decides : (xs ys : List ℕ) → Flags first xs → Flags second ys → key_link r ≡ link_of xs ys t

-- At place s stands the tree at place f without its top Project, if it has one; both end at the same place.
pub record UnprojectedAt (plan : List ℕ) (f s : ℕ) : Type 0 where
  pub tree : plan_at plan s ≡ unprojected (plan_at plan f)
  pub inside : s < nodes_of plan
  pub behind : f ≤ s
  pub end : s + size (plan_at plan s) ≡ f + size (plan_at plan f)

-- A node in the place of another, and the nodes from place f up to the Select at place s taken away.
abbrev pub without_select : Node → ℕ → ℕ → Change
without_select node f s =
    record {
      first = node;
      keep = f;
      more = Nothing;
      from = s + 1;
    }
