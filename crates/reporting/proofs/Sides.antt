-- Columns that were found say of the cells what the node says of the environment. Assumes nothing.
use Rattle.std.specs.Coded.{×_prop, Unit-prop, le_prop}
use mathlib.Core.Logic.{∥∥₁_elim}
use Rattle.std.specs.Prelude.{if◌then◌else◌, Option, Some, None}
use mathlib.Core.Path.{◌≡◌, refl, sym, ap, ◌∙◌, subst}
use mathlib.Core.Bool.{Bool, true, false, not, ◌&&◌, ◌||◌, false≢true, and-eq-true_iff}
use mathlib.Core.List.{List, map}
use Prim.Native.Nat.{ℕ, ◌≤◌, ◌<◌}
use native.Mathlib.Omega.{arith}
use lib.Dec.{eqb}
use lib.ListN.{length, take, get_or}
use lib.Seq.{get_or-take}
use borrow.Author.Tests.{eqb-true, eq-eqb, ne_eqb, lt-ltb, le-ltb}
use Rattle.algebra.specs.Lists.{flip, filter, member}
use Rattle.algebra.specs.Cells.{is_number, one_blank, eq, compares, aggregate, aggregate_within}
use Rattle.algebra.specs.Plans.{Row, Env, bind, test, truth, holds, gather_within}
use Rattle.algebra.proofs.Cells.{eqb-sym}
use Rattle.reading.specs.Tree.{aggregate_by, comparison_of, form_of, node_test, operator_of}
use Rattle.reading.specs.declared.comparison.Comparison.{Comparison}
use Rattle.reading.specs.declared.comparison.Comparison.TheVariants.{Equal as SameCells}
use Rattle.reading.specs.declared.plan.Node.{Node}
use Rattle.reading.specs.declared.plan.Test.{Test}
use Rattle.reading.specs.declared.plan.Test.TheVariants.{Always, Columns, Number}
use Rattle.reporting.specs.Index.{bucket_of, slot_of}
use Rattle.reporting.specs.Keys.{has_test, has_keys, key_comparison, keys_hold}
use Rattle.reporting.specs.Positions.{place_of}
use Rattle.reporting.specs.Rows.{passing, gathered}
use Rattle.reporting.specs.Sides.{side_cell, SideInside, SideFor, in_both, compared_holds, condition_holds, ComparedInside, ConditionInside, ConditionFor, side_places, Equals, PlacesFor, FoundInside, meets, found_cells, found_cell, FoundFor, FoundSomewhere}
use Rattle.reading.specs.declared.plan.AggregateKind.{AggregateKind}
use Rattle.reading.specs.declared.plan.AggregateKind.TheVariants.{Count, Sum, Least, Greatest}
use Rattle.reporting.specs.declared.side.Side.{Side}
use Rattle.reporting.specs.declared.side.Side.TheVariants.{Left, Right, Word}
use Rattle.reporting.specs.declared.side.Compared.{Compared}
use Rattle.reporting.specs.declared.side.Condition.{Condition}
use Rattle.reporting.specs.declared.side.Found.{Found}
use Rattle.reporting.proofs.Alike.{member-place}
use Rattle.reporting.proofs.Envs.{bind-own, bind-other}
use Rattle.reporting.proofs.Passing.{passing_of}

-- ---- in wider rows
pub side_wider : (s : Side) (w v w' v' : ℕ) → SideInside s w v → w ≤ w' → v ≤ v' → SideInside s w' v'
side_wider (Left place) w v w' v' p h g = omega arith
side_wider (Right place) w v w' v' p h g = omega arith
side_wider (Word word) w v w' v' p h g = tt

pub condition_wider : (c : Condition) (w v w' v' : ℕ) → ConditionInside c w v → w ≤ w' → v ≤ v' → ConditionInside c w' v'
condition_wider c w v w' v' p h g = record { compared = go c.compared p.compared }
  where
    go : (k : Option Compared) → ComparedInside k w v → ComparedInside k w' v'
    go None p = tt
    go (Some k) p = (side_wider k.left w v w' v' p.0 h g, side_wider k.right w v w' v' p.1 h g)

pub found_wider : (f : Found) (w v w' v' : ℕ) → FoundInside f w v → w ≤ w' → v ≤ v' → FoundInside f w' v'
found_wider f w v w' v' p h g =
    record {
      keys = condition_wider f.keys w v w' v' p.keys h g;
      test = condition_wider f.test w v w' v' p.test h g;
      measured = side_wider f.measured w v w' v' p.measured h g;
    }

-- ---- that places lie inside has one proof, and so it follows where the columns were found in some environment
side-prop : (s : Side) (w v : ℕ) → IsProp (SideInside s w v)
side-prop (Left place) w v = le_prop
side-prop (Right place) w v = le_prop
side-prop (Word word) w v = Unit-prop

compared-prop : (k : Option Compared) (w v : ℕ) → IsProp (ComparedInside k w v)
compared-prop None w v = Unit-prop
compared-prop (Some k) w v = ×_prop (side-prop k.left w v) (side-prop k.right w v)

condition-prop : (c : Condition) (w v : ℕ) → IsProp (ConditionInside c w v)
condition-prop c w v = λ p q i. record { compared = compared-prop c.compared w v p.compared q.compared i }

found-prop : (f : Found) (w v : ℕ) → IsProp (FoundInside f w v)
found-prop f w v = λ p q i.
    record {
      keys = condition-prop f.keys w v p.keys q.keys i;
      test = condition-prop f.test w v p.test q.test i;
      measured = side-prop f.measured w v p.measured q.measured i;
    }

pub somewhere_inside : {node : Node} {cs ds : List ℕ} {f : Found} → ∥ FoundSomewhere node cs ds f ∥₁ → FoundInside f (length cs) (length ds)
somewhere_inside {node} {cs} {ds} {f} t = ∥∥₁_elim t (found-prop f (length cs) (length ds)) (λ s. s.found.inside)

-- ---- only the front of a row is read
module _ (w v : ℕ) (l r : Row) where
  pub side_left : (s : Side) → SideInside s w v → side_cell s (take w l) r ≡ side_cell s l r
  side_left (Left place) p = get_or-take w l place 0 p
  side_left (Right place) p = refl
  side_left (Word word) p = refl

  pub side_right : (s : Side) → SideInside s w v → side_cell s l (take v r) ≡ side_cell s l r
  side_right (Left place) p = refl
  side_right (Right place) p = get_or-take v r place 0 p
  side_right (Word word) p = refl

  pub condition_left : (c : Condition) → ConditionInside c w v → condition_holds c (take w l) r ≡ condition_holds c l r
  unfolding condition_holds
  condition_left c p = ap (flip c.negated) (go c.compared p.compared)
    where
      go : (k : Option Compared) → ComparedInside k w v → compared_holds k (take w l) r ≡ compared_holds k l r
      go None p = refl
      go (Some k) p = λ i. compares (comparison_of k.comparison) (side_left k.left p.0 i) (side_left k.right p.1 i)

  pub condition_right : (c : Condition) → ConditionInside c w v → condition_holds c l (take v r) ≡ condition_holds c l r
  unfolding condition_holds
  condition_right c p = ap (flip c.negated) (go c.compared p.compared)
    where
      go : (k : Option Compared) → ComparedInside k w v → compared_holds k l (take v r) ≡ compared_holds k l r
      go None p = refl
      go (Some k) p = λ i. compares (comparison_of k.comparison) (side_right k.left p.0 i) (side_right k.right p.1 i)

  pub meets-left : (f : Found) → FoundInside f w v → meets f (take w l) r ≡ meets f l r
  meets-left f p = λ i. condition_left f.keys p.keys i && condition_left f.test p.test i

  pub meets-right : (f : Found) → FoundInside f w v → meets f l (take v r) ≡ meets f l r
  meets-right f p = λ i. condition_right f.keys p.keys i && condition_right f.test p.test i

pub found-cells-left : (f : Found) (w v : ℕ) (l : Row) (rs : List Row) → FoundInside f w v → found_cells f (take w l) rs ≡ found_cells f l rs
unfolding found_cells
found-cells-left f w v l rs p = λ i. map (λ r. side_left w v l r f.measured p.measured i) (filter (λ r. meets-left w v l r f p i) rs)

-- ---- the side of a column
module _ (x : ℕ) (cs : List ℕ) where
  is_member : place_of x cs < length cs → member x cs ≡ true
  is_member h = member-place x cs ∙ lt-ltb (place_of x cs) (length cs) h

  no_member : length cs ≤ place_of x cs → member x cs ≡ false
  no_member h = member-place x cs ∙ le-ltb (place_of x cs) (length cs) h

module _ (cs ds : List ℕ) (env : Env) (id : ℕ) where
  pub in_right_lem : (place : ℕ) → place ≡ place_of id ds → place < length ds → SideFor cs ds env id (Right place)
  in_right_lem place e h =
      record {
        cell = λ l r. ap (λ (p : ℕ). get_or r p 0) e ∙ sym (bind-own (bind cs l env) id ds r (is_member id ds (omega arith)));
        inside = h;
      }

  pub in_left_lem : (place : ℕ) → length ds ≤ place_of id ds → place ≡ place_of id cs → place < length cs → SideFor cs ds env id (Left place)
  in_left_lem place o e h =
      record {
        cell = λ l r. ap (λ (p : ℕ). get_or l p 0) e ∙ sym (bind-own env id cs l (is_member id cs (omega arith))) ∙ sym (bind-other (bind cs l env) id ds r (no_member id ds o));
        inside = h;
      }

  pub in_neither : (word : ℕ) → length ds ≤ place_of id ds → length cs ≤ place_of id cs → word ≡ env id → SideFor cs ds env id (Word word)
  in_neither word o p e =
      record {
        cell = λ l r. e ∙ sym (bind-other env id cs l (no_member id cs p)) ∙ sym (bind-other (bind cs l env) id ds r (no_member id ds o));
        inside = tt;
      }

-- ---- the condition of a test
module _ (cs ds : List ℕ) (env : Env) (negated : Bool) (form : Test) where
  -- a form is known: the truth of it is that of the test
  known : (f : Test) (e : Env) → form ≡ f → holds (test negated (form_of f)) e ≡ holds (test negated (form_of form)) e
  known f e h = ap (λ (g : Test). holds (test negated (form_of g)) e) (sym h)

  pub always-found : form ≡ Always
      → ConditionFor cs ds env (holds (test negated (form_of form))) (record { compared = None; negated = negated })
  unfolding condition_holds truth
  always-found h = record { same = λ l r. known Always (in_both cs ds env l r) h; inside = record { compared = tt } }

  pub columns-found : (k : Comparison) (x y : ℕ) (s t : Side) → form ≡ Columns k x y → SideFor cs ds env x s → SideFor cs ds env y t
      → ConditionFor cs ds env (holds (test negated (form_of form))) (record { compared = Some (record { comparison = k; left = s; right = t }); negated = negated })
  unfolding condition_holds truth
  columns-found k x y s t h p q =
      record {
        same = λ l r. (λ i. flip negated (compares (comparison_of k) (p.cell l r i) (q.cell l r i))) ∙ known (Columns k x y) (in_both cs ds env l r) h;
        inside = record { compared = (p.inside, q.inside) };
      }

  pub number-found : (k : Comparison) (x word : ℕ) (s : Side) → form ≡ Number k x word → SideFor cs ds env x s
      → ConditionFor cs ds env (holds (test negated (form_of form))) (record { compared = Some (record { comparison = k; left = s; right = Word word }); negated = negated })
  unfolding condition_holds truth
  number-found k x word s h p =
      record {
        same = λ l r. (λ i. flip negated (compares (comparison_of k) (p.cell l r i) word)) ∙ known (Number k x word) (in_both cs ds env l r) h;
        inside = record { compared = (p.inside, tt) };
      }

-- ---- the condition of keys
module _ (cs ds : List ℕ) (env : Env) (node : Node) where
  pub no_keys : has_keys node.kind ≡ false → ConditionFor cs ds env (keys_hold node.kind node) (record { compared = None; negated = false })
  unfolding condition_holds keys_hold
  no_keys h = record { same = λ l r. rw h; inside = record { compared = tt } }

  pub keys_found : (k : Comparison) (s t : Side) → has_keys node.kind ≡ true → comparison_of k ≡ key_comparison node.kind node.comparison
      → SideFor cs ds env node.left s → SideFor cs ds env node.right t
      → ConditionFor cs ds env (keys_hold node.kind node) (record { compared = Some (record { comparison = k; left = s; right = t }); negated = false })
  unfolding condition_holds keys_hold
  keys_found k s t h e p q =
      record {
        same = λ l r. rw h (λ i. compares (e i) (p.cell l r i) (q.cell l r i));
        inside = record { compared = (p.inside, q.inside) };
      }

-- keys that are compared by =, by their sides
module _ (c : Condition) (k : Compared) (negated : c.negated ≡ false) (compared : c.compared ≡ Some k) (is : k.comparison ≡ SameCells) where
  places_for : (s t : Side) → k.left ≡ s → k.right ≡ t → PlacesFor c (side_places s t)
  unfolding condition_holds
  places_for (Left place) (Left other) x y = tt
  places_for (Left place) (Right other) x y =
      record {
        same = λ l r. ap (λ (o : Option Compared). flip c.negated (compared_holds o l r)) compared ∙ (λ i. flip (negated i) (compares (comparison_of (is i)) (side_cell (x i) l r) (side_cell (y i) l r)));
        inside = λ w v p.
            let q = subst (λ (o : Option Compared). ComparedInside o w v) compared p.compared in
            (subst (λ (s : Side). SideInside s w v) x q.0, subst (λ (s : Side). SideInside s w v) y q.1);
      }
  places_for (Left place) (Word word) x y = tt
  places_for (Right place) t x y = tt
  places_for (Word word) t x y = tt

  pub equal_places : PlacesFor c (side_places k.left k.right)
  equal_places = places_for k.left k.right refl refl

-- ---- what is found is what the node says

-- an aggregate of cells does not read its column
pub aggregate-cells : (kind : AggregateKind) (c d : ℕ) (xs : List ℕ) → aggregate (aggregate_by kind c) xs ≡ aggregate (aggregate_by kind d) xs
unfolding aggregate_within
aggregate-cells Count c d xs = refl
aggregate-cells Sum c d xs = refl
aggregate-cells Least c d xs = refl
aggregate-cells Greatest c d xs = refl

module _ (node : Node) (cs ds : List ℕ) (env : Env) (f : Found) (found : FoundFor node cs ds env f) (tested : has_test node.kind ≡ true) where
  pub found-passing : (l r : Row) → meets f l r ≡ passing (operator_of node) (in_both cs ds env l r)
  found-passing l r =
      let e : Env = in_both cs ds env l r in
      (λ i. found.keys l r i && found.test l r i)
      ∙ ap (λ (b : Bool). not b || (keys_hold node.kind node e && holds (node_test node) e)) (sym tested)
      ∙ sym (passing_of node e)

  pub found-gathered : (l : Row) (rs : List Row) → found_cell f l rs ≡ gathered (operator_of node) ds (bind cs l env) rs
  unfolding found_cells gather_within
  found-gathered l rs =
      aggregate-cells f.aggregate 0 node.column (found_cells f l rs)
      ∙ (λ i. aggregate (found.aggregate i) (map (λ r. found.measured l r i) (filter (λ r. found-passing l r i) rs)))

-- ---- keys that are compared by =
and-false : (b : Bool) → (b && false) ≡ false
and-false true = refl
and-false false = refl

pub equal_number : (key x : ℕ) → is_number key ≡ true → compares eq key x ≡ eqb x key
unfolding compares
equal_number key x h = go (is_number x) refl
  where
    go : (b : Bool) → is_number x ≡ b → compares eq key x ≡ eqb x key
    go true e = (λ i. if h i && e i then eqb key x else (one_blank key x && false)) ∙ eqb-sym key x
    go false e =
        (λ i. if h i && e i then eqb key x else (one_blank key x && false))
        ∙ and-false (one_blank key x)
        ∙ sym (ne_eqb x key (λ q. false≢true (sym e ∙ ap is_number q ∙ h)))

pub equal_none : (key x : ℕ) → is_number key ≡ false → compares eq key x ≡ false
unfolding compares
equal_none key x h = (λ i. if h i && is_number x then eqb key x else (one_blank key x && false)) ∙ and-false (one_blank key x)

-- equal keys are the same cell
equal-same : (key x : ℕ) → compares eq key x ≡ true → x ≡ key
equal-same key x h = go (is_number key) refl
  where
    go : (b : Bool) → is_number key ≡ b → x ≡ key
    go true e = eqb-true x key (sym (equal_number key x e) ∙ h)
    go false e = absurd (false≢true (sym (equal_none key x e) ∙ h))

module _ (f : Found) (left right : ℕ) (keys : Equals left right f.keys) (l : Row) where
  -- the right rows that are met stand in the bucket of the left key
  pub meets_slot : (q : Row) → meets f l q ≡ true → slot_of right q ≡ bucket_of (get_or l left 0)
  meets_slot q h =
      let equal : condition_holds f.keys l q ≡ true = ((and-eq-true_iff (condition_holds f.keys l q) (condition_holds f.test l q)).0 h).0 in
      ap bucket_of (equal-same (get_or l left 0) (get_or q right 0) (sym (keys.same l q) ∙ equal))

  -- where the key is a number, a row with another key is not met, and one with the same key is met where the test holds
  module _ (q : Row) (number : is_number (get_or l left 0) ≡ true) where
    pub meets-other : (get_or q right 0 ≡ get_or l left 0 → ⊥) → meets f l q ≡ false
    meets-other e =
        ap (λ (b : Bool). b && condition_holds f.test l q)
        (keys.same l q ∙ equal_number (get_or l left 0) (get_or q right 0) number ∙ ne_eqb (get_or q right 0) (get_or l left 0) e)

    pub meets-same : get_or q right 0 ≡ get_or l left 0 → meets f l q ≡ condition_holds f.test l q
    meets-same e =
        ap (λ (b : Bool). b && condition_holds f.test l q)
        (keys.same l q ∙ equal_number (get_or l left 0) (get_or q right 0) number ∙ eq-eqb (get_or q right 0) (get_or l left 0) e)

  -- a key that is no number meets none
  pub meets-none : is_number (get_or l left 0) ≡ false → (q : Row) → meets f l q ≡ false
  meets-none h q = ap (λ (b : Bool). b && condition_holds f.test l q) (keys.same l q ∙ equal_none (get_or l left 0) (get_or q right 0) h)
