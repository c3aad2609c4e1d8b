-- What a tree names from outside itself, node by node, and its flags. Assumes nothing.
use Rattle.std.specs.Prelude.{if◌then◌else◌}
use Prim.Native.Nat.{ℕ, zero, suc, ◌+◌, ◌≤◌, ◌<◌}
use native.Mathlib.Omega.{arith}
use native.Mathlib.Decide.{ℕ_discrete}
use mathlib.Core.Path.{◌≡◌, refl, sym, ap, ap₂, ◌∙◌, subst}
use mathlib.Core.Logic.{◌⊎◌}
use mathlib.Core.Bool.{Bool, true, false, not, ◌&&◌, ◌||◌, and-true, and-false, or-true, and-eq-true_iff, false≢true}
use mathlib.Core.List.{List, [], ◌∷◌, ◌++◌}
use lib.Dec.{eqb}
use lib.ListN.{get_or, replicate, get_or-replicate}
use borrow.Author.Tests.{eq-eqb, ne_eqb, ltb-true}
use Rattle.algebra.specs.Lists.{all, member, minus, is_empty, upward}
use Rattle.algebra.specs.Plans.{Tables, names, Unary, select, project, distinct, group, sort, columns}
use Rattle.algebra.specs.Names.{measured, unary_free, free}
use Rattle.algebra.specs.Refusals.{byte}
use Rattle.reading.specs.Plan.{kind_entry, kind_row, node_at, nodes_of}
use Rattle.reading.specs.Tree.{operator_by, operator_of, operator_at, plan_at}
use Rattle.reading.specs.Flags.{Flags}
use Rattle.reading.specs.Nodes.{arity, operator_nested}
use Rattle.reading.specs.declared.kinds.Kind.{Kind}
use Rattle.reading.specs.declared.kinds.Kind.TheVariants.{Unit, Scan, Select, Project, Distinct, Cross, Semi, Anti, Some, Every, Fold, Each, Pair, Group, Sort, Other}
use Rattle.reading.specs.declared.plan.Node.{Node}
use Rattle.reading.proofs.Operators.{each_kind, one_of, just}
use Rattle.reading.proofs.Ends.{children-at}
use Rattle.reading.proofs.Trees.{plan_case, first_tree, second_tree}
use Rattle.reading.proofs.FlagLaws.{SameMembers, member_append, flag_decides}
use Rattle.reading.specs.Frees.{unary_names, operator_names, operator_free, SetWhere}

-- ---- members

pub member-minus : (k : ℕ) (xs ys : List ℕ) → member k (minus xs ys) ≡ (member k xs && not (member k ys))
member-minus k [] ys = refl
member-minus k (x ∷ xs) ys = by (ℕ_discrete k x) (member x ys) refl (member-minus k xs ys)
  where
    by : Dec (k ≡ x) → (b : Bool) → member x ys ≡ b → member k (minus xs ys) ≡ (member k xs && not (member k ys))
        → member k (minus (x ∷ xs) ys) ≡ (member k (x ∷ xs) && not (member k ys))
    by (yes e) true m r =
        let q : member k ys ≡ true = ap (λ j. member j ys) e ∙ m in
        rw m (r ∙ rw (q, and-false, and-false))
    by (yes e) false m r = let q : member k ys ≡ false = ap (λ j. member j ys) e ∙ m in rw (m, eq-eqb k x e, q)
    by (no e) true m r = rw (m, ne_eqb k x e) r
    by (no e) false m r = rw (m, ne_eqb k x e) r

pub members_after : (cs : List ℕ) {xs ys : List ℕ} → SameMembers xs ys → SameMembers (cs ++ xs) (cs ++ ys)
members_after cs {xs} {ys} s =
    record { at = λ x. member_append x cs xs ∙ (ap (λ b. member x cs || b) (s.at x) ∙ sym (member_append x cs ys)) }

pub flags_is : {flags xs ys : List ℕ} → xs ≡ ys → Flags flags xs → Flags flags ys
flags_is {flags} e f = subst (Flags flags) e f

-- ---- a value where an id is flagged

module _ {flags at r xs ys : List ℕ} (f : Flags flags xs) (g : Flags at ys) where
  pub flags_minus : SetWhere flags at 0 r → Flags r (minus xs ys)
  flags_minus s = record {
    long = s.long;
    right = λ k l. s.right k l ∙ rw (flag_decides at ys g k l, f.right k l, member-minus k xs ys) (by (member k xs) (member k ys));
  }
    where
      by : (a b : Bool) → ◌≡◌ {A = ℕ} (if b then 0 else if a then 1 else 0) (if a && not b then 1 else 0)
      by true true = refl
      by true false = refl
      by false true = refl
      by false false = refl

  pub flags_joined : SetWhere flags at 1 r → Flags r (xs ++ ys)
  flags_joined s = record {
    long = s.long;
    right = λ k l. s.right k l ∙ rw (flag_decides at ys g k l, f.right k l, member_append k xs ys) (by (member k xs) (member k ys));
  }
    where
      by : (a b : Bool) → ◌≡◌ {A = ℕ} (if b then 1 else if a then 1 else 0) (if a || b then 1 else 0)
      by true true = refl
      by true false = refl
      by false true = refl
      by false false = refl

-- ---- lists that have no id in common

apart-not : (k : ℕ) (xs ys : List ℕ) → member k xs ≡ true → member k ys ≡ true → all (λ x. not (member x ys)) xs ≡ false
apart-not k [] ys m n = absurd (false≢true m)
apart-not k (x ∷ xs) ys m n = by (ℕ_discrete k x) m (λ o. apart-not k xs ys o n)
  where
    by : Dec (k ≡ x) → member k (x ∷ xs) ≡ true → (member k xs ≡ true → all (λ x. not (member x ys)) xs ≡ false) → all (λ x. not (member x ys)) (x ∷ xs) ≡ false
    by (yes e) m f = let q : member x ys ≡ true = ap (λ j. member j ys) (sym e) ∙ n in rw q
    by (no e) m f = rw (f (rw (ne_eqb k x e) at m), and-false)

apart-is : (xs ys : List ℕ) → all byte xs ≡ true → ((k : ℕ) → k < 256 → member k xs ≡ true → member k ys ≡ false) → all (λ x. not (member x ys)) xs ≡ true
apart-is [] ys a h = refl
apart-is (x ∷ xs) ys a h =
    let (b, c) = (and-eq-true_iff (byte x) (all byte xs)).0 a in
    rw (h x (ltb-true x 256 b) (rw (eq-eqb x x refl)), apart-is xs ys c (λ k l m. h k l (rw (m, or-true))))

module _ {flags other xs ys : List ℕ} (f : Flags flags xs) (g : Flags other ys) where
  pub flags_meet : (k : ℕ) → k < 256 → (eqb (get_or flags k 0) 1 && eqb (get_or other k 0) 1) ≡ true → all (λ x. not (member x ys)) xs ≡ false
  flags_meet k l e =
      let (a, b) = (and-eq-true_iff (eqb (get_or flags k 0) 1) (eqb (get_or other k 0) 1)).0 e in
      apart-not k xs ys (sym (flag_decides flags xs f k l) ∙ a) (sym (flag_decides other ys g k l) ∙ b)

  pub flags_apart : all byte xs ≡ true → ((k : ℕ) → k < 256 → (eqb (get_or flags k 0) 1 && eqb (get_or other k 0) 1) ≡ false) → all (λ x. not (member x ys)) xs ≡ true
  flags_apart a h = apart-is xs ys a (λ k l m.
      sym (flag_decides other ys g k l) ∙ sym (ap (λ b. b && eqb (get_or other k 0) 1) (flag_decides flags xs f k l ∙ m)) ∙ h k l)

-- every id is flagged
member-run : (n first k : ℕ) → first ≤ k → k < first + n → member k (upward n first) ≡ true
member-run zero first k h l = absurd (omega arith)
member-run (suc n) first k h l = by (ℕ_discrete k first) (λ g. member-run n (suc first) k g (omega arith))
  where
    by : Dec (k ≡ first) → (suc first ≤ k → member k (upward n (suc first)) ≡ true) → member k (upward (suc n) first) ≡ true
    by (yes e) f = rw (eq-eqb k first e)
    by (no e) f = rw (ne_eqb k first e) (f (omega arith))

pub flags_every : Flags (replicate 256 1) (upward 256 0)
flags_every = record { long = refl; right = λ k l. get_or-replicate 256 k 1 0 l ∙ rw (member-run 256 0 k (omega arith) (omega arith)) }

-- a list of ids below 256 that has none of them is empty
pub apart-every : (xs : List ℕ) → all byte xs ≡ true → all (λ x. not (member x (upward 256 0))) xs ≡ is_empty xs
apart-every [] a = refl
apart-every (x ∷ xs) a =
    let l : x < 256 = ltb-true x 256 ((and-eq-true_iff (byte x) (all byte xs)).0 a).0 in
    rw (member-run 256 0 x (omega arith) (omega arith))

-- ---- by kind

-- Unit, Scan, Cross and Each name nothing
pub names_other : (node : Node) (k : Kind) → (k ≡ Project → ⊥) → (k ≡ Distinct → ⊥) → (k ≡ Sort → ⊥) → (k ≡ Select → ⊥) → (k ≡ Some → ⊥) → (k ≡ Every → ⊥)
    → (k ≡ Semi → ⊥) → (k ≡ Anti → ⊥) → (k ≡ Fold → ⊥) → (k ≡ Pair → ⊥) → (k ≡ Group → ⊥) → [] ≡ operator_names (operator_by k node)
unfolding operator_by
names_other node Unit a b c d e f g h i j l = refl
names_other node Scan a b c d e f g h i j l = refl
names_other node Select a b c d e f g h i j l = absurd (d refl)
names_other node Project a b c d e f g h i j l = absurd (a refl)
names_other node Distinct a b c d e f g h i j l = absurd (b refl)
names_other node Cross a b c d e f g h i j l = refl
names_other node Semi a b c d e f g h i j l = absurd (g refl)
names_other node Anti a b c d e f g h i j l = absurd (h refl)
names_other node Some a b c d e f g h i j l = absurd (e refl)
names_other node Every a b c d e f g h i j l = absurd (f refl)
names_other node Fold a b c d e f g h i j l = absurd (i refl)
names_other node Each a b c d e f g h i j l = refl
names_other node Pair a b c d e f g h i j l = absurd (j refl)
names_other node Group a b c d e f g h i j l = absurd (l refl)
names_other node Sort a b c d e f g h i j l = absurd (c refl)
names_other node (Other k) a b c d e f g h i j l = refl

-- Some, Every, Fold and Each are nested
pub not-nested : (node : Node) (k : Kind) → (k ≡ Some → ⊥) → (k ≡ Every → ⊥) → (k ≡ Fold → ⊥) → (k ≡ Each → ⊥) → operator_nested (operator_by k node) ≡ false
unfolding operator_by
not-nested node =
    each_kind (λ k. (k ≡ Some → ⊥) → (k ≡ Every → ⊥) → (k ≡ Fold → ⊥) → (k ≡ Each → ⊥) → operator_nested (operator_by k node) ≡ false)
    (λ a b c d. refl) (λ a b c d. refl) (λ a b c d. refl) (λ a b c d. refl) (λ a b c d. refl) (λ a b c d. refl) (λ a b c d. refl) (λ a b c d. refl)
    (λ a b c d. absurd (a refl)) (λ a b c d. absurd (b refl)) (λ a b c d. absurd (c refl)) (λ a b c d. absurd (d refl))
    (λ a b c d. refl) (λ a b c d. refl) (λ a b c d. refl) (λ k a b c d. refl)

pub is-nested : (node : Node) (k : Kind) → (k ≡ Some) ⊎ ((k ≡ Every) ⊎ ((k ≡ Fold) ⊎ (k ≡ Each))) → operator_nested (operator_by k node) ≡ true
unfolding operator_by
is-nested node k =
    let P : Kind → Type 0 = λ k. operator_nested (operator_by k node) ≡ true in
    one_of P refl (one_of P refl (one_of P refl (just P refl)))

-- ---- what a node with one child names

module _ (cs : List ℕ) where
  plainly : (ids : List ℕ) → SameMembers (minus (minus ids []) cs) (minus ids cs)
  plainly ids = record {
    at = λ x. member-minus x (minus ids []) cs ∙ (ap (λ b. b && not (member x cs)) (member-minus x ids [] ∙ and-true (member x ids)) ∙ sym (member-minus x ids cs));
  }

  -- a Group's left key is its own, also where its test or its aggregate names it
  grouped : (l r : ℕ) (ids : List ℕ) → SameMembers (minus (minus (r ∷ minus ids (l ∷ [])) []) cs) (minus (r ∷ []) cs ++ minus (minus (l ∷ r ∷ ids) cs) (l ∷ []))
  grouped l r ids = record {
    at = λ x.
        ((plainly (r ∷ minus ids (l ∷ []))).at x ∙ (member-minus x (r ∷ minus ids (l ∷ [])) cs
        ∙ ap (λ b. (eqb x r || b) && not (member x cs)) (member-minus x ids (l ∷ []))))
        ∙ (by (eqb x r) (eqb x l) (member x ids) (member x cs) ∙ sym (member_append x (minus (r ∷ []) cs) (minus (minus (l ∷ r ∷ ids) cs) (l ∷ []))
        ∙ ap₂ ◌||◌ (member-minus x (r ∷ []) cs) (member-minus x (minus (l ∷ r ∷ ids) cs) (l ∷ []) ∙ ap (λ b. b && not (eqb x l || false)) (member-minus x (l ∷ r ∷ ids) cs))));
  }
    where
      by : (a b m c : Bool) → ((a || (m && not (b || false))) && not c) ≡ (((a || false) && not c) || (((b || (a || m)) && not c) && not (b || false)))
      by true true m true = refl
      by true false m true = refl
      by true b m false = refl
      by false true true true = refl
      by false true true false = refl
      by false true false true = refl
      by false true false false = refl
      by false false true true = refl
      by false false true false = refl
      by false false false c = refl

  pub unary-free : (u : Unary) → SameMembers (minus (minus (unary_names u) []) cs) (unary_free u cs)
  unfolding unary_free
  unary-free (select t) = plainly (names t)
  unary-free (project ids) = plainly ids
  unary-free (distinct ids) = plainly ids
  unary-free (group g n l r c t) = grouped l r (measured g ++ names t)
  unary-free (sort d ids) = plainly ids

-- ---- at a place

module _ (T : Tables) (plan : List ℕ) (i : ℕ) (h : i < nodes_of plan) where
  abbrev fs : List ℕ
  fs = free T (first_tree plan i)

  abbrev cs : List ℕ
  cs = columns T (first_tree plan i)

  abbrev gs : List ℕ
  gs = free T (second_tree plan i)

  abbrev ds : List ℕ
  ds = columns T (second_tree plan i)

  pub free-leaf : arity (operator_at plan i) ≡ 0 → [] ≡ free T (plan_at plan i)
  unfolding free
  free-leaf =
      plan_case plan i (λ o p. arity o ≡ 0 → [] ≡ free T p)
      (λ x a. refl) (λ u a. absurd (omega arith)) (λ b a. absurd (omega arith)) h

  pub free_one : arity (operator_at plan i) ≡ 1 → SameMembers (operator_free (operator_at plan i) fs cs [] []) (free T (plan_at plan i))
  unfolding free
  free_one =
      plan_case plan i (λ o p. arity o ≡ 1 → SameMembers (operator_free o fs cs [] []) (free T p))
      (λ x a. absurd (omega arith)) (λ u a. members_after fs (unary-free cs u)) (λ b a. absurd (omega arith)) h

  pub free-two : (arity (operator_at plan i) ≡ 0 → ⊥) → (arity (operator_at plan i) ≡ 1 → ⊥) → operator_free (operator_at plan i) fs cs gs ds ≡ free T (plan_at plan i)
  unfolding free
  free-two =
      plan_case plan i (λ o p. (arity o ≡ 0 → ⊥) → (arity o ≡ 1 → ⊥) → operator_free o fs cs gs ds ≡ free T p)
      (λ x a c. absurd (a refl)) (λ u a c. absurd (c refl)) (λ b a c. refl) h

-- .. for the node that was read there, and the number of its children
module _ (T : Tables) (plan : List ℕ) (i : ℕ) (h : i < nodes_of plan) (node : Node) (e : node ≡ node_at plan i) (n : ℕ) (q : n ≡ kind_entry (kind_row node.kind) 0) where
  pub read-leaf : n ≡ 0 → [] ≡ free T (plan_at plan i)
  read-leaf z = free-leaf T plan i h (sym (children-at plan i node n e q) ∙ z)

  pub read_one : n ≡ 1 → SameMembers (operator_free (operator_of node) (free T (first_tree plan i)) (columns T (first_tree plan i)) [] []) (free T (plan_at plan i))
  read_one z = rw e (free_one T plan i h (sym (children-at plan i node n e q) ∙ z))

  pub read-two : (n ≡ 0 → ⊥) → (n ≡ 1 → ⊥)
      → operator_free (operator_of node) (free T (first_tree plan i)) (columns T (first_tree plan i)) (free T (second_tree plan i)) (columns T (second_tree plan i)) ≡ free T (plan_at plan i)
  read-two y z = rw e (free-two T plan i h (λ k. y (children-at plan i node n e q ∙ k)) (λ k. z (children-at plan i node n e q ∙ k)))
