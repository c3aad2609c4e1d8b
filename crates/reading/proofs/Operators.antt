-- A node's operator by its kind. Assumes nothing.
use Prim.Native.Nat.{ℕ, zero, suc, ◌<◌}
use mathlib.Core.Path.{◌≡◌, refl, sym, subst}
use mathlib.Core.Logic.{◌⊎◌, ⊎_elim}
use native.Mathlib.Omega.{arith}
use borrow.Author.Tests.{ne_eqb}
use Rattle.reading.specs.Plan.{kind_entry, kind_of, kind_row, kind_number}
use Rattle.reading.specs.Tree.{operator_by, operator_of}
use Rattle.reading.specs.Nodes.{arity}
use Rattle.reading.specs.declared.kinds.Kind.{Kind}
use Rattle.reading.specs.declared.kinds.Kind.TheVariants.{Unit, Scan, Select, Project, Distinct, Cross, Semi, Anti, Some, Every, Fold, Each, Pair, Group, Sort, Other}
use Rattle.reading.specs.declared.plan.Node.{Node}

-- a fact of every number, from the fifteen kinds and the numbers above them
pub by_kind : (P : ℕ → Type 0) → P 0 → P 1 → P 2 → P 3 → P 4 → P 5 → P 6 → P 7 → P 8 → P 9 → P 10 → P 11 → P 12 → P 13 → P 14
    → ((k : ℕ) → 14 < k → P k) → (k : ℕ) → P k
by_kind P a b c d e f g h i j l m n o p q zero = a
by_kind P a b c d e f g h i j l m n o p q (suc zero) = b
by_kind P a b c d e f g h i j l m n o p q (suc (suc zero)) = c
by_kind P a b c d e f g h i j l m n o p q (suc (suc (suc zero))) = d
by_kind P a b c d e f g h i j l m n o p q (suc (suc (suc (suc zero)))) = e
by_kind P a b c d e f g h i j l m n o p q (suc (suc (suc (suc (suc zero))))) = f
by_kind P a b c d e f g h i j l m n o p q (suc (suc (suc (suc (suc (suc zero)))))) = g
by_kind P a b c d e f g h i j l m n o p q (suc (suc (suc (suc (suc (suc (suc zero))))))) = h
by_kind P a b c d e f g h i j l m n o p q (suc (suc (suc (suc (suc (suc (suc (suc zero)))))))) = i
by_kind P a b c d e f g h i j l m n o p q (suc (suc (suc (suc (suc (suc (suc (suc (suc zero))))))))) = j
by_kind P a b c d e f g h i j l m n o p q (suc (suc (suc (suc (suc (suc (suc (suc (suc (suc zero)))))))))) = l
by_kind P a b c d e f g h i j l m n o p q (suc (suc (suc (suc (suc (suc (suc (suc (suc (suc (suc zero))))))))))) = m
by_kind P a b c d e f g h i j l m n o p q (suc (suc (suc (suc (suc (suc (suc (suc (suc (suc (suc (suc zero)))))))))))) = n
by_kind P a b c d e f g h i j l m n o p q (suc (suc (suc (suc (suc (suc (suc (suc (suc (suc (suc (suc (suc zero))))))))))))) = o
by_kind P a b c d e f g h i j l m n o p q (suc (suc (suc (suc (suc (suc (suc (suc (suc (suc (suc (suc (suc (suc zero)))))))))))))) = p
by_kind P a b c d e f g h i j l m n o p q (suc (suc (suc (suc (suc (suc (suc (suc (suc (suc (suc (suc (suc (suc (suc k))))))))))))))) =
    q (suc (suc (suc (suc (suc (suc (suc (suc (suc (suc (suc (suc (suc (suc (suc k))))))))))))))) (omega arith)

-- a byte past the kinds names none
pub kind-above : (k : ℕ) → 14 < k → kind_of k ≡ Other k
kind-above k h =
    rw (ne_eqb k 0 (λ e. omega arith), ne_eqb k 1 (λ e. omega arith), ne_eqb k 2 (λ e. omega arith), ne_eqb k 3 (λ e. omega arith), ne_eqb k 4 (λ e. omega arith), ne_eqb k 5 (λ e. omega arith), ne_eqb k 6 (λ e. omega arith), ne_eqb k 7 (λ e. omega arith), ne_eqb k 8 (λ e. omega arith), ne_eqb k 9 (λ e. omega arith), ne_eqb k 10 (λ e. omega arith), ne_eqb k 11 (λ e. omega arith), ne_eqb k 12 (λ e. omega arith), ne_eqb k 13 (λ e. omega arith), ne_eqb k 14 (λ e. omega arith))

-- a byte, the kind that it names, and back
pub kind-back : (k : ℕ) → kind_number (kind_of k) ≡ k
kind-back =
    by_kind (λ k. kind_number (kind_of k) ≡ k) refl refl refl refl refl refl refl refl refl refl refl refl refl refl refl
    (λ k h. rw (kind-above k h))

-- ---- a fact of every kind, from the fact of each
pub each_kind : (P : Kind → Type 0) → P Unit → P Scan → P Select → P Project → P Distinct → P Cross → P Semi → P Anti → P Some → P Every → P Fold → P Each → P Pair → P Group → P Sort
    → ((byte : ℕ) → P (Other byte)) → (k : Kind) → P k
each_kind P a b c d e f g h i j l m n o p q Unit = a
each_kind P a b c d e f g h i j l m n o p q Scan = b
each_kind P a b c d e f g h i j l m n o p q Select = c
each_kind P a b c d e f g h i j l m n o p q Project = d
each_kind P a b c d e f g h i j l m n o p q Distinct = e
each_kind P a b c d e f g h i j l m n o p q Cross = f
each_kind P a b c d e f g h i j l m n o p q Semi = g
each_kind P a b c d e f g h i j l m n o p q Anti = h
each_kind P a b c d e f g h i j l m n o p q Some = i
each_kind P a b c d e f g h i j l m n o p q Every = j
each_kind P a b c d e f g h i j l m n o p q Fold = l
each_kind P a b c d e f g h i j l m n o p q Each = m
each_kind P a b c d e f g h i j l m n o p q Pair = n
each_kind P a b c d e f g h i j l m n o p q Group = o
each_kind P a b c d e f g h i j l m n o p q Sort = p
each_kind P a b c d e f g h i j l m n o p q (Other byte) = q byte

-- a fact of a kind that is one of several

pub just : (P : Kind → Type 0) {a k : Kind} → P a → k ≡ a → P k
just P p e = subst P (sym e) p

pub one_of : (P : Kind → Type 0) {a k : Kind} {B : Type 0} → P a → (B → P k) → (k ≡ a) ⊎ B → P k
one_of P p f = ⊎_elim (λ e. subst P (sym e) p) f

pub just_other : (P : Kind → Type 0) {k : Kind} → ((byte : ℕ) → P (Other byte)) → (byte : ℕ) × (k ≡ Other byte) → P k
just_other P p (byte, e) = subst P (sym e) (p byte)

-- how many children a kind has, by the table of kinds
arity-by : (node : Node) (kind : Kind) → kind_entry (kind_row kind) 0 ≡ arity (operator_by kind node)
unfolding operator_by
arity-by node Unit = refl
arity-by node Scan = refl
arity-by node Select = refl
arity-by node Project = refl
arity-by node Distinct = refl
arity-by node Cross = refl
arity-by node Semi = refl
arity-by node Anti = refl
arity-by node Some = refl
arity-by node Every = refl
arity-by node Fold = refl
arity-by node Each = refl
arity-by node Pair = refl
arity-by node Group = refl
arity-by node Sort = refl
arity-by node (Other b) = refl

pub arity_of : (node : Node) → kind_entry (kind_row node.kind) 0 ≡ arity (operator_of node)
arity_of node = arity-by node node.kind
