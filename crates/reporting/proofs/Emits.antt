-- What one left row gives, by the node's kind. Assumes nothing.
use mathlib.Core.Path.{◌≡◌, refl, sym, ap, ap₂, ◌∙◌, subst, fun_ext}
use mathlib.Core.Bool.{Bool, true, false, not, cond, ◌&&◌}
use mathlib.Core.List.{List, [], ◌∷◌, ◌++◌}
use mathlib.Core.Logic.{◌⊎◌, inl, inr, ⊎_elim}
use Prim.Native.Nat.{ℕ, zero, suc, ◌+◌, ◌*◌, ◌-◌, ◌≤◌, ◌<◌, max}
use native.Mathlib.Omega.{arith}
use lib.ListN.{length, take, drop, length-append, length-drop, replicate}
use lib.Seq.{paste}
use borrow.Rule.Slice.PartMut.{put_mid, take_put}
use Rattle.algebra.specs.Lists.{flip, any}
use Rattle.algebra.specs.Cells.{aggregate}
use Rattle.algebra.specs.Plans.{Row, Env, bind, holds, emit_within}
use Rattle.algebra.proofs.Lists.{all_any}
use Rattle.reading.specs.declared.kinds.Kind.{Kind}
use Rattle.reading.specs.declared.kinds.Kind.TheVariants.{Cross, Semi, Anti, Some, Every, Fold, Each, Pair}
use Rattle.reading.specs.declared.plan.Node.{Node}
use Rattle.reading.specs.Tree.{aggregate_by, operator_by, operator_of, node_test}
use Rattle.reading.specs.Nodes.{arity}
use Rattle.reading.proofs.Operators.{each_kind, one_of, just}
use Rattle.reporting.specs.Rows.{chunk, row_at, rows_from, Gives, passing, aggregate_in, gathered, emitted}
use Rattle.reporting.specs.Keys.{has_test, keeps_rows, has_keys, key_comparison, keys_hold}
use Rattle.reporting.specs.Sides.{in_both, compared_holds, condition_holds, FoundInside, meets, found_cell, FoundFor, turned_test, turned_found, is_anti, keeps_row}
use Rattle.reporting.specs.Written.{Written, Emitted, joined_rows, JoinGiven, EachGiven}
use Rattle.reporting.specs.Evaluation.{StepRoom, PlainStep, EmitGiven}
use Rattle.reporting.specs.declared.side.Condition.{Condition}
use Rattle.reporting.specs.declared.side.Found.{Found}
use Rattle.reporting.proofs.Chunks.{gives_one, gives_none}
use Rattle.reporting.proofs.Lent.{drop-beyond, drop-from, lent_tail, tail_part}
use Rattle.reporting.proofs.Copies.{written-rest, written_copy}
use Rattle.reporting.proofs.Sides.{meets-left, found-cells-left, found-gathered}

-- the rows that were joined in the part from dst on
pub joined_at : (cells ys : List ℕ) (src w dst behind k v : ℕ) → dst + k * (w + v) ≤ src → src + w ≤ behind → behind + k * v ≤ length cells
    → let part = take (length cells - dst) (drop dst cells) in
    Gives (joined_rows (row_at (src - dst) w part) (rows_from (behind - dst) k v part)) (w + v) k k ys
    → drop (k * (w + v)) ys ≡ drop (k * (w + v)) part
    → JoinGiven src w dst behind k v cells (put_mid dst (length cells - dst) cells ys)
joined_at cells ys src w dst behind k v h₁ h₂ h₃ g same =
    let whole : take (length cells - dst) (drop dst cells) ≡ drop dst cells = tail_part dst cells in
    let tail : drop dst (put_mid dst (length cells - dst) cells ys) ≡ ys = lent_tail dst cells ys (omega arith) in
    let left : drop (src - dst) (take (length cells - dst) (drop dst cells)) ≡ drop src cells = ap (drop (src - dst)) whole ∙ drop-from dst src cells (omega arith) in
    let right : drop (behind - dst) (take (length cells - dst) (drop dst cells)) ≡ drop behind cells = ap (drop (behind - dst)) whole ∙ drop-from dst behind cells (omega arith) in
    record {
      gives = record { is = ap (chunk k (w + v)) tail ∙ g.is ∙ (λ j. joined_rows (take w (left j)) (chunk k v (right j))); few = omega arith };
      before = take_put dst (length cells - dst) cells ys (omega arith);
      behind =
          sym (drop-from dst (src + w) (put_mid dst (length cells - dst) cells ys) (omega arith))
          ∙ ap (drop (src + w - dst)) tail
          ∙ drop-beyond (k * (w + v)) (src + w - dst) ys (drop dst cells) (omega arith) (same ∙ ap (drop (k * (w + v))) whole)
          ∙ drop-from dst (src + w) cells (omega arith);
    }

-- ---- one row, or none
pub emitted-one : {rows : List Row} {row : Row} {w dst rest : ℕ} {c d : List ℕ} → rows ≡ row ∷ [] → Written dst w row c d → dst + w ≤ rest → Emitted rows w 1 1 dst rest c d
emitted-one {rows} {row} {w} {dst} {rest} {c} {d} e g h = record { gives = gives_one rows w row (drop dst d) e g.here; before = g.before; behind = written-rest g rest h }

pub emitted-none : {rows : List Row} {c : List ℕ} (w dst rest : ℕ) → rows ≡ [] → Emitted rows w 1 0 dst rest c c
emitted-none {rows} {c} w dst rest e = record { gives = gives_none rows w (drop dst c) e; before = refl; behind = refl }

-- ---- an Each, with a right row and with none
module _ (ds : List ℕ) (src w dst behind : ℕ) (entry exit : List ℕ) where
  pub each-joined : (k : ℕ) → 0 < k → JoinGiven src w dst behind k (length ds) entry exit → EachGiven ds src w dst behind k entry k exit
  unfolding emit_within chunk
  each-joined zero h g = absurd (omega arith)
  each-joined (suc k) h g = λ env. record { gives = record { is = g.gives.is; few = omega arith }; before = g.before; behind = g.behind }

  pub each-blank : (k : ℕ) → k ≤ 0 → dst + (w + length ds) ≤ src → Written dst (w + length ds) (row_at src w entry ++ replicate (length ds) 0) entry exit
      → EachGiven ds src w dst behind k entry 1 exit
  unfolding emit_within chunk
  each-blank zero h room g = λ env. emitted-one refl g (omega arith)
  each-blank (suc k) h room g = absurd (omega arith)

-- the width told in another way
wider : {rows : List Row} {w w' most r dst rest : ℕ} {c d : List ℕ} → w ≡ w' → Emitted rows w most r dst rest c d → Emitted rows w' most r dst rest c d
wider {rows} {w} {w'} {most} {r} {dst} {rest} {c} {d} e g = subst (λ n. Emitted rows n most r dst rest c d) e g

-- ---- by the node's kind

-- the kinds that keep rows
abbrev pub KeepsRows : Kind → Type 0
KeepsRows k = (k ≡ Semi) ⊎ ((k ≡ Anti) ⊎ ((k ≡ Some) ⊎ (k ≡ Every)))

pub keeps_of : {k : Kind} → KeepsRows k → keeps_rows k ≡ true
unfolding keeps_rows
keeps_of {k} =
    let P : Kind → Type 0 = λ k. keeps_rows k ≡ true in
    one_of P refl (one_of P refl (one_of P refl (just P refl)))

-- .. which are the others with two children
keeping_by : (node : Node) (k : Kind) → arity (operator_by k node) ≡ 2 → (k ≡ Cross → ⊥) → (k ≡ Each → ⊥) → (k ≡ Fold → ⊥) → (k ≡ Pair → ⊥) → KeepsRows k
unfolding operator_by
keeping_by node =
    each_kind (λ k. arity (operator_by k node) ≡ 2 → (k ≡ Cross → ⊥) → (k ≡ Each → ⊥) → (k ≡ Fold → ⊥) → (k ≡ Pair → ⊥) → KeepsRows k)
    (λ e a b c d. absurd (omega arith)) (λ e a b c d. absurd (omega arith)) (λ e a b c d. absurd (omega arith)) (λ e a b c d. absurd (omega arith)) (λ e a b c d. absurd (omega arith))
    (λ e a b c d. absurd (a refl)) (λ e a b c d. inl refl) (λ e a b c d. inr (inl refl)) (λ e a b c d. inr (inr (inl refl))) (λ e a b c d. inr (inr (inr refl)))
    (λ e a b c d. absurd (c refl)) (λ e a b c d. absurd (b refl)) (λ e a b c d. absurd (d refl))
    (λ e a b c d. absurd (omega arith)) (λ e a b c d. absurd (omega arith)) (λ k e a b c d. absurd (omega arith))

pub keeping_kind : (node : Node) → arity (operator_of node) ≡ 2 → (node.kind ≡ Cross → ⊥) → (node.kind ≡ Each → ⊥) → (node.kind ≡ Fold → ⊥) → (node.kind ≡ Pair → ⊥) → KeepsRows node.kind
keeping_kind node = keeping_by node node.kind

-- a fact of the four kinds that keep rows
by-keeping : (P : Kind → Type 0) → P Semi → P Anti → P Some → P Every → (k : Kind) → KeepsRows k → P k
by-keeping P a b c d k = one_of P a (one_of P b (one_of P c (just P d)))

-- ---- the rows that are kept

-- a test under the other not-mark
turned-flip : (m b : Bool) → flip (flip true m) b ≡ not (flip m b)
turned-flip true true = refl
turned-flip true false = refl
turned-flip false b = refl

turned-holds : (c : Condition) (l r : Row) → condition_holds (turned_test c) l r ≡ not (condition_holds c l r)
unfolding condition_holds
turned-holds c l r = turned-flip c.negated (compared_holds c.compared l r)

pub turned-inside : (f : Found) (w v : ℕ) → FoundInside f w v → FoundInside (turned_found f) w v
turned-inside f w v p = record { keys = p.keys; test = record { compared = p.test.compared }; measured = p.measured }

-- by the kind, as it is asked
pub keeps_every : (kind : Kind) (f : Found) (l : Row) (rs : List Row) → kind ≡ Every → keeps_row kind f l rs ≡ not (any (meets (turned_found f) l) rs)
unfolding keeps_row
keeps_every kind f l rs e = rw e

pub keeps_anti : (kind : Kind) (f : Found) (l : Row) (rs : List Row) → kind ≡ Anti → keeps_row kind f l rs ≡ not (any (meets f l) rs)
unfolding keeps_row
keeps_anti kind f l rs e = rw e

pub keeps_other : (kind : Kind) (f : Found) (l : Row) (rs : List Row) → (kind ≡ Every → ⊥) → (kind ≡ Anti → ⊥) → keeps_row kind f l rs ≡ any (meets f l) rs
unfolding keeps_row
keeps_other kind f l rs =
    each_kind (λ k. (k ≡ Every → ⊥) → (k ≡ Anti → ⊥) → keeps_row k f l rs ≡ any (meets f l) rs)
    (λ a b. refl) (λ a b. refl) (λ a b. refl) (λ a b. refl) (λ a b. refl) (λ a b. refl) (λ a b. refl) (λ a b. absurd (b refl))
    (λ a b. refl) (λ a b. absurd (a refl)) (λ a b. refl) (λ a b. refl) (λ a b. refl) (λ a b. refl) (λ a b. refl) (λ k a b. refl) kind

pub keyed_row : (kind : Kind) (f : Found) (l : Row) (rs : List Row) → (kind ≡ Semi) ⊎ (kind ≡ Anti) → keeps_row kind f l rs ≡ flip (is_anti kind) (any (meets f l) rs)
unfolding keeps_row
keyed_row kind f l rs =
    let P : Kind → Type 0 = λ k. keeps_row k f l rs ≡ flip (is_anti k) (any (meets f l) rs) in
    one_of P refl (just P refl)

-- only the front of the left row is read
any_left : (f : Found) (w v : ℕ) (l : Row) (rs : List Row) → FoundInside f w v → any (meets f (take w l)) rs ≡ any (meets f l) rs
any_left f w v l rs p = ap (λ (m : Row → Bool). any m rs) (fun_ext (λ r. meets-left w v l r f p))

keeps_left : (kind : Kind) (f : Found) (w v : ℕ) (l : Row) (rs : List Row) → FoundInside f w v → keeps_row kind f (take w l) rs ≡ keeps_row kind f l rs
unfolding keeps_row
keeps_left kind f w v l rs p =
    let same = any_left f w v l rs p in
    each_kind (λ k. keeps_row k f (take w l) rs ≡ keeps_row k f l rs)
    same same same same same same same (ap not same) same (ap not (any_left (turned_found f) w v l rs (turned-inside f w v p))) same same same same same (λ k. same) kind

-- a node whose columns are found
module _ (node : Node) (cs ds : List ℕ) (env : Env) (f : Found) (found : FoundFor node cs ds env f) where
  module _ (l : Row) (rs : List Row) where
    abbrev KeysFound : Kind → Type 0
    KeysFound k = (r : Row) → condition_holds f.keys l r ≡ keys_hold k node (in_both cs ds env l r)

    abbrev Keeps : Kind → Type 0
    Keeps k = emitted (operator_by k node) ds l (bind cs l env) rs ≡ cond (keeps_row k f l rs) (l ∷ []) []

    -- what is asked of a right row, and this under the other not-mark
    asked : (k : Kind) → KeysFound k → (λ r. keys_hold k node (in_both cs ds env l r) && holds (node_test node) (in_both cs ds env l r)) ≡ meets f l
    asked k h = fun_ext (λ r. ap₂ ◌&&◌ (sym (h r)) (sym (found.test l r)))

    asked-turned : (k : Kind) → KeysFound k → (λ r. keys_hold k node (in_both cs ds env l r) && not (holds (node_test node) (in_both cs ds env l r))) ≡ meets (turned_found f) l
    asked-turned k h = fun_ext (λ r. ap₂ ◌&&◌ (sym (h r)) (ap not (sym (found.test l r)) ∙ sym (turned-holds f.test l r)))

    keeps_by : (k : Kind) → KeepsRows k → KeysFound k → Keeps k
    unfolding operator_by emitted emit_within has_keys key_comparison keys_hold keeps_row
    keeps_by =
        by-keeping (λ k. KeysFound k → Keeps k)
        (λ h. ap (λ (m : Row → Bool). cond (any m rs) (l ∷ []) []) (asked Semi h))
        (λ h. ap (λ (m : Row → Bool). cond (not (any m rs)) (l ∷ []) []) (asked Anti h))
        (λ h. ap (λ (m : Row → Bool). cond (any m rs) (l ∷ []) []) (asked Some h))
        (λ h.
        ap (λ x. cond x (l ∷ []) []) (all_any (λ r. holds (node_test node) (in_both cs ds env l r)) rs)
        ∙ ap (λ (m : Row → Bool). cond (not (any m rs)) (l ∷ []) []) (asked-turned Every h))

  -- what the left row at src gives where it is kept
  pub kept_row : (src : ℕ) (cells : List ℕ) (rs : List Row) → KeepsRows node.kind → let l = row_at src (length cs) cells in
      emitted (operator_of node) ds l (bind cs l env) rs ≡ cond (keeps_row node.kind f (drop src cells) rs) (l ∷ []) []
  kept_row src cells rs keeps =
      let l : Row = row_at src (length cs) cells in
      keeps_by l rs node.kind keeps (found.keys l)
      ∙ ap (λ b. cond b (l ∷ []) []) (keeps_left node.kind f (length cs) (length ds) (drop src cells) rs found.inside)

  -- the aggregate of the left row at src
  pub cell_row : (src : ℕ) (cells : List ℕ) (rs : List Row) → has_test node.kind ≡ true
      → found_cell f (drop src cells) rs ≡ gathered (operator_of node) ds (bind cs (row_at src (length cs) cells) env) rs
  cell_row src cells rs tested =
      ap (aggregate (aggregate_by f.aggregate 0)) (sym (found-cells-left f (length cs) (length ds) (drop src cells) rs found.inside))
      ∙ found-gathered node cs ds env f found tested (row_at src (length cs) cells) rs

-- ---- each kind: how far the room goes, and that what is written is what the node gives
module _ (node : Node) (cs ds : List ℕ) (src dst behind k : ℕ) (entry : List ℕ) where
  abbrev Room : Kind → Type 0
  Room kind = StepRoom (operator_by kind node) cs ds k src dst behind

  abbrev Given : Kind → Env → ℕ → List ℕ → Type 0
  Given kind env r exit = PlainStep (operator_by kind node) cs ds env src dst behind k entry r exit

  joined-width : length (cs ++ ds) ≡ length cs + length ds
  joined-width = length-append cs ds

  -- the row is joined to each right row
  abbrev Crosses : Kind → Type 0
  Crosses kind =
      (Room kind → dst + k * (length cs + length ds) ≤ src)
      × ((env : Env) (exit : List ℕ) → JoinGiven src (length cs) dst behind k (length ds) entry exit → Given kind env k exit)

  pub crosses : node.kind ≡ Cross → Crosses node.kind
  unfolding operator_by emitted emit_within
  crosses e = subst Crosses (sym e) (λ h. rw joined-width at h.below, λ env exit g. wider (sym joined-width) g)

  -- the same; with no right row, once, with blanks
  abbrev Eaches : Kind → Type 0
  Eaches kind =
      (Room kind → dst + max 1 k * (length cs + length ds) ≤ src)
      × ((env : Env) (r : ℕ) (exit : List ℕ) → EachGiven ds src (length cs) dst behind k entry r exit → Given kind env r exit)

  pub eaches : node.kind ≡ Each → Eaches node.kind
  unfolding operator_by emitted
  eaches e =
      subst Eaches (sym e)
      (λ h. rw joined-width at h.below, λ env r exit g. wider (sym joined-width) (g (bind cs (row_at src (length cs) entry) env)))

  -- the row and the aggregate
  gathered-width : length (cs ++ (node.id ∷ [])) ≡ length cs + 1
  gathered-width = length-append cs (node.id ∷ [])

  abbrev aggregated : Kind → Env → ℕ
  aggregated kind env = gathered (operator_by kind node) ds (bind cs (row_at src (length cs) entry) env) (rows_from behind k (length ds) entry)

  abbrev Gathers : Kind → Type 0
  Gathers kind =
      (has_test kind ≡ true)
      × (Room kind → dst + (length cs + 1) ≤ src)
      × ((env : Env) (cell : ℕ) (exit : List ℕ) → Room kind → cell ≡ aggregated kind env
      → Written dst (length cs + 1) (row_at src (length cs) entry ++ (cell ∷ [])) entry exit → Given kind env 1 exit)

  pub gathers : (node.kind ≡ Fold) ⊎ (node.kind ≡ Pair) → Gathers node.kind
  unfolding operator_by emitted emit_within passing aggregate_in has_test
  gathers =
      ⊎_elim
      (λ e.
      subst Gathers (sym e) (
        refl,
        λ h. omega (arith, gathered-width, h.below),
        λ env cell exit h is g.
            wider (sym gathered-width) (emitted-one (ap (λ x. (row_at src (length cs) entry ++ (x ∷ [])) ∷ []) (sym is)) g (omega (arith, gathered-width, h.below))),
      ))
      (λ e.
      subst Gathers (sym e) (
        refl,
        λ h. omega (arith, gathered-width, h.below),
        λ env cell exit h is g.
            wider (sym gathered-width) (emitted-one (ap (λ x. (row_at src (length cs) entry ++ (x ∷ [])) ∷ []) (sym is)) g (omega (arith, gathered-width, h.below))),
      ))

  -- the row is kept, or not: there is no region, so it only moves down
  abbrev Keeping : Kind → Type 0
  Keeping kind =
      (Room kind → dst ≤ src)
      × ((env : Env) (r : ℕ) (exit : List ℕ)
      → let l = row_at src (length cs) entry in
      Emitted (emitted (operator_by kind node) ds l (bind cs l env) (rows_from behind k (length ds) entry)) (length cs) 1 r dst (src + length cs) entry exit
      → Given kind env r exit)

  pub keeping : KeepsRows node.kind → Keeping node.kind
  unfolding operator_by
  keeping =
      by-keeping Keeping (λ h. omega (arith, h.below), λ env r exit g. g) (λ h. omega (arith, h.below), λ env r exit g. g)
      (λ h. omega (arith, h.below), λ env r exit g. g) (λ h. omega (arith, h.below), λ env r exit g. g) node.kind

-- ---- a node whose columns are found: what is written is what it gives
module _ (node : Node) (f : Found) (cs ds : List ℕ) (src dst behind k : ℕ) (entry : List ℕ) (room : StepRoom (operator_of node) cs ds k src dst behind) where
  abbrev rights : List Row
  rights = rows_from behind k (length ds) entry

  abbrev Gives-rows : ℕ → List ℕ → Type 0
  Gives-rows r exit = EmitGiven node f cs ds src dst behind k entry r exit

  pub cell-given : (node.kind ≡ Fold) ⊎ (node.kind ≡ Pair) → (cell : ℕ) (exit : List ℕ) → cell ≡ found_cell f (drop src entry) rights
      → Written dst (length cs + 1) (row_at src (length cs) entry ++ (cell ∷ [])) entry exit → Gives-rows 1 exit
  cell-given e cell exit is g env found =
      let p = gathers node cs ds src dst behind k entry e in
      p.2 env cell exit room (is ∙ cell_row node cs ds env f found src entry rights p.0) g

  module _ (keeps : KeepsRows node.kind) where
    pub kept-given : (exit : List ℕ) → keeps_row node.kind f (drop src entry) rights ≡ true → behind ≤ length entry → exit ≡ paste entry dst (drop src entry) (length cs)
        → Gives-rows 1 exit
    kept-given exit is h e env found =
        let p = keeping node cs ds src dst behind k entry keeps in
        let down : dst ≤ src = p.0 room in
        let long : length (drop src entry) ≡ length entry - src = length-drop src entry in
        let copied = written_copy entry exit (drop src entry) dst (length cs) e (omega (arith, room.apart)) (omega (arith, room.apart)) in
        let row : Row = row_at src (length cs) entry in
        p.1 env 1 exit (emitted-one (kept_row node cs ds env f found src entry rights keeps ∙ ap (λ b. cond b (row ∷ []) []) is) copied (omega arith))

    pub none-given : keeps_row node.kind f (drop src entry) rights ≡ false → Gives-rows 0 entry
    none-given is env found =
        let row : Row = row_at src (length cs) entry in
        (keeping node cs ds src dst behind k entry keeps).1 env 0 entry
        (emitted-none (length cs) dst (src + length cs) (kept_row node cs ds env f found src entry rights keeps ∙ ap (λ b. cond b (row ∷ []) []) is))

-- the kinds with two children that compare keys: a Semi, an Anti, a Pair
no_keys : {A : Type 0} → false ≡ true → A
no_keys e = let z : ◌≡◌ {A = ℕ} 0 1 = ap (λ b. cond b 1 0) e in absurd (omega arith)

pub keyed_kinds : (node : Node) → has_keys node.kind ≡ true → arity (operator_of node) ≡ 2 → (node.kind ≡ Pair → ⊥) → (node.kind ≡ Semi) ⊎ (node.kind ≡ Anti)
unfolding has_keys operator_by
keyed_kinds node =
    each_kind (λ k. has_keys k ≡ true → arity (operator_by k node) ≡ 2 → (k ≡ Pair → ⊥) → (k ≡ Semi) ⊎ (k ≡ Anti))
    (λ e h g. no_keys e) (λ e h g. no_keys e) (λ e h g. no_keys e) (λ e h g. no_keys e) (λ e h g. no_keys e) (λ e h g. no_keys e)
    (λ e h g. inl refl) (λ e h g. inr refl)
    (λ e h g. no_keys e) (λ e h g. no_keys e) (λ e h g. no_keys e) (λ e h g. no_keys e)
    (λ e h g. absurd (g refl)) (λ e h g. absurd (omega arith)) (λ e h g. no_keys e) (λ k e h g. no_keys e)
    node.kind

-- .. which keep rows
pub keeps_keyed : {k : Kind} → (k ≡ Semi) ⊎ (k ≡ Anti) → KeepsRows k
keeps_keyed = ⊎_elim inl (λ e. inr (inl e))
