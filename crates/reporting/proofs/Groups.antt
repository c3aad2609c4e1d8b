-- Group: the keys given so far with their aggregates, and what the rest adds to them. Assumes nothing.
use mathlib.Core.Path.{◌≡◌, refl, sym, ap, ap₂, ◌∙◌}
use mathlib.Core.Bool.{Bool, true, false, ◌&&◌, ◌||◌, or-false}
use mathlib.Core.List.{List, [], ◌∷◌, ◌++◌, map, append_assoc, append-nil}
use Prim.Native.Nat.{ℕ, ◌+◌, ◌*◌, ◌-◌, ◌≤◌, ◌<◌}
use native.Mathlib.Nat.{add-zero, zero-mul}
use native.Mathlib.Numerals.{add-one}
use native.Mathlib.Omega.{arith}
use lib.Dec.{eqb}
use lib.ListN.{length, take, drop, get_or, set}
use lib.Seq.{paste, paste-zero, paste-suc, length-paste, drop-cons, drop-drop, drop-set-lt}
use borrow.Author.Tests.{eqb-true, eq-eqb, ne_eqb}
use Rattle.algebra.specs.Lists.{same, any, firsts, flat_map}
use Rattle.algebra.specs.Cells.{aggregate}
use Rattle.algebra.specs.Plans.{Row, Env, bind, emit_within, act_within}
use Rattle.algebra.proofs.Lists.{any-map}
use Rattle.reading.specs.Tree.{aggregate_by, operator_of, operator_by}
use Rattle.reading.specs.declared.kinds.Kind.{Kind}
use Rattle.reading.specs.declared.kinds.Kind.TheVariants.{Group}
use Rattle.reading.specs.declared.plan.Node.{Node}
use Rattle.reporting.specs.Grouping.{key_row, grouped_by, KeyWritten}
use Rattle.reporting.specs.Index.{before}
use Rattle.reporting.specs.Keys.{has_test}
use Rattle.reporting.specs.Rows.{chunk, Gives, acted, gathered, passing, aggregate_in}
use Rattle.reporting.specs.Sides.{FoundInside, FoundFor, found_cells, found_cell}
use Rattle.reporting.specs.declared.side.Found.{Found}
use Rattle.reporting.proofs.Chunks.{mono, turns, times_suc, next_row, chunk_snoc, chunk-same, paste-front, paste-row, paste-rest}
use Rattle.reporting.proofs.Copies.{written-cell}
use Rattle.reporting.proofs.Earliest.{is-first, is_later}
use Rattle.reporting.proofs.Firsts.{beyond, beyond-none, beyond_seen, beyond_new}
use Rattle.reporting.proofs.Numbers.{any_snoc}
use Rattle.reporting.proofs.Sides.{found-cells-left, found-gathered}

map_snoc : (f : Row → Row) (xs : List Row) (y : Row) → map f (xs ++ (y ∷ [])) ≡ map f xs ++ (f y ∷ [])
map_snoc f [] y = refl
map_snoc f (x ∷ xs) y = ap (λ (l : List Row). f x ∷ l) (map_snoc f xs y)

-- ---- a key among the rows given

key-cell : (at : ℕ) (cells : List ℕ) → at < length cells → take 1 (take 2 (drop at cells)) ≡ get_or cells at 0 ∷ []
key-cell at cells h = ap (λ (l : List ℕ). take 1 (take 2 l)) (drop-cons cells at 0 h)

and-true : (b : Bool) → (b && true) ≡ b
and-true true = refl
and-true false = refl

same_key : (at key : ℕ) (cells : List ℕ) → at < length cells → same (take 1 (take 2 (drop at cells))) (key ∷ []) ≡ eqb (get_or cells at 0) key
same_key at key cells h = ap (λ (l : List ℕ). same l (key ∷ [])) (key-cell at cells h) ∙ and-true (eqb (get_or cells at 0) key)

pub key_here : (at key : ℕ) (cells : List ℕ) → at < length cells → get_or cells at 0 ≡ key → same (take 1 (take 2 (drop at cells))) (key ∷ []) ≡ true
key_here at key cells h e = same_key at key cells h ∙ eq-eqb (get_or cells at 0) key e

pub key-other : (at key : ℕ) (cells : List ℕ) → at < length cells → (get_or cells at 0 ≡ key → ⊥) → same (take 1 (take 2 (drop at cells))) (key ∷ []) ≡ false
key-other at key cells h e = same_key at key cells h ∙ ne_eqb (get_or cells at 0) key e

-- two cells written one after the other
pub two_cells : (cells : List ℕ) (at x y : ℕ) → at + 2 ≤ length cells → set (set cells at x) (at + 1) y ≡ paste cells at (x ∷ y ∷ []) 2
two_cells cells at x y h =
    let s : List ℕ = x ∷ y ∷ [] in
    let one : set cells at x ≡ paste cells at s 1 = ap₂ (λ (l : List ℕ) (n : ℕ). set l n x) (paste-zero cells at s) (sym (add-zero at)) ∙ paste-suc cells at s 0 0 (omega arith) (omega arith) in
    ap (λ (l : List ℕ). set l (at + 1) y) one ∙ paste-suc cells at s 1 0 (omega arith) (omega arith)

-- ---- a key and its aggregate, written as a row: the key stands at dst first, and is the left row of the aggregate
module _ (f : Found) (cells : List ℕ) (dst own m w key : ℕ) (inside : FoundInside f 1 w) (fits : dst + 2 ≤ own) (long : own ≤ length cells) where
  key-found : found_cell f (drop dst (set cells dst key)) (chunk m w (drop own (set cells dst key))) ≡ found_cell f (key ∷ []) (chunk m w (drop own cells))
  key-found =
      let c : List ℕ = set cells dst key in
      ap (aggregate (aggregate_by f.aggregate 0))
      (sym (found-cells-left f 1 w (drop dst c) (chunk m w (drop own c)) inside)
      ∙ ap₂ (found_cells f) (written-cell cells dst key (omega arith)).here (ap (chunk m w) (drop-set-lt own cells dst key (omega arith))))

  pub key-written : (v : ℕ) → v ≡ found_cell f (drop dst (set cells dst key)) (chunk m w (drop own (set cells dst key))) → KeyWritten f key dst (chunk m w (drop own cells)) cells (set (set cells dst key) (dst + 1) v)
  key-written v e = two_cells cells dst key v (omega arith) ∙ ap (λ (y : ℕ). paste cells dst (key ∷ y ∷ []) 2) (e ∙ key-found)

-- it stands behind the rows given
chunk-given : (cells cells' : List ℕ) (out dst x y : ℕ) → dst ≡ out * 2 → dst + 2 ≤ length cells → cells' ≡ paste cells dst (x ∷ y ∷ []) 2 → chunk (out + 1) 2 cells' ≡ chunk out 2 cells ++ ((x ∷ y ∷ []) ∷ [])
chunk-given cells cells' out dst x y to inside e =
    let row : Row = x ∷ y ∷ [] in
    let fits : dst ≤ length cells = omega arith in
    let long : 2 ≤ length row = omega arith in
    let front : take (out * 2) cells' ≡ take (out * 2) cells = rw (← to) (ap (take dst) e ∙ paste-front cells dst row 2 fits long) in
    let here : take 2 (drop (out * 2) cells') ≡ row = rw (← to) (ap (λ (l : List ℕ). take 2 (drop dst l)) e ∙ paste-row cells dst row 2 fits long) in
    ap (λ (k : ℕ). chunk k 2 cells') (add-one out) ∙ chunk_snoc out 2 cells'
    ∙ ap₂ (λ (a : List Row) (b : Row). a ++ (b ∷ [])) (chunk-same out 2 cells' cells front) here

-- ---- what Group gives
acted-group : (node : Node) (cs : List ℕ) (env : Env) (rows : List Row) → node.kind ≡ Group
    → acted (operator_of node) cs env rows ≡ flat_map (λ v. (v ++ (gathered (operator_of node) cs (bind (node.left ∷ []) v env) rows ∷ [])) ∷ []) (firsts (map (λ q. bind cs q env node.right ∷ []) rows))
unfolding operator_by acted act_within emit_within passing aggregate_in
acted-group node cs env rows e =
    ap (λ (k : Kind). acted (operator_by k node) cs env rows) e
    ∙ ap (λ (k : Kind). flat_map (λ v. (v ++ (gathered (operator_by k node) cs (bind (node.left ∷ []) v env) rows ∷ [])) ∷ []) (firsts (map (λ q. bind cs q env node.right ∷ []) rows))) (sym e)

-- by the columns that were found: the key of a row is its right key
pub group-rows : (node : Node) (cs : List ℕ) (env : Env) (f : Found) (key : Row → ℕ) (rows : List Row) → node.kind ≡ Group → FoundFor node (node.left ∷ []) cs env f → ((q : Row) → key q ≡ bind cs q env node.right)
    → acted (operator_of node) cs env rows ≡ grouped_by f key rows
unfolding has_test
group-rows node cs env f key rows e found is =
    let tested : has_test node.kind ≡ true = ap has_test e in
    acted-group node cs env rows e
    ∙ sym (λ i. flat_map (λ v. (v ++ (found-gathered node (node.left ∷ []) cs env f found tested v rows i ∷ [])) ∷ []) (firsts (map (λ q. is q i ∷ []) rows)))

-- ---- the loop of Group: the answer is what stands at the front, and what the rows that are left will add to it

-- what they will add to the rows given
abbrev adds : Found → (Row → ℕ) → List Row → List Row → List Row → List Row
adds f key rows given left = given ++ flat_map (λ v. key_row f rows v ∷ []) (beyond (map (take 1) given) (firsts (map (λ q. key q ∷ []) left)))

-- whether a key is among the rows given
abbrev pub is_given : ℕ → List Row → Bool
is_given x given = any (λ q. same (take 1 q) (x ∷ [])) given

pub record Grouping (f : Found) (key : Row → ℕ) (m w own : ℕ) (first cells : List ℕ) (i out src dst : ℕ) : Type 0 where
  pub within : i ≤ m
  pub few : out ≤ i
  pub src_at : src ≡ own + i * w
  pub dst-at : dst ≡ out * 2
  pub long : length cells ≡ length first
  pub rows : drop own cells ≡ drop own first
  pub so_far : grouped_by f key (chunk m w (drop own first)) ≡ adds f key (chunk m w (drop own first)) (chunk out 2 cells) (chunk (m - i) w (drop src cells))

-- the keys given are those of the first i rows
pub record GivenKeys (key : Row → ℕ) (w own : ℕ) (first cells : List ℕ) (i out : ℕ) : Type 0 where
  pub same_keys : (x : ℕ) → is_given x (chunk out 2 cells) ≡ any (λ q. eqb (key q) x) (chunk i w (drop own first))

module _ (f : Found) (key : Row → ℕ) (m w own : ℕ) (first : List ℕ) where
  pub grouping_start : Grouping f key m w own first first 0 0 own 0
  unfolding chunk
  grouping_start =
      let all : m ≡ m - 0 = omega arith in
      let rows : List Row = chunk m w (drop own first) in
      record {
        within = omega arith;
        few = omega arith;
        src_at = rw (zero-mul, add-zero);
        dst-at = rw zero-mul;
        long = refl;
        rows = refl;
        so_far =
            ap (λ (k : ℕ). flat_map (λ v. key_row f rows v ∷ []) (firsts (map (λ q. key q ∷ []) (chunk k w (drop own first))))) all
            ∙ ap (flat_map (λ v. key_row f rows v ∷ [])) (sym (beyond-none (firsts (map (λ q. key q ∷ []) (chunk (m - 0) w (drop own first))))));
      }

  pub grouping_done : (cells : List ℕ) (i out src dst : ℕ) → Grouping f key m w own first cells i out src dst → m ≤ i → Gives (grouped_by f key (chunk m w (drop own first))) 2 m out cells
  unfolding chunk
  grouping_done cells i out src dst p h =
      let e : m - i ≡ 0 = omega arith in
      record {
        is = sym (p.so_far ∙ ap (λ (k : ℕ). adds f key (chunk m w (drop own first)) (chunk out 2 cells) (chunk k w (drop src cells))) e ∙ append-nil (chunk out 2 cells));
        few = omega (arith, p.few, p.within);
      }

  pub given_start : GivenKeys key w own first first 0 0
  unfolding chunk
  given_start = record { same_keys = λ x. refl }

  module _ (cells cells' : List ℕ) (i out out' src dst dst' : ℕ) (p : Grouping f key m w own first cells i out src dst) (h : i < m) (x : ℕ) (ex : x ≡ key (take w (drop src cells))) where
    -- the key at hand, x, was given: nothing is written
    pub grouping_seen : is_given x (chunk out 2 cells) ≡ true → cells' ≡ cells → out' ≡ out → dst' ≡ dst → Grouping f key m w own first cells' (i + 1) out' (src + w) dst'
    grouping_seen seen e₁ e₂ e₃ =
        let all : List Row = chunk m w (drop own first) in
        let given : List Row = chunk out 2 cells in
        let row : Row = key (take w (drop src cells)) ∷ [] in
        let rest : List Row = chunk (m - (i + 1)) w (drop (src + w) cells) in
        let next : Grouping f key m w own first cells (i + 1) out (src + w) dst = record {
          within = omega arith;
          few = omega (arith, p.few);
          src_at = rw (add-one i, times_suc i w) (omega (arith, p.src_at));
          dst-at = p.dst-at;
          long = p.long;
          rows = p.rows;
          so_far =
              p.so_far
              ∙ ap (adds f key all given) (next_row m w i src cells h)
              ∙ ap (λ (l : List Row). given ++ flat_map (λ v. key_row f all v ∷ []) l) (beyond_seen (map (take 1) given) (map (λ q. key q ∷ []) rest) row (any-map (λ k. same k row) (take 1) given ∙ ap (λ (k : ℕ). is_given k given) (sym ex) ∙ seen));
        } in
        rw (e₁, e₂, e₃) next

    -- it is new: it is written with its aggregate
    pub grouping_new : is_given x (chunk out 2 cells) ≡ false → m * 2 ≤ own → own + m * w ≤ length cells
        → KeyWritten f x dst (chunk m w (drop own cells)) cells cells' → out' ≡ out + 1 → dst' ≡ dst + 2 → Grouping f key m w own first cells' (i + 1) out' (src + w) dst'
    grouping_new new room inside e e₂ e₃ =
        let o : out * 2 ≤ i * 2 = mono out i 2 p.few in
        let t : i * 2 + 2 ≤ m * 2 = turns m 2 i h in
        let at : src ≡ own + i * w = p.src_at in
        let to : dst ≡ out * 2 = p.dst-at in
        let all : List Row = chunk m w (drop own first) in
        let row : Row = key (take w (drop src cells)) ∷ [] in
        let more : Row = key_row f all row in
        let e₁ : cells' ≡ paste cells dst more 2 = e ∙ ap₂ (λ (k : ℕ) (rs : List Row). paste cells dst (key_row f rs (k ∷ [])) 2) ex (ap (chunk m w) p.rows) in
        let given : List Row = chunk out 2 cells in
        let rest : List Row = chunk (m - (i + 1)) w (drop (src + w) cells) in
        let fits : dst ≤ length cells = omega arith in
        let long : 2 ≤ length more = omega arith in
        let left : chunk (m - (i + 1)) w (drop (src + w) cells') ≡ rest = ap (chunk (m - (i + 1)) w) (ap (drop (src + w)) e₁ ∙ paste-rest cells dst more 2 fits long (src + w) (omega arith)) in
        let next : Grouping f key m w own first cells' (i + 1) (out + 1) (src + w) (dst + 2) = record {
          within = omega arith;
          few = omega (arith, p.few);
          src_at = rw (add-one i, times_suc i w) (omega (arith, p.src_at));
          dst-at = omega arith;
          long = ap length e₁ ∙ length-paste cells dst more 2 (omega arith) long ∙ p.long;
          rows = ap (drop own) e₁ ∙ paste-rest cells dst more 2 fits long own (omega arith) ∙ p.rows;
          so_far =
              p.so_far
              ∙ ap (adds f key all given) (next_row m w i src cells h)
              ∙ ap (λ (l : List Row). given ++ flat_map (λ v. key_row f all v ∷ []) l) (beyond_new (map (take 1) given) (map (λ q. key q ∷ []) rest) row (any-map (λ k. same k row) (take 1) given ∙ ap (λ (k : ℕ). is_given k given) (sym ex) ∙ new))
              ∙ sym (append_assoc given (more ∷ []) (flat_map (λ v. key_row f all v ∷ []) (beyond (map (take 1) given ++ (row ∷ [])) (firsts (map (λ q. key q ∷ []) rest)))))
              ∙ ap (λ (l : List Row). (given ++ (more ∷ [])) ++ flat_map (λ v. key_row f all v ∷ []) (beyond l (firsts (map (λ q. key q ∷ []) rest)))) (sym (map_snoc (take 1) given more))
              ∙ ap₂ (adds f key all) (sym (chunk-given cells cells' out dst (key (take w (drop src cells))) (found_cell f row all) to (omega arith) e₁)) (sym left);
        } in
        rw (e₂, e₃) next

    -- ---- through an index
    module _ (g : GivenKeys key w own first cells i out) where
      -- the row at hand, by its number
      hand : key (take w (drop (i * w) (drop own first))) ≡ x
      hand = sym (ex ∙ ap (λ (l : List ℕ). key (take w l)) (ap (λ (n : ℕ). drop n cells) p.src_at ∙ sym (drop-drop (i * w) own cells) ∙ ap (drop (i * w)) p.rows))

      -- it is the first with its key where no earlier one is, and then the key is new
      module _ (r : ℕ) (er : r ≡ before (λ q. eqb (key q) x) (chunk m w (drop own cells))) where
        first-at : before (λ q. eqb (key q) x) (chunk m w (drop own first)) ≡ r
        first-at = sym (er ∙ ap (λ (l : List ℕ). before (λ q. eqb (key q) x) (chunk m w l)) p.rows)

        pub first-new : r ≡ i → is_given x (chunk out 2 cells) ≡ false
        first-new e = g.same_keys x ∙ is-first (λ q. eqb (key q) x) m w i (drop own first) h (eq-eqb (key (take w (drop (i * w) (drop own first)))) x hand) (first-at ∙ e)

        pub first-given : (r ≡ i → ⊥) → is_given x (chunk out 2 cells) ≡ true
        first-given n = g.same_keys x ∙ is_later (λ q. eqb (key q) x) m w i (drop own first) h (eq-eqb (key (take w (drop (i * w) (drop own first)))) x hand) (λ e. n (sym first-at ∙ e))

      -- the keys of the rows so far and of the one at hand
      keys-more : (z : ℕ) → any (λ q. eqb (key q) z) (chunk (i + 1) w (drop own first)) ≡ (any (λ q. eqb (key q) z) (chunk i w (drop own first)) || eqb x z)
      keys-more z =
          ap (any (λ q. eqb (key q) z)) (ap (λ (k : ℕ). chunk k w (drop own first)) (add-one i) ∙ chunk_snoc i w (drop own first))
          ∙ any_snoc (λ q. eqb (key q) z) (chunk i w (drop own first)) (take w (drop (i * w) (drop own first)))
          ∙ ap (λ (k : ℕ). any (λ q. eqb (key q) z) (chunk i w (drop own first)) || eqb k z) hand

      keys-same : is_given x (chunk out 2 cells) ≡ true → (z : ℕ) → (any (λ q. eqb (key q) z) (chunk i w (drop own first)) || eqb x z) ≡ any (λ q. eqb (key q) z) (chunk i w (drop own first))
      keys-same seen z =
          let A : Bool = any (λ q. eqb (key q) z) (chunk i w (drop own first)) in
          (elim (eqb x z) as (λ b. eqb x z ≡ b → (A || b) ≡ A) [
            | true ↦ λ e. let yes : A ≡ true = sym (g.same_keys z) ∙ ap (λ (k : ℕ). is_given k (chunk out 2 cells)) (sym (eqb-true x z e)) ∙ seen in ap (λ (b : Bool). b || true) yes ∙ sym yes
            | false ↦ λ e. or-false A
          ]) refl

      pub given_seen : is_given x (chunk out 2 cells) ≡ true → cells' ≡ cells → out' ≡ out → GivenKeys key w own first cells' (i + 1) out'
      given_seen seen e₁ e₂ =
          let next : GivenKeys key w own first cells (i + 1) out = record { same_keys = λ z. g.same_keys z ∙ sym (keys-more z ∙ keys-same seen z) } in
          rw (e₁, e₂) next

      pub given_new : m * 2 ≤ own → own + m * w ≤ length cells → KeyWritten f x dst (chunk m w (drop own cells)) cells cells' → out' ≡ out + 1 → GivenKeys key w own first cells' (i + 1) out'
      given_new room inside e e₂ =
          let o : out * 2 ≤ i * 2 = mono out i 2 p.few in
          let t : i * 2 + 2 ≤ m * 2 = turns m 2 i h in
          let to : dst ≡ out * 2 = p.dst-at in
          let y : ℕ = found_cell f (x ∷ []) (chunk m w (drop own cells)) in
          let next : GivenKeys key w own first cells' (i + 1) (out + 1) = record {
            same_keys = λ z.
                ap (is_given z) (chunk-given cells cells' out dst x y to (omega arith) e)
                ∙ any_snoc (λ q. same (take 1 q) (z ∷ [])) (chunk out 2 cells) (x ∷ y ∷ [])
                ∙ ap₂ (λ (a b : Bool). a || b) (g.same_keys z) (and-true (eqb x z))
                ∙ sym (keys-more z);
          } in
          rw e₂ next
