use Rattle.std.specs.Prelude.{Ok}
use mathlib.Core.Bool.{true}
use mathlib.Core.List.{List}
use lib.ListN.{take}
use Rattle.reading.specs.Bytes.{starts_with}
use Prim.Native.Nat.{ℕ, ◌+◌, ◌-◌, ◌≤◌}
use native.Mathlib.Omega.{arith}
use mathlib.Core.Path.{◌≡◌, sym, ap, ◌∙◌}
use lib.ListN.{length, drop}
use Rattle.reading.specs.TableSet.{table_mark, size_allowed, cell_bytes, cells_allowed, read_table}
use Rattle.reading.proofs.Laws.{rest-is, cells_are_lem, read_short, read-mark, read-size, read-cut, read-code, read_whole}
use Rattle.reading.proofs.set.read_table.Goals as goal
use Rattle.reading.proofs.set.read_table.Goals.{After-starts_with, After-table-1, Else-not-size_allowed, Else-not-starts_with, Else-table-lt8, Else-table-size}

-- the table, as the part of the set that is looked at
abbrev table : List ℕ → ℕ → List ℕ
table set at = take (length set - at) (drop at set)

-- what is known after each test that failed
long : (c : Else-table-lt8) → 8 ≤ length (table c.args.set.now c.args.at)
long c = omega arith

marked-is : (c : After-starts_with)
    → c.starts_with.result ≡ starts_with (table_mark c.args.version) (table c.args.set.now c.args.at)
marked-is c = c.starts_with.ensures ∙ ap (λ (m : List ℕ). starts_with m (table c.args.set.now c.args.at)) c.table_mark-mark.ensures

marked : (c : Else-not-starts_with) → starts_with (table_mark c.args.version) (table c.args.set.now c.args.at) ≡ true
marked c = sym (c.starts_with.ensures ∙ ap (λ (m : List ℕ). starts_with m (table c.args.set.now c.args.at)) c.table_mark-mark.ensures) ∙ c.if-not-starts_with.false

sized : (c : Else-not-size_allowed) → size_allowed (table c.args.set.now c.args.at) ≡ true
sized c = sym c.size_allowed.ensures ∙ c.if-not-size_allowed.false

fitting : (c : Else-table-size) → 8 + cell_bytes (table c.args.set.now c.args.at) ≤ length (table c.args.set.now c.args.at)
fitting c = omega (arith, c.cell_bytes-size.ensures.value)

pub returns-then-table-lt8 : goal.returns-then-table-lt8
returns-then-table-lt8 c =
    let a = c.args in
    sym (ap (read_table a.version) (sym (rest-is a.at a.set.now)) ∙ read_short _ _ (omega arith))

pub returns-then-not-starts_with : goal.returns-then-not-starts_with
returns-then-not-starts_with c =
    let a = c.args in
    sym (ap (read_table a.version) (sym (rest-is a.at a.set.now)) ∙ read-mark _ _ (long (goal.at.returns-then-not-starts_with c).Else-table-lt8) (sym (marked-is (goal.at.returns-then-not-starts_with c).After-starts_with) ∙ c.if-not-starts_with.true))

pub returns-then-not-size_allowed : goal.returns-then-not-size_allowed
returns-then-not-size_allowed c =
    let a = c.args in
    sym (ap (read_table a.version) (sym (rest-is a.at a.set.now))
    ∙ read-size _ _ (long (goal.at.returns-then-not-size_allowed c).Else-table-lt8) (marked (goal.at.returns-then-not-size_allowed c).Else-not-starts_with) (sym c.size_allowed.ensures ∙ c.if-not-size_allowed.true))

pub returns-then-table-size : goal.returns-then-table-size
returns-then-table-size c =
    let a = c.args in
    sym (ap (read_table a.version) (sym (rest-is a.at a.set.now))
    ∙ read-cut _ _ (long (goal.at.returns-then-table-size c).Else-table-lt8) (marked (goal.at.returns-then-table-size c).Else-not-starts_with) (sized (goal.at.returns-then-table-size c).Else-not-size_allowed) (omega (arith, c.cell_bytes-size.ensures.value)))

pub returns-then-not-cells_allowed : goal.returns-then-not-cells_allowed
returns-then-not-cells_allowed c =
    let a = c.args in
    sym (ap (read_table a.version) (sym (rest-is a.at a.set.now))
    ∙ read-code _ _ (long (goal.at.returns-then-not-cells_allowed c).Else-table-lt8) (marked (goal.at.returns-then-not-cells_allowed c).Else-not-starts_with) (sized (goal.at.returns-then-not-cells_allowed c).Else-not-size_allowed) (fitting (goal.at.returns-then-not-cells_allowed c).Else-table-size)
    (ap (cells_allowed a.version) (sym (cells_are_lem _ _ _ c.cell_bytes-size.ensures.value)) ∙ sym c.cells_allowed.ensures ∙ c.if-not-cells_allowed.true))

pub returns : goal.returns
returns c =
    let a = c.args in
    ap Ok (ap (λ (n : ℕ). 8 + n) c.cell_bytes-size.ensures.value)
    ∙ sym (ap (read_table a.version) (sym (rest-is a.at a.set.now))
    ∙ read_whole _ _ (long (goal.at.returns c).Else-table-lt8) (marked (goal.at.returns c).Else-not-starts_with) (sized (goal.at.returns c).Else-not-size_allowed) (fitting (goal.at.returns c).Else-table-size)
    (ap (cells_allowed a.version) (sym (cells_are_lem _ _ _ c.cell_bytes-size.ensures.value)) ∙ sym c.cells_allowed.ensures ∙ c.if-not-cells_allowed.false))
