-- What an input is turned back for, and the number of each (docs/DEFINITION.md, "Refusals"). The converter's and the other calls' refusals
-- stand here too, so that every call answers by the same ones. Definitions only.
use Rattle.std.specs.Prelude.{ℕ, eqb, if◌then◌else◌, Result, Ok, Err}
use Rattle.reading.specs.declared.refusal.Refusal.{Refusal}
use Rattle.reading.specs.declared.refusal.Refusal.TheVariants.{TableShort, TableMark, TableSize, CellCode, SetLong, PlanLength, PlanMark, NodeCount, NodeField, Tree, NoTable, Id, RowWide, BoundHigh, OutputShort, ScratchShort, Shares, FewColumns, StepList, StepUnfit, NumberWide}

-- its number
abbrev pub refusal_number : Refusal → ℕ
refusal_number TableShort = 1
refusal_number TableMark = 2
refusal_number TableSize = 3
refusal_number CellCode = 4
refusal_number SetLong = 5
refusal_number PlanLength = 6
refusal_number PlanMark = 7
refusal_number NodeCount = 8
refusal_number NodeField = 9
refusal_number Tree = 10
refusal_number NoTable = 11
refusal_number Id = 12
refusal_number RowWide = 13
refusal_number BoundHigh = 14
refusal_number OutputShort = 15
refusal_number ScratchShort = 16
refusal_number Shares = 17
refusal_number FewColumns = 18
refusal_number StepList = 20
refusal_number StepUnfit = 21
refusal_number NumberWide = 25

-- the number of a result: 0 where nothing is turned back
abbrev pub number_of : {A : Type 0} → Result A Refusal → ℕ
number_of (Ok x) = 0
number_of (Err refusal) = refusal_number refusal

-- the refusal that has this number; of a number that no refusal has, the last one
unfoldable pub refusal_of : ℕ → Refusal
refusal_of number =
    if eqb number 1 then TableShort else
    if eqb number 2 then TableMark else
    if eqb number 3 then TableSize else
    if eqb number 4 then CellCode else
    if eqb number 5 then SetLong else
    if eqb number 6 then PlanLength else
    if eqb number 7 then PlanMark else
    if eqb number 8 then NodeCount else
    if eqb number 9 then NodeField else
    if eqb number 10 then Tree else
    if eqb number 11 then NoTable else
    if eqb number 12 then Id else
    if eqb number 13 then RowWide else
    if eqb number 14 then BoundHigh else
    if eqb number 15 then OutputShort else
    if eqb number 16 then ScratchShort else
    if eqb number 17 then Shares else
    if eqb number 18 then FewColumns else
    if eqb number 20 then StepList else
    if eqb number 21 then StepUnfit else
    NumberWide
