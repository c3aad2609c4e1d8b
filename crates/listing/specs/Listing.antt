-- How the listing prints a cell (docs/DEFINITION.md, "The listing"). Definitions only.
use Rattle.std.specs.Prelude.{ℕ, suc, eqb, ℤ, pos, negsuc, if◌then◌else◌, List, [], ◌∷◌}
use Rattle.std.specs.Fmt.{decimal}
use Rattle.listing.specs.declared.cell.Shown.{Shown}
use Rattle.listing.specs.declared.cell.Shown.TheVariants.{Blank, OffScale, BelowZero, Number}

-- By its code: blank (-9,223,372,036,854,775,808), off scale (9,223,372,036,854,775,807), or a number; one below zero is given by its size.
unfoldable pub shown_of : ℤ → Shown
shown_of (pos n) = if eqb n 9223372036854775807 then OffScale else Number n
shown_of (negsuc n) = if eqb n 9223372036854775807 then Blank else BelowZero (suc n)

-- The bytes that are printed: `-` for blank, `+` for off scale, and else the number in decimal, behind a `-` where it is below zero.
abbrev pub shown_text : Shown → List ℕ
shown_text Blank = 45 ∷ []
shown_text OffScale = 43 ∷ []
shown_text (BelowZero size) = 45 ∷ decimal size
shown_text (Number number) = decimal number
