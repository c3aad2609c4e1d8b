-- The worked examples, computed. Assumes nothing.
use mathlib.Core.Path.{refl}
use Rattle.algebra.specs.Cells.{compares}
use Rattle.prizes.specs.Payments.{one_each, place_pence, runs, pay_runs, club_line}
use Rattle.prizes.specs.Examples.{Examples}

pub examples : Examples
unfolding compares one_each place_pence runs pay_runs club_line
examples =
    record {
      example1 = record { places = refl; rows_paid = refl; line = refl };
      example2 = record { places = refl; rows_paid = refl; line = refl };
      blank_between = record { places = refl; rows_paid = refl; line = refl };
      more_places = record { places = refl; rows_paid = refl; line = refl };
      no_rows = record { places = refl; rows_paid = refl; line = refl };
      two_blanks = (refl, record { places = refl; rows_paid = refl; line = refl });
    }
