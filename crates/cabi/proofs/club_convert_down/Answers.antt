use Rattle.conversion.proofs.Few.{converted-few}
use Rattle.cabi.proofs.club_convert_down.Goals as goal

pub convert_word-requires : goal.convert_word-requires
convert_word-requires c = converted-few _ _ _ _ _ _ _ _ _ c.convert_down.ensures
