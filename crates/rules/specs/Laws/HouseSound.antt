-- The house pile is sound.
use Rattle.rule.specs.Meanings.{Sound}
use Rattle.rule.specs.Laws.Mirror.{turned_sound}
use Rattle.rule.specs.Laws.Sequence.{both_sound}
use Rattle.rules.specs.House.{house}
use Rattle.rules.specs.Laws.NotFirstSound.{not_first_sound}
use Rattle.rules.specs.Laws.OverloadSound.{overload_sound}
use Rattle.rules.specs.Laws.TimeTables.{time_table_sound}

pub house_sound : Sound house
house_sound =
    both_sound _ _ overload_sound
    (both_sound _ _ time_table_sound
    (both_sound _ _ not_first_sound
    (both_sound _ _ (turned_sound _ time_table_sound) (turned_sound _ not_first_sound))))
