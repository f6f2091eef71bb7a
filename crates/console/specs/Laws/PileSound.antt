-- Every pile that a word can name is sound.
use Rattle.rule.specs.Meanings.{Sound}
use Rattle.rule.specs.Laws.Mirror.{turned_sound}
use Rattle.rule.specs.Laws.Sequence.{both_sound}
use Rattle.rule.specs.Laws.Tables.{idle_sound}
use Rattle.rules.specs.Laws.HouseSound.{house_sound}
use Rattle.rules.specs.Laws.NotFirstSound.{not_first_sound}
use Rattle.rules.specs.Laws.OverloadSound.{overload_sound}
use Rattle.rules.specs.Laws.TimeTables.{time_table_sound}
use Rattle.console.specs.Piles.{pile_meaning}
use Rattle.console.specs.declared.piles.Pile.{Pile, Idle, Overload, TimeTable, NotFirst, House, Turned', Both'}

pub pile_sound : (p : Pile) → Sound (pile_meaning p)
pile_sound Idle = idle_sound
pile_sound Overload = overload_sound
pile_sound TimeTable = time_table_sound
pile_sound NotFirst = not_first_sound
pile_sound House = house_sound
pile_sound (Turned' a p) = turned_sound _ (pile_sound p)
pile_sound (Both' a p b q) = both_sound _ _ (pile_sound p) (pile_sound q)
