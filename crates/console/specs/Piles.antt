-- The piles that a word can name.
use Rattle.std.specs.Prelude.{◌≡◌, ℕ, ◌+◌, ◌≤◌, max, List, ◌++◌, codes}
use Rattle.rule.specs.Both.{both}
use Rattle.rule.specs.Idle.{idle}
use Rattle.rule.specs.Meanings.{Meaning}
use Rattle.rule.specs.Turned.{turned}
use Rattle.rules.specs.House.{house}
use Rattle.rules.specs.NotFirst.{not_first}
use Rattle.rules.specs.Overload.{overload}
use Rattle.rules.specs.TimeTable.{time_table}
use Rattle.console.specs.declared.piles.Pile.{Pile, Idle, Overload, TimeTable, NotFirst, House, Turned', Both'}

-- Below, a and b say where a pile within another lies.

-- the word of a pile
abbrev pub pile_word : Pile → List ℕ
pile_word Idle = codes "idle"
pile_word Overload = codes "overload"
pile_word TimeTable = codes "timetable"
pile_word NotFirst = codes "notfirst"
pile_word House = codes "house"
pile_word (Turned' a p) = codes "turned(" ++ (pile_word p ++ codes ")")
pile_word (Both' a p b q) =
    codes "both(" ++ (pile_word p ++ (codes "," ++ (pile_word q ++ codes ")")))

-- what a pile makes of a table
abbrev pub pile_meaning : Pile → Meaning
pile_meaning Idle = idle
pile_meaning Overload = overload
pile_meaning TimeTable = time_table
pile_meaning NotFirst = not_first
pile_meaning House = house
pile_meaning (Turned' a p) = turned (pile_meaning p)
pile_meaning (Both' a p b q) = both (pile_meaning p) (pile_meaning q)

-- a name alone is one level; turned and both are one more than what is in them
abbrev pub levels : Pile → ℕ
levels (Turned' a p) = levels p + 1
levels (Both' a p b q) = max (levels p) (levels q) + 1
levels p = 1

-- the most levels of a pile that is read
abbrev pub max_levels : ℕ
max_levels = 500

-- the word names the pile: it is the pile's word, and not too deep to be read
abbrev pub Names : List ℕ → Pile → Type 0
Names w p = (w ≡ pile_word p) × (levels p ≤ max_levels)
