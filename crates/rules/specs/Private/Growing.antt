-- A profile that grows from latest end to latest end, by the lots of which a test holds.
use Rattle.std.specs.Prelude.{◌≡◌, ℕ, ◌<◌, Bool, ◌&&◌, ◌||◌, ◌==◌, List, length}
use Rattle.lots.specs.Tables.{lot_at}
use Rattle.lots.specs.declared.Lot.{Lot}
use Rattle.elastic.specs.Added.{is_added}
use Rattle.elastic.specs.Profile.{has}
use Rattle.elastic.specs.declared.profile.Profile.{Profile}
use Rattle.rules.specs.Chosen.{chosen_lots}
use Rattle.rules.specs.Overload.{ends_of}

-- just the lots of which p holds and whose latest end is t came in; b says whether there are any
pub record Grown (T : List Lot) (p : ℕ → Lot → Bool) (t : ℕ) (old new : Profile) (b : Bool) : Type 0 where
  pub added : (k : ℕ) → k < length T
      → is_added new k ≡ (is_added old k || (p k (lot_at T k) && (lot_at T k).lct == t))
  pub some : b ≡ has t (ends_of (chosen_lots p 0 T))
