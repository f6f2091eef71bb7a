-- Which points the added lots have, and how many.
use Rattle.std.specs.Prelude.{◌≡◌, ℕ, ◌<◌, Bool, false, List, length, slice_index, slice_index_or}
use Rattle.elastic.specs.Profile.{distinct, has}

-- no number stands at two places
abbrev pub IsDistinct : List ℕ → Type 0
IsDistinct us =
    (i j : ℕ) → i < length us → j < length us → slice_index us i ≡ slice_index us j → i ≡ j

-- of the minutes us just those that are among ts are marked, and n is how many different ones ts has
pub record Counted (us ts : List ℕ) (marks : List Bool) (n : ℕ) : Type 0 where
  pub count : n ≡ distinct ts
  pub at : (i : ℕ) → i < length us → slice_index_or marks i false ≡ has (slice_index us i) ts
