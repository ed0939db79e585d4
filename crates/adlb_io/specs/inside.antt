-- What private contracts cite.
use Rattle.std.specs.Prelude.{◌≡◌, ◌≤◌, ℕ, List, ◌++◌, length, take, Option}
use Rattle.adlb_io.specs.Whole.{Fills}

-- a room of this length was filled, and its n bytes were appended
pub record Appends (before after : Option (List ℕ)) (long : ℕ) (old new : List ℕ) (n : ℕ) : Type 0 where
  pub room : List ℕ
  pub long_is : length room ≡ long
  pub filled : Fills before after room n
  pub within : n ≤ long
  pub appended : new ≡ old ++ take n room
