-- Where a search stops.
use Rattle.std.specs.Prelude.{ℕ, ◌<◌, ◌≡◌, Bool, List, find, length, Some, None, slice_index_or}
use Rattle.bag_ledger.specs.Steps.{change_at, change_first}

-- the first element that passes the test is at this place
pub record IsFoundAt {X : Type 0} (test : X → Bool) (xs : List X) (place : ℕ) : Type 0 where
  pub inside : place < length xs
  pub found : (d : X) → find test xs ≡ Some (slice_index_or xs place d)
  pub changed : (f : X → X) → change_first f test xs ≡ change_at f place xs

-- no element passes the test
pub record IsAbsent {X : Type 0} (test : X → Bool) (xs : List X) : Type 0 where
  pub found : find test xs ≡ None
  pub changed : (f : X → X) → change_first f test xs ≡ xs
