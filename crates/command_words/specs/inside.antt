-- What the reading of words keeps: what a parse gave, and that its numbers are within their limits.
use Rattle.std.specs.Prelude.{◌≡◌, ℕ, List, [], Some, codes}
use Rattle.clap.specs.Words.{App, IsUnsignedIn, Row, Text, fault_of, matches_of, one_of}
use Rattle.command_words.specs.Ranges.{budgets, counts, grains, limits, rank_counts, seeds, server_counts}

-- the rows are those of words in which `clap` finds no fault
pub record IsFound (app : App) (words : List Text) (found : List Row) : Type 0 where
  pub fault : fault_of app words ≡ []
  pub rows : found ≡ matches_of app words

-- what is given under the name is a number from `low` to `high`
abbrev pub HoldsIn : Text → ℕ → ℕ → List Row → Type 0
HoldsIn name low high rows = (t : Text) → one_of name rows ≡ Some t → IsUnsignedIn low high t

-- and so are N and SEED
pub record HoldsMade (rows : List Row) : Type 0 where
  pub count : HoldsIn (codes "count") counts.low counts.high rows
  pub seed : HoldsIn (codes "seed") seeds.low seeds.high rows

-- and the sizes of a run
pub record HoldsSizes (rows : List Row) : Type 0 where
  pub ranks : HoldsIn (codes "ranks") rank_counts.low rank_counts.high rows
  pub servers : HoldsIn (codes "servers") server_counts.low server_counts.high rows
  pub limit : HoldsIn (codes "limit") limits.low limits.high rows

-- and the options of a run
pub record HoldsRun (rows : List Row) : Type 0 where
  pub sizes : HoldsSizes rows
  pub budget : HoldsIn (codes "budget") budgets.low budgets.high rows
  pub grain : HoldsIn (codes "grain") grains.low grains.high rows
