-- Which rank of which run a link serves.
use Rattle.std.specs.Prelude.{ℕ}
use Rattle.adlb_unit.specs.declared.names.Rank.{Rank}

-- the numbers of ranks and servers, the bytes that each server takes at most, and the rank
pub record Seat : Type 0 where
  pub ranks : ℕ
  pub servers : ℕ
  pub limit : ℕ
  pub me : Rank
