-- The room that is left to a machine's counters.
use Rattle.std.specs.Prelude.{ℕ, ◌≤◌, ◌^◌, All, length}
use Rattle.bag_ledger.specs.Bag.{Bag}

-- there are at most 32 ranks and 2 ^ 30 bytes at a server, and no counter is above this number
pub record HasRoom (n : ℕ) (b : Bag) : Type 0 where
  pub limit : b.limit ≤ 2 ^ 30
  pub ranks : length b.ranks ≤ 32
  pub calls : All (λ r. r.next ≤ n) b.ranks
  pub accepted : All (λ p. p.accepted ≤ n) b.parts
  pub fetched : All (λ p. p.fetched ≤ n) b.parts
