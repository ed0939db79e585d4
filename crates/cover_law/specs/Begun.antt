-- How many calls the ranks of a run have begun.
use Rattle.std.specs.Prelude.{ℕ, ◌+◌, List, length, Option, is_some, option_and_then, if◌then◌else◌}
use Rattle.adlb_unit.specs.declared.configs.Config.{Config}
use Rattle.adlb_unit.specs.declared.names.Rank.{Rank}
use Rattle.bag_ledger.specs.declared.entries.Call.{Call}
use Rattle.bag_ledger.specs.declared.entries.Entry.{Entry}
use Rattle.bag_ledger.specs.Bag.{Bag, rank_at}
use Rattle.bag_ledger.specs.Runs.{call_of, calls}
use Rattle.balance_law.specs.Balanced.{over_ranks}

-- the call of the rank that is pending, if there is one
abbrev pub pending_of : Bag → Rank → Option Call
pending_of last rank = option_and_then (λ r. call_of r.status) (rank_at last rank)

-- how many calls the rank has begun: those that were answered, and the one that is pending
abbrev pub begun_by : Config → List Entry → Bag → Rank → ℕ
begun_by config ledger last rank = length (calls config ledger rank) + (if is_some (pending_of last rank) then 1 else 0)

-- how many calls all ranks have begun
abbrev pub all_begun : Config → List Entry → Bag → ℕ
all_begun config ledger last = over_ranks config.ranks (begun_by config ledger last)
