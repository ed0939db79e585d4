-- How many calls all ranks of a run have begun, from how many each has.
use Rattle.std.proofs.Common.{◌<◌, ◌≤◌, ◌+◌, ◌*◌, ℕ, zero, suc, cond, List, Option, Some, None, arith, sum_by}
use Rattle.std.specs.Prelude.{is_some}
use Rattle.adlb_unit.specs.declared.configs.Config.{Config}
use Rattle.adlb_unit.specs.declared.names.Rank.{Rank}
use Rattle.bag_ledger.specs.declared.entries.Call.{Call}
use Rattle.bag_ledger.specs.declared.entries.Entry.{Entry}
use Rattle.bag_ledger.specs.Bag.{Bag, start}
use Rattle.bag_ledger.specs.Runs.{IsRun, calls}
use Rattle.balance_law.specs.Balanced.{over_ranks}
use Rattle.balance_law.specs.Parcels.{Parcel, got, sent}
use Rattle.cover_law.specs.Begun.{all_begun, begun_by}
use Rattle.cover_law.specs.Grants.{FetchGrants}
use Rattle.cover_law.proofs.Covered.{covered}

-- one call at most is pending
pub at_most_one : (o : Option Call) → cond (is_some o) 1 0 ≤ 1
at_most_one None = omega arith
at_most_one (Some call) = omega arith

abbrev pub zeroth : Rank
zeroth = record { 0 = 0 }

-- a rank below one is the only one
pub only : (P : Rank → Type 0) → P zeroth → (k : ℕ) → k < 1 → P (record { 0 = k })
only P here zero low = here
only P here (suc k) low = absurd (omega arith)

over_all : (n : ℕ) (begun sends firsts gets : Rank → ℕ)
    → ((rank : Rank) → rank.0 < n → begun rank + sends rank ≤ firsts rank + gets rank + 2)
    → over_ranks n begun + over_ranks n sends ≤ over_ranks n firsts + over_ranks n gets + 2 * n
over_all zero begun sends firsts gets each = omega arith
over_all (suc n) begun sends firsts gets each =
    omega (arith, over_all n begun sends firsts gets (λ rank below. each rank (omega arith)), each (record { 0 = n }) (omega arith))

-- where each rank has begun at most as many calls as it may and as what it got weighs, and two more, what all ranks may bounds all
pub few_begun : (config : Config) (ledger : List Entry) (last : Bag) (weigh : Parcel → ℕ) (firsts : Rank → ℕ)
    → IsRun (start config) ledger last → FetchGrants config ledger
    → ((rank : Rank) → rank.0 < config.ranks → begun_by config ledger last rank + sum_by weigh (sent None (calls config ledger rank))
    ≤ firsts rank + sum_by weigh (got None (calls config ledger rank)) + 2)
    → all_begun config ledger last ≤ over_ranks config.ranks firsts + 2 * config.ranks
few_begun config ledger last weigh firsts run fetch each =
    let more = covered config ledger last run fetch weigh in
    let all =
    over_all config.ranks (begun_by config ledger last) (λ rank. sum_by weigh (sent None (calls config ledger rank))) firsts
    (λ rank. sum_by weigh (got None (calls config ledger rank))) each in
    omega (arith, more, all)
