-- What is known of the calls of a rank that works.
use Rattle.std.specs.Prelude.{ℕ, ◌≡◌, ◌==◌, ◌+◌, ◌*◌, ◌^◌, ◌<◌, ◌≤◌, Option, Some, None, slice_get, List, [], ◌++◌, All, cond, length}
use Rattle.std.specs.Prelude.{sum_by}
use Rattle.adlb_unit.specs.declared.configs.Config.{Config}
use Rattle.adlb_unit.specs.declared.names.Rank.{Rank}
use Rattle.bag_ledger.specs.declared.entries.Answer.TheVariants as answers
use Rattle.bag_ledger.specs.declared.entries.Call.TheVariants as calls_to
use Rattle.bag_ledger.specs.declared.entries.Entry.{Entry}
use Rattle.bag_ledger.specs.declared.entries.Said.{Said}
use Rattle.bag_ledger.specs.Runs.{calls}
use Rattle.rank_client.specs.Calls.{plus}
use Rattle.balance_law.specs.Balanced.{IsEndedWell}
use Rattle.balance_law.specs.Orderly.{IsOrderly, last_calls}
use Rattle.balance_law.specs.Parcels.{Parcel, got, sent}
use Rattle.adlb.specs.declared.workers.Progress.{Progress}
use Rattle.adlb.specs.declared.workers.Progress.TheVariants.{Ended, More}

-- What is worth what.

-- the bytes that a unit shares: none, if it is in no batch
abbrev pub shared_bytes : Option (List ℕ) → List ℕ
shared_bytes None = []
shared_bytes (Some common) = common

-- the worth of what is sent or got
abbrev pub parcel_worth : (List ℕ → List ℕ → ℕ) → Parcel → ℕ
parcel_worth w p = w (shared_bytes p.common) p.own

-- the puts that a server took, if the batch of these common bytes goes on, or none
abbrev pub sent_worth : (List ℕ → List ℕ → ℕ) → Option (List ℕ) → List Said → ℕ
sent_worth w batch said = sum_by (parcel_worth w) (sent batch said)

-- the units that were fetched
abbrev pub got_worth : (List ℕ → List ℕ → ℕ) → List Said → ℕ
got_worth w said = sum_by (parcel_worth w) (got None said)

-- what a rank begins with: the first has all, the others nothing
abbrev pub begins : ℕ → Rank → ℕ
begins whole rank = cond (rank.0 == 0) whole 0

-- the most that calls give
abbrev pub most : List Said → ℕ
most said = 2 ^ 64 * length said

-- A rank below this number, between its calls, in the batch of these common bytes or outside a batch. It is orderly so far, and what it
-- gathered, has waiting and sent is worth what it began with and got.
pub record IsGoing (w : List ℕ → List ℕ → ℕ) (begin ranks : ℕ) (batch : Option (List ℕ)) (said : List Said)
    (total waiting : ℕ) : Type 0 where
  pub orderly : (rest : List Said) → IsOrderly ranks None batch rest → IsOrderly ranks None None (said ++ rest)
  pub kept : (rest : List Said) → total + waiting + sent_worth w None (said ++ rest) + got_worth w rest
      ≡ begin + got_worth w (said ++ rest) + sent_worth w batch rest
  pub few : total ≤ most said

-- A rank that was told an end is orderly. If no put was told an end, what it gathered and sent is worth what it began with and got.
pub record HasWorked (w : List ℕ → List ℕ → ℕ) (begin ranks : ℕ) (batch : Option (List ℕ)) (said : List Said) (total : ℕ) : Type 0 where
  pub orderly : IsOrderly ranks None None (said ++ last_calls batch)
  pub kept : All (λ s. IsEndedWell s.call s.answer) (said ++ last_calls batch) →
      total + sent_worth w None (said ++ last_calls batch) ≡ begin + got_worth w (said ++ last_calls batch)
  pub few : total ≤ 2 ^ 112

-- what waits is worth so much, or an end was told
abbrev pub Passes : (List ℕ → List ℕ → ℕ) → ℕ → ℕ → Option (List ℕ) → List Said → ℕ → ℕ → Progress → Type 0
Passes w begin ranks batch said total waiting More = IsGoing w begin ranks batch said total waiting
Passes w begin ranks batch said total waiting Ended = HasWorked w begin ranks batch said total

-- Each rank's calls are those of a worker that has worked, and then Finish, and this is what it gathered.
abbrev pub AllHaveWorked : (List ℕ → List ℕ → ℕ) → ℕ → Config → List Entry → List ℕ → Type 0
AllHaveWorked w whole config ledger outcomes = (rank : Rank) → rank.0 < config.ranks →
    (counted : ℕ) × (slice_get outcomes rank.0 ≡ Some counted)
    × ((before : List Said) × HasWorked w (begins whole rank) config.ranks None before counted
    × (calls config ledger rank ≡ plus before calls_to.Finish (Some answers.Fine)))
