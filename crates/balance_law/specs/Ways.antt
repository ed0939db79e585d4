-- Where what ranks get comes from, and who gets it.
use Rattle.std.specs.Prelude.{ℕ, ◌≡◌, ◌≢◌, ◌<◌, ◌≤◌, Bool, List, All, None, count_by}
use Rattle.adlb_unit.specs.declared.configs.Config.{Config}
use Rattle.adlb_unit.specs.declared.names.Rank.{Rank}
use Rattle.adlb_unit.specs.declared.names.Target.TheVariants.{Only}
use Rattle.bag_ledger.specs.declared.entries.Call.{Call}
use Rattle.bag_ledger.specs.declared.entries.Call.TheVariants as calls_to
use Rattle.bag_ledger.specs.declared.entries.Entry.{Entry}
use Rattle.bag_ledger.specs.Runs.{calls}
use Rattle.balance_law.specs.Balanced.{over_ranks}
use Rattle.balance_law.specs.Parcels.{Parcel, got, sent}

-- in these entries, with which a run begins, what all ranks got was sent: at most as often, for every test
abbrev pub IsCaused : Config → List Entry → Type 0
IsCaused config front =
    (test : Parcel → Bool) →
    over_ranks config.ranks (λ rank. count_by test (got None (calls config front rank)))
    ≤ over_ranks config.ranks (λ rank. count_by test (sent None (calls config front rank)))

-- if the call puts a unit of the type of this number, it is for this rank alone
abbrev pub IsPutFor : ℕ → Rank → Call → Type 0
IsPutFor k q (calls_to.Put kind prio target answer body) = kind.0 ≡ k → target ≡ Only q
IsPutFor k q call = Unit {0}

-- each put of the type is for this rank alone
abbrev pub AreAimed : Config → List Entry → ℕ → Rank → Type 0
AreAimed config ledger k q = (rank : Rank) → rank.0 < config.ranks → All (λ s. IsPutFor k q s.call) (calls config ledger rank)

-- no other rank gets a unit of the type
abbrev pub IsGotBy : Config → List Entry → ℕ → Rank → Type 0
IsGotBy config ledger k q =
    (rank : Rank) → rank.0 < config.ranks → rank.0 ≢ q.0 → All (λ (p : Parcel). p.kind.0 ≢ k) (got None (calls config ledger rank))
