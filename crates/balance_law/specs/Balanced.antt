-- What is so at the end of a run of orderly ranks.
use Rattle.std.specs.Prelude.{ℕ, zero, suc, ◌+◌, ◌≡◌, ◌<◌, Bool, true, List, All, None, count_by}
use Rattle.adlb_unit.specs.declared.configs.Config.{Config}
use Rattle.adlb_unit.specs.declared.names.Rank.{Rank}
use Rattle.adlb_unit.specs.declared.notes.End.TheVariants as ends_by
use Rattle.bag_ledger.specs.declared.entries.Answer.{Answer}
use Rattle.bag_ledger.specs.declared.entries.Answer.TheVariants as answers
use Rattle.bag_ledger.specs.declared.entries.Call.{Call}
use Rattle.bag_ledger.specs.declared.entries.Call.TheVariants as calls_to
use Rattle.bag_ledger.specs.declared.entries.Entry.{Entry}
use Rattle.bag_ledger.specs.declared.states.UnitPlace.TheVariants.{Spent}
use Rattle.bag_ledger.specs.Bag.{Bag}
use Rattle.bag_ledger.specs.Runs.{calls}
use Rattle.balance_law.specs.Orderly.{IsOrderly}
use Rattle.balance_law.specs.Parcels.{Parcel, got, sent}

-- the sum over the ranks below n
abbrev pub over_ranks : ℕ → (Rank → ℕ) → ℕ
over_ranks zero f = 0
over_ranks (suc n) f = over_ranks n f + f (record { 0 = n })

-- a reserve that is told an end is told that all work is used up; neither a put nor the beginning of a batch is told an end
abbrev pub IsEndedWell : Call → Answer → Type 0
IsEndedWell (calls_to.Reserve types) (answers.Ended end) = end ≡ ends_by.Exhausted
IsEndedWell call (answers.Ended end) = ⊥
IsEndedWell call answer = Unit {0}

-- each rank of the run is orderly
abbrev pub AreOrderly : Config → List Entry → Type 0
AreOrderly config ledger = (rank : Rank) → rank.0 < config.ranks → IsOrderly config.ranks None None (calls config ledger rank)

-- each accepted unit was fetched, and each common part that was kept was closed and freed. What all ranks sent and what they got is
-- the same, for every test. All were told that all work is used up, at a reserve
pub record IsBalanced (config : Config) (ledger : List Entry) (last : Bag) : Type 0 where
  pub spent : All (λ u. u.place ≡ Spent) last.units
  pub freed : All (λ p. (p.closed ≡ true) × (p.freed ≡ true)) last.parts
  pub same : (test : Parcel → Bool) →
      over_ranks config.ranks (λ rank. count_by test (sent None (calls config ledger rank)))
      ≡ over_ranks config.ranks (λ rank. count_by test (got None (calls config ledger rank)))
  pub ended : (rank : Rank) → rank.0 < config.ranks → All (λ s. IsEndedWell s.call s.answer) (calls config ledger rank)
