-- Ranks that fetch what they were granted, and what is so of all that they get.
use Rattle.std.specs.Prelude.{ℕ, ◌≡◌, ◌<◌, ◌≤◌, List, [], ◌∷◌, Option, Some, None, sum_by}
use Rattle.adlb_unit.specs.declared.configs.Config.{Config}
use Rattle.adlb_unit.specs.declared.names.Rank.{Rank}
use Rattle.adlb_unit.specs.declared.notes.UnitNote.{UnitNote}
use Rattle.bag_ledger.specs.declared.entries.Call.{Call}
use Rattle.bag_ledger.specs.declared.entries.Call.TheVariants as calls_to
use Rattle.bag_ledger.specs.declared.entries.Entry.{Entry}
use Rattle.bag_ledger.specs.declared.entries.Said.{Said}
use Rattle.bag_ledger.specs.Runs.{calls}
use Rattle.balance_law.specs.Balanced.{over_ranks}
use Rattle.balance_law.specs.Parcels.{Parcel, got, granted_note, sent}

-- a fetch right after a grant is of the unit that was granted; and no call says that the problem is done
abbrev pub IsOfGrant : Option UnitNote → Call → Type 0
IsOfGrant held calls_to.SetDone = ⊥
IsOfGrant (Some note) (calls_to.Fetch id) = id ≡ note.id
IsOfGrant held call = Unit {0}

-- so is each of these calls. The unit of this note may have been granted right before them
unfoldable pub AreOfGrants : Option UnitNote → List Said → Type 0
AreOfGrants held [] = Unit {0}
AreOfGrants held (s ∷ said) = IsOfGrant held s.call × AreOfGrants (granted_note s.answer) said

-- so are the calls of each rank
abbrev pub FetchGrants : Config → List Entry → Type 0
FetchGrants config ledger = (rank : Rank) → rank.0 < config.ranks → AreOfGrants None (calls config ledger rank)

-- whatever parcels weigh, what all ranks got weighs at most what they sent
abbrev pub IsCovered : Config → List Entry → Type 0
IsCovered config ledger =
    (weigh : Parcel → ℕ) →
    over_ranks config.ranks (λ rank. sum_by weigh (got None (calls config ledger rank)))
    ≤ over_ranks config.ranks (λ rank. sum_by weigh (sent None (calls config ledger rank)))
