-- What is so once all work was found used up: each rank has finished, or asks in vain, or was told an end; and where a server is shut.
use Rattle.std.specs.Prelude.{◌≡◌, ◌⊎◌, ℕ, Bool, true, false, ◌||◌, List, [], Option, Some}
use Rattle.std.specs.List.{list_any}
use Rattle.adlb_unit.specs.Permit.{permitted}
use Rattle.adlb_unit.specs.declared.names.Rank.{Rank}
use Rattle.adlb_unit.specs.declared.names.WorkType.{WorkType}
use Rattle.adlb_unit.specs.declared.notes.End.{End}
use Rattle.bag_ledger.specs.Bag.{Bag, is_free, is_travelling, rank_at}
use Rattle.bag_ledger.specs.declared.entries.Entry.{Entry}
use Rattle.bag_ledger.specs.declared.entries.Entry.TheVariants as enters
use Rattle.bag_ledger.specs.declared.states.Placed.{Placed}
use Rattle.bag_ledger.specs.declared.states.RankState.{RankState}
use Rattle.bag_ledger.specs.declared.states.Status.TheVariants as is_at
use Rattle.bag_ledger.specs.declared.states.UnitPlace.{UnitPlace}
use Rattle.core_law.specs.OnLinks.{Each}

-- the unit is free, or on its way to where it will be
abbrev pub is_loose : UnitPlace → Bool
is_loose place = is_free place || is_travelling place

-- no such unit is permitted to the rank
abbrev pub NotFor : Rank → Option (List WorkType) → Placed → Type 0
NotFor rank types u = is_loose u.place ≡ true → permitted rank types u.unit.kind u.unit.target ≡ false

-- no unit of the list is for the rank
abbrev pub NoneFor : Rank → Option (List WorkType) → List Placed → Type 0
NoneFor rank types units = Each (NotFor rank types) units

-- the rank was told an end
abbrev pub IsTold : RankState → Type 0
IsTold x = (end : End) × (x.end ≡ Some end)

-- the rank asks, and no unit of the bag is for it
abbrev pub AsksInVain : Bag → Rank → RankState → Type 0
AsksInVain b rank x = (call : ℕ) × (types : Option (List WorkType)) × (x.status ≡ is_at.Asking call types) × NoneFor rank types b.units

-- the rank has finished, asks in vain, or was told an end
abbrev pub IsOver : Bag → Rank → RankState → Type 0
IsOver b rank x = (x.status ≡ is_at.Finished) ⊎ AsksInVain b rank x ⊎ IsTold x

-- of each rank
abbrev pub AllOver : Bag → Type 0
AllOver b = (rank : Rank) (x : RankState) → rank_at b rank ≡ Some x → IsOver b rank x

-- Of the ledger.

-- A server takes, refuses or grants what a rank brings or wants, or looks for it in vain. Or room for a unit is promised or no longer is,
-- or the unit moves to another server.
abbrev pub is_work : Entry → Bool
is_work (enters.Refused server id used) = true
is_work (enters.Accepted server id) = true
is_work (enters.Kept server batch) = true
is_work (enters.Granted server rank call id) = true
is_work (enters.Looked server rank call) = true
is_work (enters.Promised server id length) = true
is_work (enters.Left server to id) = true
is_work (enters.Arrived server id) = true
is_work (enters.Withdrawn server id) = true
is_work _ = false

-- no entry is about work
abbrev pub AreIdle : List Entry → Type 0
AreIdle es = Each (λ e. is_work e ≡ false) es

-- Where no rank waits or runs any more.

-- each rank has finished, nothing is promised, and no unit is between servers
pub record IsShutDown (b : Bag) : Type 0 where
  pub finished : (rank : Rank) (r : RankState) → rank_at b rank ≡ Some r → r.status ≡ is_at.Finished
  pub promises : b.promises ≡ []
  pub travels : list_any (λ u. is_travelling u.place) b.units ≡ false
