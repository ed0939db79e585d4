-- What is left of the units at the end of a run.
use Rattle.std.specs.Prelude.{◌≡◌, ◌≢◌, List, find, Option, None, Some, option_and_then}
use Rattle.std.specs.List.{AllPairs}
use Rattle.adlb_unit.specs.Ids.{same_unit}
use Rattle.adlb_unit.specs.declared.names.UnitId.{UnitId}
use Rattle.adlb_unit.specs.Ids.{same_unit}
use Rattle.bag_ledger.specs.declared.states.Placed.{Placed}
use Rattle.bag_ledger.specs.declared.states.UnitPlace.{UnitPlace}
use Rattle.bag_ledger.specs.declared.states.UnitPlace.TheVariants.{Free, Travelling, Pinned, Spent}
use Rattle.bag_ledger.specs.Bag.{Bag, unit_of}
use Rattle.server_core.specs.declared.states.LeftUnit.{LeftUnit}

-- a unit that is free or pinned is left at its server, with its pin; one that travels or is spent is not left
abbrev pub left_at : UnitId → UnitPlace → Option LeftUnit
left_at id (Free at) = Some (record { id = id; server = at; pinned = None })
left_at id (Pinned at rank) = Some (record { id = id; server = at; pinned = Some rank })
left_at id (Travelling to) = None
left_at id Spent = None

-- what is left of a unit, if it is
abbrev pub left_of : Placed → Option LeftUnit
left_of u = left_at u.unit.id u.place

-- the one of this id in the list, if there is one
abbrev pub left_with : UnitId → List LeftUnit → Option LeftUnit
left_with id left = find (λ l. same_unit l.id id) left

-- the list has each unit of the bag that is left, once, and nothing else
pub record IsLeft (last : Bag) (left : List LeftUnit) : Type 0 where
  pub each : (id : UnitId) → left_with id left ≡ option_and_then left_of (unit_of last id)
  pub distinct : AllPairs (λ a b. a.id ≢ b.id) left
