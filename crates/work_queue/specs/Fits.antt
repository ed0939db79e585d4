-- The first free unit that is permitted to one of several requests.
use Rattle.std.specs.Prelude.{◌≡◌, ◌<◌, ℕ, List, Any, Bool, ◌&&◌, find, Option, Some, None, is_none}
use Rattle.std.specs.List.{list_any, slice_get}
use Rattle.std.specs.Option.{option_map}
use Rattle.adlb_unit.specs.Permit.{Permits, permitted}
use Rattle.adlb_unit.specs.declared.names.Rank.{Rank}
use Rattle.adlb_unit.specs.declared.names.UnitId.{UnitId}
use Rattle.adlb_unit.specs.declared.names.WorkType.{WorkType}
use Rattle.work_queue.specs.Queue.{id_of}
use Rattle.work_queue.specs.declared.placing.Placed.{Placed}

-- the unit is free and permitted to the rank of a request with its types
abbrev pub IsAsked : List (Rank × Option (List WorkType)) → Placed → Type 0
IsAsked asked p = (p.pin ≡ None) × Any (λ (a : Rank × Option (List WorkType)). Permits a.0 a.1 p.unit.kind p.unit.target) asked

-- the unit of this id is at some place and is asked, and no unit before it is
pub record IsFirstFit (asked : List (Rank × Option (List WorkType))) (units : List Placed) (id : UnitId) : Type 0 where
  pub place : ℕ
  pub unit : Placed
  pub here : slice_get units place ≡ Some unit
  pub has_id : id_of unit ≡ id
  pub is_asked : IsAsked asked unit
  pub is_first : (other : ℕ) (q : Placed) → other < place → slice_get units other ≡ Some q → IsAsked asked q → ⊥

-- as a test
abbrev pub asked_for : List (Rank × Option (List WorkType)) → Placed → Bool
asked_for asked p = is_none p.pin && list_any (λ (a : Rank × Option (List WorkType)). permitted a.0 a.1 p.unit.kind p.unit.target) asked

-- the id of the first of these units that is asked
abbrev pub first_fit : List (Rank × Option (List WorkType)) → List Placed → Option UnitId
first_fit asked units = option_map id_of (find (asked_for asked) units)
