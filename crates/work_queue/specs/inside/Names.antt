-- The units by their ids.
use Rattle.std.specs.Prelude.{◌≡◌, ◌==◌, ◌&&◌, ℕ, List, [], ◌∷◌, Bool, Option, None, Some, if◌then◌else◌}
use Rattle.std.specs.HashMap.{get, spare}
use Rattle.adlb_unit.specs.Ids.{same_unit}
use Rattle.adlb_unit.specs.declared.names.UnitId.{UnitId}
use Rattle.work_queue.specs.Queue.{id_of}
use Rattle.work_queue.specs.declared.naming.Names.{Names}
use Rattle.work_queue.specs.declared.placing.Placed.{Placed}

-- the test that two keys of the map are equal
abbrev pub same_key : ℕ × ℕ → ℕ × ℕ → Bool
same_key a b = (a.0 == b.0) && (a.1 == b.1)

-- what is kept of the id
abbrev pub stamp_at : Names → UnitId → Option ℕ
stamp_at names id = get same_key names.kept (id.rank.0, id.number)

-- how many more units there is room for
abbrev pub spare_in : Names → ℕ
spare_in names = spare names.kept

-- the count of arrivals at which the unit of this id came
abbrev pub stamp_of : UnitId → List Placed → List ℕ → Option ℕ
stamp_of id [] stamps = None
stamp_of id (p ∷ units) [] = None
stamp_of id (p ∷ units) (stamp ∷ stamps) = if same_unit (id_of p) id then Some stamp else stamp_of id units stamps

-- of the id of each unit, free or pinned, its stamp is kept, and of no other id
pub record IsNamed (units : List Placed) (stamps : List ℕ) (names : Names) : Type 0 where
  pub each : (id : UnitId) → stamp_at names id ≡ stamp_of id units stamps
