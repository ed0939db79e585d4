-- The unit of an id, and the best one.
use Rattle.std.proofs.Common.{◌≡◌, false, List, get_or, Option, None, Some, refl, Contains}
use Rattle.std.proofs.lemmas.Bool.{both_ways}
use Rattle.adlb_unit.specs.declared.names.Rank.{Rank}
use Rattle.adlb_unit.specs.declared.names.UnitId.{UnitId}
use Rattle.adlb_unit.specs.declared.names.WorkType.{WorkType}
use Rattle.adlb_unit.proofs.Same.{same_unit_from}
use Rattle.work_queue.specs.Best.{best_of}
use Rattle.work_queue.specs.Queue.{HasFree, Queue, id_of, is_unit}
use Rattle.work_queue.specs.declared.placing.Placed.{Placed}
use Rattle.work_queue.proofs.Named.{find_listed}
use Rattle.work_queue.proofs.Searched.{find_none}
use Rattle.server_components.specs.Grants.{best_for, unit_with}

-- the unit of this id
pub record IsUnit (id : UnitId) (units : List Placed) (p : Placed) : Type 0 where
  pub found : unit_with id units ≡ Some p
  pub has_id : id_of p ≡ id
  pub there : Contains units p

-- a queue with a free unit of the id has the unit
pub unit_there : (id : UnitId) (units : List Placed) → HasFree id units → (p : Placed) × IsUnit id units p
unit_there id units has = by_found (unit_with id units) refl
  where
    by_found : (o : Option Placed) → unit_with id units ≡ o → (p : Placed) × IsUnit id units p
    by_found None found =
        let fails : is_unit id (get_or units has.0 has.1) ≡ false = find_none (is_unit id) units found has.0 has.1 has.2 in
        let not_it : is_unit id has.1 ≡ false = rw has.3 at fails in
        absurd (both_ways (is_unit id has.1) not_it (same_unit_from (id_of has.1) id has.4.0))
    by_found (Some p) found =
        let listed = find_listed id_of units p id found in
        (p, record { found = found; has_id = listed.1; there = listed.0 })

-- the best one, if there is one
pub best_there : (q : Queue) (rank : Rank) (types : Option (List WorkType)) (id : UnitId) → best_of rank types q.units ≡ Some id
    → HasFree id q.units
    → (p : Placed) × (best_for q rank types ≡ Some p) × IsUnit id q.units p
best_there q rank types id best free =
    let p = unit_there id q.units free in
    (p.0, rw best p.1.found, p.1)

-- if there is no best id, there is no best unit
pub none_best : (q : Queue) (rank : Rank) (types : Option (List WorkType)) → best_of rank types q.units ≡ None
    → best_for q rank types ≡ None
none_best q rank types none = rw none refl
