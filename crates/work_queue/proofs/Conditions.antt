-- The conditions of the calls, from what the queue answered before.
use Rattle.std.proofs.Common.{ℕ, List, get_or, refl}
use Rattle.std.proofs.lemmas.List.{get_or_default}
use Rattle.adlb_unit.specs.declared.names.UnitId.{UnitId}
use Rattle.work_queue.specs.Queue.{HasFree, HasNoPromise, HasNoUnit, HasPromise, HasRoom, HasUnit, Promise}
use Rattle.work_queue.specs.declared.placing.Placed.{Placed}

-- no unit has the id, if it is not so that some unit has it
pub no_unit : (units : List Placed) (id : UnitId) → (HasUnit id units → ⊥) → HasNoUnit id units
no_unit units id none k d within same = none (k, get_or units k d, within, get_or_default units k (get_or units k d) d within, same)

-- no promise is of the id, if no promise of any length is
pub no_promise : (promises : List Promise) (id : UnitId) → ((n : ℕ) → HasRoom id n promises → ⊥) → HasNoPromise id promises
no_promise promises id none k d within same =
    let p : Promise = get_or promises k d in
    none p.length (k, p, within, get_or_default promises k p d within, (same, refl))

-- room of some length is a promise
pub promise_from_room : (promises : List Promise) (id : UnitId) (n : ℕ) → HasRoom id n promises → HasPromise id promises
promise_from_room promises id n has = (has.0, has.1, has.2, has.3, has.4.0)

-- a free unit is a unit
pub unit_from_free : (units : List Placed) (id : UnitId) → HasFree id units → HasUnit id units
unit_from_free units id has = (has.0, has.1, has.2, has.3, has.4.0)
