-- The units that are left, one by one.
use Rattle.std.proofs.Common.{◌≡◌, ◌<◌, ℕ, zero, suc, ◌+◌, List, [], ◌∷◌, ◌++◌, length, map, take, Option, Some, ap, add-one, arith}
use Rattle.std.specs.List.{slice_get}
use Rattle.std.specs.Option.{option_map}
use Rattle.adlb_unit.specs.declared.names.Rank.{Rank}
use Rattle.adlb_unit.specs.declared.names.Server.{Server}
use Rattle.adlb_unit.specs.declared.names.UnitId.{UnitId}
use Rattle.work_queue.specs.Queue.{seen}
use Rattle.work_queue.specs.declared.placing.Placed.{Placed}
use Rattle.server_core.specs.declared.states.LeftUnit.{LeftUnit}
use Rattle.server_core.specs.Left.{left_unit}
use Rattle.bag_ledger.proofs.Tests.{some_is}

left_suc : (server : Server) (units : List Placed) (place : ℕ) (id : UnitId) (pin : Option Rank)
    → option_map seen (slice_get units place) ≡ Some (id, pin)
    → (place < length units)
    × (map (left_unit server) (take (suc place) units)
    ≡ map (left_unit server) (take place units) ++ record { id = id; server = server; pinned = pin } ∷ [])
left_suc server [] place id pin at = absurd (cc)
left_suc server (p ∷ units) zero id pin at =
    let is : seen p ≡ (id, pin) = some_is at in
    let made : (UnitId × Option Rank) → List LeftUnit = λ s. record { id = s.0; server = server; pinned = s.1 } ∷ [] in
    (omega arith, ap made is)
left_suc server (p ∷ units) (suc place) id pin at =
    let rest = left_suc server units place id pin at in
    (omega (arith, rest.0), ap (λ l. left_unit server p ∷ l) rest.1)

-- one more of them
pub left_more : (server : Server) (units : List Placed) (place : ℕ) (id : UnitId) (pin : Option Rank)
    → option_map seen (slice_get units place) ≡ Some (id, pin)
    → (place < length units)
    × (map (left_unit server) (take (place + 1) units)
    ≡ map (left_unit server) (take place units) ++ record { id = id; server = server; pinned = pin } ∷ [])
left_more server units place id pin at = rw add-one (left_suc server units place id pin at)
