-- The units that are left at a server.
use Rattle.std.specs.Prelude.{List, map}
use Rattle.adlb_unit.specs.declared.names.Server.{Server}
use Rattle.work_queue.specs.declared.placing.Placed.{Placed}
use Rattle.server_law.specs.State.{ServerModel}
use Rattle.server_core.specs.declared.states.LeftUnit.{LeftUnit}

-- a unit as it is left
abbrev pub left_unit : Server → Placed → LeftUnit
left_unit server p = record { id = p.unit.id; server = server; pinned = p.pin }

-- in arrival order, each with its pin
abbrev pub left_of : ServerModel → List LeftUnit
left_of s = map (left_unit s.me) s.kept.queue.units
