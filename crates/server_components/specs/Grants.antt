-- A unit that is granted.
use Rattle.std.specs.Prelude.{List, find, length, Option, Some, None, option_and_then}
use Rattle.adlb_unit.specs.declared.names.Rank.{Rank}
use Rattle.adlb_unit.specs.declared.names.Server.{Server}
use Rattle.adlb_unit.specs.declared.names.UnitId.{UnitId}
use Rattle.adlb_unit.specs.declared.names.WorkType.{WorkType}
use Rattle.adlb_unit.specs.declared.notes.UnitNote.{UnitNote}
use Rattle.adlb_unit.specs.declared.units.Unit.{Unit}
use Rattle.work_queue.specs.Best.{best_of}
use Rattle.work_queue.specs.Queue.{Queue, id_of, is_unit, with_pin}
use Rattle.work_queue.specs.declared.placing.Placed.{Placed}

-- the note of a unit at this server
abbrev pub note_of : Server → Unit → UnitNote
note_of server u = record {
  id = u.id;
  kind = u.kind;
  prio = u.prio;
  answer = u.answer;
  server = server;
  common = u.common;
  length = length u.body;
}

-- the unit of this id
abbrev pub unit_with : UnitId → List Placed → Option Placed
unit_with id units = find (is_unit id) units

-- the best free unit for the rank
abbrev pub best_for : Queue → Rank → Option (List WorkType) → Option Placed
best_for q rank types = option_and_then (λ id. unit_with id q.units) (best_of rank types q.units)

-- the unit, if there is one, is pinned to the rank
abbrev pub pinned_to : Rank → Option Placed → Queue → Queue
pinned_to rank None q = q
pinned_to rank (Some p) q = with_pin q (id_of p) rank

-- the best one is
abbrev pub with_grant : Queue → Rank → Option (List WorkType) → Queue
with_grant q rank types = pinned_to rank (best_for q rank types) q
