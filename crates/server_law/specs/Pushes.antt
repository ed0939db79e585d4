-- The rules of pushes: a unit moves to another server where there is room.
use Rattle.std.specs.Prelude.{ℕ, ◌==◌, Bool, true, false, ◌&&◌, not, length, find, List, [], ◌∷◌, Option, None, Some, is_none}
use Rattle.std.specs.Prelude.{if◌then◌else◌}
use Rattle.std.specs.List.{list_any}
use Rattle.adlb_unit.specs.Ids.{same_unit}
use Rattle.adlb_unit.specs.declared.names.Server.{Server}
use Rattle.adlb_unit.specs.declared.names.UnitId.{UnitId}
use Rattle.adlb_unit.specs.declared.units.Unit.{Unit}
use Rattle.server_components.specs.Pushes.{is_push_as}
use Rattle.server_components.specs.declared.standing.StandingPush.{StandingPush}
use Rattle.work_queue.specs.Queue.{Promise}
use Rattle.work_queue.specs.declared.placing.Placed.{Placed}
use Rattle.server_law.specs.Acts.{Act, Acks, Arrives, Cancels, Ends_push, Promises, Refuses_push, Sends_unit, Stops_push, Withdraws}
use Rattle.server_law.specs.Finding.{exceeds, has_promise, has_unit, is_free_as}
use Rattle.server_law.specs.Plan.{Decider, Plan, plan}
use Rattle.server_law.specs.Puts.{settles}
use Rattle.server_law.specs.State.{Debt, Kept, ServerModel}

-- Where the server is asked for room.

-- no unit and no promise of the id is here
abbrev pub expects_query : Kept → UnitId → Bool
expects_query k id = not (has_unit id k.queue.units) && not (has_promise id k.queue.promises)

-- room is promised, unless the unit would exceed it
abbrev pub answer_query : Bool → Server → UnitId → ℕ → Act
answer_query true from id length = Refuses_push from id length
answer_query false from id length = Promises from id length

-- PushQuery: room is promised or refused
abbrev pub query_rule : ServerModel → Server → UnitId → ℕ → Option Plan
query_rule s from id length =
    if expects_query s.kept id then plan (answer_query (exceeds s.kept.queue length) from id length) [] else None

-- Where the push began: its server has room, or none; and it has acknowledged.

-- the unit where it is still free, else a cancel
abbrev pub sends : Server → UnitId → ℕ → Option Placed → Act
sends to id length None = Cancels to id length
sends to id length (Some p) = Sends_unit to length p.unit

-- the unit goes, or a cancel, if this push is asked for room
abbrev pub yes_at : Server → UnitId → Option StandingPush → Option Placed → Option Plan
yes_at from id None free = None
yes_at from id (Some p) free = if is_push_as from id false p then plan (sends from id p.length free) [] else None

-- PushYes: the unit goes, or a cancel
abbrev pub yes_rule : ServerModel → Server → UnitId → Option Plan
yes_rule s from id = yes_at from id s.kept.pushing.push (find (is_free_as id) s.kept.queue.units)

-- the push ends, if it is asked for room
abbrev pub no_at : Server → UnitId → Option StandingPush → Option Plan
no_at from id None = None
no_at from id (Some p) = if is_push_as from id false p then plan (Stops_push from id p.length) [] else None

-- PushNo: the push ends
abbrev pub no_rule : ServerModel → Server → UnitId → Option Plan
no_rule s from id = no_at from id s.kept.pushing.push

-- the push ends, if its unit or cancel was sent
abbrev pub ack_at : Server → UnitId → Option StandingPush → Option Plan
ack_at from id None = None
ack_at from id (Some p) = if is_push_as from id true p then plan (Ends_push from id p.length) [] else None

-- PushAck: the push ends
abbrev pub ack_rule : ServerModel → Server → UnitId → Option Plan
ack_rule s from id = ack_at from id s.kept.pushing.push

-- Where the unit comes, or is taken back: room for it was promised.

-- the promise is for the id and of this length
abbrev pub is_room_for : UnitId → ℕ → Promise → Bool
is_room_for id length p = same_unit p.id id && (p.length == length)

-- the acknowledgement that is owed
abbrev pub acks_if : Option Debt → List Act
acks_if None = []
acks_if (Some d) = Acks d.to d.id ∷ []

-- what is owed is acknowledged
abbrev pub acks : Decider
acks s = acks_if s.kept.owed

-- no unit of the id is here, room of the unit's length was promised, and no acknowledgement is owed
abbrev pub expects_unit : Kept → Unit → Bool
expects_unit k unit =
    not (has_unit unit.id k.queue.units) && (list_any (is_room_for unit.id (length unit.body)) k.queue.promises && is_none k.owed)

-- PushUnit: the unit arrives, is settled, and is then acknowledged
abbrev pub unit_rule : ServerModel → Server → Unit → Option Plan
unit_rule s from unit = if expects_unit s.kept unit then plan (Arrives from unit) (settles unit.id ∷ acks ∷ []) else None

-- PushCancel: the promise is withdrawn
abbrev pub cancel_rule : ServerModel → Server → UnitId → Option Plan
cancel_rule s from id = if has_promise id s.kept.queue.promises then plan (Withdraws from id) [] else None
