-- Letters of pushes, as weights: one stands for each push, and of each unit at most one is not an acknowledgement.
use Rattle.std.specs.Prelude.{ℕ, ◌==◌, Bool, true, false, ◌&&◌}
use Rattle.adlb_unit.specs.Ids.{same_unit}
use Rattle.adlb_unit.specs.declared.actors.Actor.{Actor}
use Rattle.adlb_unit.specs.declared.actors.Actor.TheVariants as by
use Rattle.adlb_unit.specs.declared.messages.Message.{Message}
use Rattle.adlb_unit.specs.declared.messages.Message.TheVariants as tells
use Rattle.adlb_unit.specs.declared.names.Server.{Server}
use Rattle.adlb_unit.specs.declared.names.UnitId.{UnitId}
use Rattle.server_components.specs.Pushes.{is_sent}
use Rattle.core_law.specs.Letters.{one}
use Rattle.core_law.specs.Measures.{PushBalance}

-- Of the server that pushes.

-- 1 for a letter of a push that the server began
abbrev pub of_push : Server → ℕ → ℕ → Message → ℕ
of_push a from to (tells.PushQuery id length) = one (from == a.0)
of_push a from to (tells.PushUnit unit) = one (from == a.0)
of_push a from to (tells.PushCancel id) = one (from == a.0)
of_push a from to (tells.PushYes id) = one (to == a.0)
of_push a from to (tells.PushNo id) = one (to == a.0)
of_push a from to (tells.PushAck id) = one (to == a.0)
of_push a from to _ = 0

-- letters of pushes that the server began
abbrev pub push_letter : Server → Actor → Actor → Message → ℕ
push_letter a (by.Server from) (by.Server to) m = of_push a from.0 to.0 m
push_letter a (by.Server from) (by.Rank to) m = 0
push_letter a (by.Rank from) to m = 0

-- one letter, or what is owed, for each push of the server
abbrev pub pushing : Server → PushBalance
pushing a = record {
  letter = push_letter a;
  owed = λ place d. one (d.to.0 == a.0);
  due = λ place p. one (place == a.0);
}

-- Letters of pushes to one server, of one unit, before or after the unit or a cancel of it was sent.

-- the push is from the one server to the other, of this unit
abbrev pub is_push : Server → Server → UnitId → ℕ → ℕ → UnitId → Bool
is_push a t id from to of = (from == a.0) && ((to == t.0) && same_unit of id)

-- 1 for a letter of this push, before or after the unit or a cancel was sent
abbrev pub as_push : Server → Server → UnitId → Bool → ℕ → ℕ → Message → ℕ
as_push a t id sent from to (tells.PushQuery of length) = one (is_sent sent false && is_push a t id from to of)
as_push a t id sent from to (tells.PushUnit unit) = one (is_sent sent true && is_push a t id from to unit.id)
as_push a t id sent from to (tells.PushCancel of) = one (is_sent sent true && is_push a t id from to of)
as_push a t id sent from to (tells.PushYes of) = one (is_sent sent false && is_push a t id to from of)
as_push a t id sent from to (tells.PushNo of) = one (is_sent sent false && is_push a t id to from of)
as_push a t id sent from to (tells.PushAck of) = one (is_sent sent true && is_push a t id to from of)
as_push a t id sent from to _ = 0

-- letters of this push
abbrev pub push_as : Server → Server → UnitId → Bool → Actor → Actor → Message → ℕ
push_as a t id sent (by.Server from) (by.Server to) m = as_push a t id sent from.0 to.0 m
push_as a t id sent (by.Server from) (by.Rank to) m = 0
push_as a t id sent (by.Rank from) to m = 0

-- one letter, or what is owed, for this push if it goes on
abbrev pub pushing_to : Server → Server → UnitId → Bool → PushBalance
pushing_to a t id sent = record {
  letter = push_as a t id sent;
  owed = λ place d. one (is_sent sent true && is_push a t id d.to.0 place d.id);
  due = λ place p. one (is_sent sent p.sent && is_push a t id place p.to.0 p.id);
}

-- Of a unit: the letters of its push that are not its acknowledgement; those for which room is promised; and that with which it travels.

-- 1 for a letter of a push of the unit that is no acknowledgement
abbrev pub open_of : UnitId → Message → ℕ
open_of id (tells.PushQuery of length) = one (same_unit of id)
open_of id (tells.PushYes of) = one (same_unit of id)
open_of id (tells.PushNo of) = one (same_unit of id)
open_of id (tells.PushUnit unit) = one (same_unit unit.id id)
open_of id (tells.PushCancel of) = one (same_unit of id)
open_of id _ = 0

-- letters of pushes of the unit but acknowledgements
abbrev pub open_letter : UnitId → Actor → Actor → Message → ℕ
open_letter id (by.Server from) (by.Server to) m = open_of id m
open_letter id (by.Server from) (by.Rank to) m = 0
open_letter id (by.Rank from) to m = 0

-- 1 for a letter by which the unit is promised room
abbrev pub promised_of : UnitId → Message → ℕ
promised_of id (tells.PushYes of) = one (same_unit of id)
promised_of id (tells.PushUnit unit) = one (same_unit unit.id id)
promised_of id (tells.PushCancel of) = one (same_unit of id)
promised_of id _ = 0

-- letters by which the unit is promised room
abbrev pub promised_letter : UnitId → Actor → Actor → Message → ℕ
promised_letter id (by.Server from) (by.Server to) m = promised_of id m
promised_letter id (by.Server from) (by.Rank to) m = 0
promised_letter id (by.Rank from) to m = 0

-- 1 for a letter that brings the unit
abbrev pub travels_of : UnitId → Message → ℕ
travels_of id (tells.PushUnit unit) = one (same_unit unit.id id)
travels_of id _ = 0

-- letters that bring the unit
abbrev pub travels_letter : UnitId → Actor → Actor → Message → ℕ
travels_letter id (by.Server from) (by.Server to) m = travels_of id m
travels_letter id (by.Server from) (by.Rank to) m = 0
travels_letter id (by.Rank from) to m = 0
