-- What the bag has of a unit that is to move to another server.
use Rattle.std.specs.Prelude.{◌≡◌, ◌==◌, ℕ, Bool, true, false, length, Some}
use Rattle.adlb_unit.specs.declared.names.Server.{Server}
use Rattle.adlb_unit.specs.declared.names.UnitId.{UnitId}
use Rattle.bag_ledger.specs.Bag.{Bag, promise_of, unit_of}
use Rattle.bag_ledger.specs.declared.states.Placed.{Placed}
use Rattle.bag_ledger.specs.declared.states.Promise.{Promise}
use Rattle.bag_ledger.specs.declared.states.UnitPlace.{UnitPlace}
use Rattle.bag_ledger.specs.declared.states.UnitPlace.TheVariants.{Free, Pinned, Spent, Travelling}

-- free or pinned at the server, or spent
abbrev pub is_held_at : Server → UnitPlace → Bool
is_held_at server (Free at) = at.0 == server.0
is_held_at server (Pinned at rank) = at.0 == server.0
is_held_at server (Travelling to) = false
is_held_at server Spent = true

-- the unit is
pub record IsHeldAt (b : Bag) (server : Server) (id : UnitId) : Type 0 where
  pub unit : Placed
  pub found : unit_of b id ≡ Some unit
  pub held : is_held_at server unit.place ≡ true

-- the unit has this number of own bytes
pub record IsMeasured (b : Bag) (id : UnitId) (size : ℕ) : Type 0 where
  pub unit : Placed
  pub found : unit_of b id ≡ Some unit
  pub long : length unit.unit.body ≡ size

-- room for it is promised at the server
pub record IsPromisedAt (b : Bag) (server : Server) (id : UnitId) : Type 0 where
  pub room : Promise
  pub found : promise_of b id ≡ Some room
  pub here : room.server ≡ server
