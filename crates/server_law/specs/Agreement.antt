-- Which part of the bag a server stands for: its own units, promises and parts, and what it knows. Of ranks it says nothing.
use Rattle.std.specs.Prelude.{◌≡◌, ◌<◌, ◌==◌, ℕ, Bool, true, ◌&&◌, not, List, find, Option, None, Some, is_none, sum_by, option_and_then}
use Rattle.std.specs.Prelude.{if◌then◌else◌}
use Rattle.std.specs.Option.{option_map}
use Rattle.adlb_unit.specs.Ids.{same_batch, same_unit}
use Rattle.adlb_unit.specs.declared.configs.Config.{Config}
use Rattle.adlb_unit.specs.declared.names.BatchId.{BatchId}
use Rattle.adlb_unit.specs.declared.names.Rank.{Rank}
use Rattle.adlb_unit.specs.declared.names.Server.{Server}
use Rattle.adlb_unit.specs.declared.names.UnitId.{UnitId}
use Rattle.adlb_unit.specs.declared.units.Unit.{Unit}
use Rattle.bag_ledger.specs.Bag.{Bag, part_charge, promise_charge, start as empty_bag}
use Rattle.bag_ledger.specs.declared.states.Part.{Part}
use Rattle.bag_ledger.specs.declared.states.Placed.{Placed as Lodged}
use Rattle.bag_ledger.specs.declared.states.Promise.{Promise as Room}
use Rattle.bag_ledger.specs.declared.states.UnitPlace.{UnitPlace}
use Rattle.bag_ledger.specs.declared.states.UnitPlace.TheVariants.{Free, Travelling, Pinned, Spent}
use Rattle.work_queue.specs.Queue.{HasDistinctIds, HasDistinctPromises, Promise, Queue, promised}
use Rattle.work_queue.specs.declared.placing.Placed.{Placed}
use Rattle.server_components.specs.Store.{Store, part_in}
use Rattle.server_components.specs.declared.parts.Part.{Part as PartKept}
use Rattle.server_components.specs.Grants.{unit_with}
use Rattle.server_law.specs.State.{ServerModel, start}

-- the pin of a unit in this place, where it is at the server
abbrev pub pin_at : Server → UnitPlace → Option (Option Rank)
pin_at me (Free at) = if at.0 == me.0 then Some None else None
pin_at me (Pinned at rank) = if at.0 == me.0 then Some (Some rank) else None
pin_at me (Travelling to) = None
pin_at me Spent = None

-- the unit as the server has it, where it is there
abbrev pub slot_of : Server → Lodged → Option Placed
slot_of me u = option_map (λ pin. record { unit = u.unit; pin = pin }) (pin_at me u.place)

-- the unit has the id
abbrev pub of_id : UnitId → Lodged → Bool
of_id id u = same_unit u.unit.id id

-- a weight of units, which may look at whether the unit is free
abbrev pub UnitWeight : Type 0
UnitWeight = Unit → Bool → ℕ

-- the weight of a unit with a pin, or 0 without the unit
abbrev pub pinned_weight : UnitWeight → Unit → Option (Option Rank) → ℕ
pinned_weight f unit None = 0
pinned_weight f unit (Some pin) = f unit (is_none pin)

-- what a unit of the bag weighs at the server, and one of its queue
abbrev pub weight_at : Server → UnitWeight → Lodged → ℕ
weight_at me f u = pinned_weight f u.unit (pin_at me u.place)

-- the weight of a unit of the queue
abbrev pub weight_in : UnitWeight → Placed → ℕ
weight_in f p = f p.unit (is_none p.pin)

-- The bag's units that are free or pinned at the server are the queue's, with the same pins, facts and bodies. So they agree by every
-- weight; charge, counts and fits are some of them.
pub record HoldsUnits (all : List Lodged) (me : Server) (units : List Placed) : Type 0 where
  pub each : (id : UnitId) → unit_with id units ≡ option_and_then (slot_of me) (find (of_id id) all)
  pub distinct : HasDistinctIds units
  pub weighs : (f : UnitWeight) → sum_by (weight_at me f) all ≡ sum_by (weight_in f) units

-- the promise as the server has it, where it is the server's
abbrev pub room_at : Server → Room → Option Promise
room_at me p = if p.server.0 == me.0 then Some (record { id = p.id; length = p.length }) else None

-- the promise for the unit in a list
abbrev pub room_for : UnitId → List Promise → Option Promise
room_for id promises = find (λ p. same_unit p.id id) promises

-- the part as the server has it, where it is kept there
abbrev pub part_seen : Part → PartKept
part_seen p = record { bytes = p.common; fetches = p.fetched; accepted = if p.closed then Some p.accepted else None }

-- the part as the server keeps it, if it does
abbrev pub part_at : Server → Part → Option PartKept
part_at me p = if (p.server.0 == me.0) && not p.freed then Some (part_seen p) else None

-- the part is of the batch
abbrev pub of_batch : BatchId → Part → Bool
of_batch batch p = same_batch p.batch batch

-- these parts of the bag agree with these of a server
pub record Matches (lodged : List Lodged) (lots : List Part) (rooms : List Room) (b_done b_exhausted : Bool) (b_servers b_limit : ℕ)
    (config : Config) (me : Server) (queue : Queue) (store : Store) (is_done is_exhausted : Bool) : Type 0 where
  pub servers : b_servers ≡ config.servers
  pub within : me.0 < config.servers
  pub limit : b_limit ≡ queue.limit
  pub units : HoldsUnits lodged me queue.units
  pub promises : (id : UnitId) → room_for id queue.promises ≡ option_and_then (room_at me) (find (λ (p : Room). same_unit p.id id) rooms)
  pub room : sum_by (promise_charge me) rooms ≡ sum_by promised queue.promises
  pub single : HasDistinctPromises queue.promises
  pub parts : (batch : BatchId) → part_in store batch ≡ option_and_then (part_at me) (find (of_batch batch) lots)
  pub common : sum_by (part_charge me) lots ≡ queue.common
  -- what the server knows is so; server 0 finds exhaustion, so it knows of it
  pub done : is_done ≡ true → b_done ≡ true
  pub exhausted : is_exhausted ≡ true → b_exhausted ≡ true
  pub found : me.0 ≡ 0 → b_exhausted ≡ true → is_exhausted ≡ true

-- the bag agrees with the server
abbrev pub ServerAgrees : Bag → ServerModel → Type 0
ServerAgrees b s =
    Matches b.units b.parts b.promises b.done b.exhausted b.servers b.limit s.config s.me s.kept.queue s.kept.parts s.kept.done
    s.kept.exhausted

-- at the start of a run the bag agrees with each server
abbrev pub StartAgrees : Type 0
StartAgrees = (config : Config) (me : Server) → me.0 < config.servers → ServerAgrees (empty_bag config) (start config me)
