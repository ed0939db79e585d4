-- The entries of pushes: room is promised, a unit leaves, it arrives, and a promise is taken back.
use Rattle.std.proofs.Common.{◌≡◌, ◌≢◌, ◌≤◌, ◌<◌, ℕ, ◌+◌, ◌==◌, Bool, true, false, [], ◌∷◌, ◌++◌, filter, length, sum_by, Some, None, refl}
use Rattle.std.proofs.Common.{sym, ap, ◌∙◌, arith}
use Rattle.std.proofs.lemmas.Bool.{false_from_ne_true, ltb-false}
use Rattle.std.proofs.lemmas.List.Sums.{sum_by_push}
use Rattle.adlb_unit.specs.Ids.{same_unit}
use Rattle.adlb_unit.specs.declared.names.Server.{Server}
use Rattle.adlb_unit.specs.declared.names.UnitId.{UnitId}
use Rattle.adlb_unit.specs.declared.units.Unit.{Unit}
use Rattle.bag_ledger.specs.Bag.{Bag, has_due, is_placed_at, is_travelling, promise_charge, promise_of, unit_of}
use Rattle.bag_ledger.specs.Steps.{moved}
use Rattle.bag_ledger.specs.declared.entries.Entry.TheVariants as enters
use Rattle.bag_ledger.specs.declared.states.Placed.{Placed as Lodged}
use Rattle.bag_ledger.specs.declared.states.Promise.{Promise as Room}
use Rattle.bag_ledger.specs.declared.states.UnitPlace.{UnitPlace}
use Rattle.bag_ledger.specs.declared.states.UnitPlace.TheVariants.{Free, Pinned, Spent, Travelling}
use Rattle.bag_ledger.proofs.Tests.{same_number, same_server_is, some_is}
use Rattle.bag_law.specs.Sound.{PromisesAreSingle}
use Rattle.work_queue.specs.Queue.{Promise, charge_of, has_other_id, is_for_other, promised}
use Rattle.work_queue.specs.declared.placing.Placed.{Placed}
use Rattle.work_queue.proofs.Grown.{once_left, once_more}
use Rattle.server_components.specs.Grants.{unit_with}
use Rattle.server_law.specs.Acts.{Arrives, Promises, Withdraws, entries}
use Rattle.server_law.specs.Agreement.{ServerAgrees, room_for}
use Rattle.server_law.specs.Carried.{done}
use Rattle.server_law.specs.Finding.{exceeds, has_promise}
use Rattle.server_law.specs.Moving.{IsHeldAt, IsMeasured, IsPromisedAt, is_held_at}
use Rattle.server_law.specs.Pushes.{expects_query, expects_unit}
use Rattle.server_law.specs.State.{ServerModel}
use Rattle.server_law.proofs.Components.{rooms_agree, units_agree, with_units}
use Rattle.server_law.proofs.Entering.{AreSteps, charge_agrees, is_step}
use Rattle.server_law.proofs.Found.{some_there}
use Rattle.server_law.proofs.Lodging.{holds_arrived, holds_taken, lodged, place_is}
use Rattle.server_law.proofs.Rooms.{IsRoom, room_is, rooms_added, rooms_left, rooms_sum}
use Rattle.server_law.proofs.Tests.{found_any, promise_says, query_says, unit_comes_says}

-- Where a unit is that is held at another server.

not_here : (from me at : Server) → from ≢ me → (at.0 == from.0) ≡ true → (at.0 == me.0) ≡ false
not_here from me at other is =
    false_from_ne_true (at.0 == me.0) (λ here. other (sym (same_server_is at from is) ∙ same_server_is at me here))

-- it does not travel, and is not at this one
held_apart : (from me : Server) (place : UnitPlace) → from ≢ me → is_held_at from place ≡ true
    → (is_travelling place ≡ false) × (is_placed_at me place ≡ false)
held_apart from me (Free at) other held = (refl, not_here from me at other held)
held_apart from me (Pinned at rank) other held = (refl, not_here from me at other held)
held_apart from me (Travelling to) other held = absurd (cc)
held_apart from me Spent other held = (refl, refl)

held_rests : (from : Server) (place : UnitPlace) → is_held_at from place ≡ true → is_travelling place ≡ false
held_rests from (Free at) held = refl
held_rests from (Pinned at rank) held = refl
held_rests from (Travelling to) held = absurd (cc)
held_rests from Spent held = refl

-- Room is promised.

-- the entry of room that is promised
pub promises : (found : Bag → Bool) (b : Bag) (s : ServerModel) (from : Server) (id : UnitId) (n : ℕ) → ServerAgrees b s → has_due b ≡ false
    → expects_query s.kept id ≡ true → exceeds s.kept.queue n ≡ false → from ≢ s.me → IsHeldAt b from id → IsMeasured b id n
    → promise_of b id ≡ None → AreSteps found b (entries (Promises from id n) s) (done (Promises from id n) s)
promises found b s from id n m rests expected fits other held long none =
    is_step found b (enters.Promised s.me id n) (done (Promises from id n) s) (
      rw rests refl,
      (held.unit, held.found, measured, rw m.servers m.within, apart.0, apart.1, none, rw (charge_agrees b s m, m.limit) below),
      refl,
    )
    (rooms_agree b s (b.promises ++ room ∷ []) (s.kept.queue.promises ++ record { id = id; length = n } ∷ []) m
    (rooms_added b.promises s.me s.kept.queue.promises id n m.promises none) sum
    (once_more s.kept.queue.promises id n m.single ((query_says s.kept id).0 expected).1))
    rests
  where
    room : Room
    room = record { server = s.me; id = id; length = n }

    apart : (is_travelling held.unit.place ≡ false) × (is_placed_at s.me held.unit.place ≡ false)
    apart = held_apart from s.me held.unit.place other held.held

    measured : length held.unit.unit.body ≡ n
    measured =
        let same : long.unit ≡ held.unit = some_is (sym long.found ∙ held.found) in
        ap (λ (u : Lodged). length u.unit.body) (sym same) ∙ long.long

    below : charge_of s.kept.queue + n ≤ s.kept.queue.limit
    below = ltb-false s.kept.queue.limit (charge_of s.kept.queue + n) fits

    sum : sum_by (promise_charge s.me) (b.promises ++ record { server = s.me; id = id; length = n } ∷ [])
        ≡ sum_by promised (s.kept.queue.promises ++ record { id = id; length = n } ∷ [])
    sum =
        let more = sum_by_push (promise_charge s.me) b.promises (record { server = s.me; id = id; length = n }) in
        let there = sum_by_push promised s.kept.queue.promises (record { id = id; length = n }) in
        let charge : promise_charge s.me (record { server = s.me; id = id; length = n }) ≡ n = rw (same_number s.me.0) refl in
        let same = m.room in
        omega arith

-- The unit leaves.

-- the entry of a unit that leaves
pub leaves : (found : Bag → Bool) (b : Bag) (s : ServerModel) (to : Server) (p : Placed) → ServerAgrees b s → has_due b ≡ false
    → to.0 < b.servers
    → IsPromisedAt b to p.unit.id → unit_with p.unit.id s.kept.queue.units ≡ Some p → p.pin ≡ None
    → AreSteps found b (enters.Left s.me to p.unit.id ∷ [])
    (with_units (filter (has_other_id p.unit.id) s.kept.queue.units) s.kept.queue.arrivals s)
leaves found b s to p m rests there room is free =
    let u = lodged b.units s.me s.kept.queue.units p.unit.id p m.units is in
    let place : u.0.place ≡ Free s.me = place_is s.me None u.0.place (u.1.pin ∙ ap Some free) in
    let now = filter (has_other_id p.unit.id) s.kept.queue.units in
    let holds = holds_taken b.units s.me s.kept.queue.units p.unit.id (Travelling to) p u.0 m.units is u.1 refl in
    is_step found b (enters.Left s.me to p.unit.id) (with_units now s.kept.queue.arrivals s)
    (rw rests refl, (u.0, room.room, (u.1.found, place), rw m.servers m.within, there, room.found, room.here), refl)
    (units_agree b s _ now s.kept.queue.arrivals m holds) rests

-- A promise ends.

-- that of an id which the server has promised
promise_is : (b : Bag) (s : ServerModel) (id : UnitId) → ServerAgrees b s → has_promise id s.kept.queue.promises ≡ true
    → IsRoom b.promises s.me s.kept.queue.promises id
promise_is b s id m has =
    let some = found_any (λ (p : Promise). same_unit p.id id) s.kept.queue.promises ∙ has in
    let p = some_there (room_for id s.kept.queue.promises) some in
    room_is b.promises s.me s.kept.queue.promises id p.0 m.promises p.1

-- the unit arrives
pub arrives : (found : Bag → Bool) (b : Bag) (s : ServerModel) (from : Server) (unit : Unit) → ServerAgrees b s → has_due b ≡ false
    → expects_unit s.kept unit ≡ true → unit_of b unit.id ≡ Some (record { unit = unit; place = Travelling s.me })
    → PromisesAreSingle b.promises → AreSteps found b (entries (Arrives from unit) s) (done (Arrives from unit) s)
arrives found b s from unit m rests expected travels single =
    is_step found b (enters.Arrived s.me unit.id) (done (Arrives from unit) s)
    (rw rests refl, (record { unit = unit; place = Travelling s.me }, (travels, refl), rw m.servers m.within), refl)
    (rooms_agree (moved unit.id (Free s.me) b) here _ (filter (is_for_other unit.id) s.kept.queue.promises) come
    (rooms_left b.promises s.me s.kept.queue.promises unit.id m.promises)
    (rooms_sum b.promises s.me s.kept.queue.promises unit.id single m.single room m.room)
    (once_left s.kept.queue.promises unit.id m.single))
    rests
  where
    here : ServerModel
    here = with_units (s.kept.queue.units ++ record { unit = unit; pin = None } ∷ []) (s.kept.queue.arrivals + 1) s

    come : ServerAgrees (moved unit.id (Free s.me) b)
        (with_units (s.kept.queue.units ++ record { unit = unit; pin = None } ∷ []) (s.kept.queue.arrivals + 1) s)
    come =
        units_agree b s _ (s.kept.queue.units ++ record { unit = unit; pin = None } ∷ []) (s.kept.queue.arrivals + 1) m
        (holds_arrived b.units s.me s.kept.queue.units (record { unit = unit; place = Travelling s.me }) m.units travels refl)

    room : IsRoom b.promises s.me s.kept.queue.promises unit.id
    room =
        let has = ((unit_comes_says s.kept unit).0 expected).1 in
        promise_is b s unit.id m ((promise_says unit.id s.kept.queue.promises).1 (has.0, has.1, has.2, has.3, has.4.0))

-- the promise is taken back
pub withdraws : (found : Bag → Bool) (b : Bag) (s : ServerModel) (from : Server) (id : UnitId) → ServerAgrees b s → has_due b ≡ false
    → has_promise id s.kept.queue.promises ≡ true → IsHeldAt b from id → PromisesAreSingle b.promises
    → AreSteps found b (entries (Withdraws from id) s) (done (Withdraws from id) s)
withdraws found b s from id m rests has held single =
    let room = promise_is b s id m has in
    let rest = held_rests from held.unit.place held.held in
    is_step found b (enters.Withdrawn s.me id) (done (Withdraws from id) s)
    (rw rests refl, (held.unit, room.room, held.found, rest, rw m.servers m.within, room.found, room.here), refl)
    (rooms_agree b s _ (filter (is_for_other id) s.kept.queue.promises) m
    (rooms_left b.promises s.me s.kept.queue.promises id m.promises)
    (rooms_sum b.promises s.me s.kept.queue.promises id single m.single room m.room)
    (once_left s.kept.queue.promises id m.single))
    rests
