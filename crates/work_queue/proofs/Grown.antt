-- A queue with more room, and with one promise more or less.
use Rattle.std.proofs.Common.{◌≡◌, ◌≢◌, ◌≤◌, ◌+◌, ℕ, List, ◌∷◌, [], ◌++◌, length, refl, ap, ◌∙◌, sum_by}
use Rattle.std.specs.List.{filter}
use Rattle.std.proofs.lemmas.List.Elements.{All-filter, All-push}
use Rattle.std.proofs.lemmas.List.Kept.{AllPairs-filter}
use Rattle.std.proofs.lemmas.List.Quantifiers.{all_pairs_push}
use Rattle.adlb_unit.specs.declared.names.UnitId.{UnitId}
use Rattle.slab.specs.Slab.{HasRoomFor}
use Rattle.work_queue.specs.inside.{IsSound, queue_of}
use Rattle.work_queue.specs.Queue.{HasApartPromises, HasDistinctPromises, HasNoPromise, HasNoUnit, Promise, is_for_other, promised, size_of}
use Rattle.work_queue.specs.inside.Names.{spare_in, stamp_at}
use Rattle.work_queue.specs.inside.Units.{units_at}
use Rattle.work_queue.specs.declared.placing.Placed.{Placed}
use Rattle.work_queue.specs.declared.queues.WorkQueue.TheInside.{Inside}

-- the slots and the list of keys of v are those of w, with room for each promise of v
pub record IsGrown (w v : Inside) : Type 0 where
  pub slots : v.slots ≡ record w.slots { capacity = v.slots.capacity }
  pub items : v.order.items ≡ w.order.items
  pub entries : v.index.entries.items ≡ w.index.entries.items
  pub stamps : v.index.stamps.items ≡ w.index.stamps.items
  pub names : (q : UnitId) → stamp_at v.names q ≡ stamp_at w.names q
  pub arrivals : v.arrivals ≡ w.arrivals
  pub slots_room : HasRoomFor v.slots (length v.rooms)
  pub order_room : length v.order.items + length v.rooms ≤ v.order.capacity
  pub entries_room : length v.index.entries.items + length v.rooms ≤ v.index.entries.capacity
  pub stamps_room : length v.index.stamps.items + length v.rooms ≤ v.index.stamps.capacity
  pub names_room : length v.rooms ≤ spare_in v.names

module _ (w v : Inside) (sound : IsSound w) (grown : IsGrown w v) where
  -- more room keeps the units
  pub units_kept : units_at v.slots v.order.items ≡ units_at w.slots w.order.items
  units_kept = ap (λ o. units_at v.slots o) grown.items ∙ ap (λ s. units_at s w.order.items) grown.slots

  -- promises that are sound with the units of w, and the charge with them
  pub sound_rooms : HasDistinctPromises v.rooms → HasApartPromises (units_at w.slots w.order.items) v.rooms
      → v.charge ≡ sum_by size_of (units_at w.slots w.order.items) + sum_by promised v.rooms + v.common → v.charge ≤ v.limit → IsSound v
  sound_rooms once apart charge within = record {
    there = rw (grown.items, grown.slots) sound.there;
    distinct = rw units_kept sound.distinct;
    small = rw units_kept sound.small;
    once = once;
    apart = rw units_kept apart;
    charge = rw units_kept charge;
    within = within;
    indexed = record {
      held = rw (units_kept, grown.entries, grown.stamps) sound.indexed.held;
      in_order = rw grown.entries sound.indexed.in_order;
      rising = rw grown.stamps sound.indexed.rising;
      below = rw (grown.stamps, grown.arrivals) sound.indexed.below;
      long = rw (units_kept, grown.stamps) sound.indexed.long;
    };
    named = record { each = λ q. rw (units_kept, grown.stamps) (grown.names q ∙ sound.named.each q) };
    slots_room = grown.slots_room;
    order_room = grown.order_room;
    entries_room = grown.entries_room;
    stamps_room = grown.stamps_room;
    names_room = grown.names_room;
  }

  -- the queue after its promises change, as its model says
  pub view_rooms : queue_of v
      ≡ record { units = units_at w.slots w.order.items; promises = v.rooms; common = v.common; arrivals = v.arrivals; limit = v.limit }
  view_rooms = rw units_kept refl

-- promises stay distinct with one for an id that had none
pub once_more : (promises : List Promise) (id : UnitId) (n : ℕ) → HasDistinctPromises promises → HasNoPromise id promises
    → HasDistinctPromises (promises ++ record { id = id; length = n } ∷ [])
once_more promises id n once none = all_pairs_push (λ (p q : Promise). p.id ≢ q.id) promises (record { id = id; length = n }) once none

-- promises stay apart from units with one for an id without a unit
pub apart_more : (units : List Placed) (promises : List Promise) (id : UnitId) (n : ℕ) → HasApartPromises units promises
    → HasNoUnit id units → HasApartPromises units (promises ++ record { id = id; length = n } ∷ [])
apart_more units promises id n apart none =
    let P : Promise → Type 0 = λ p. HasNoUnit p.id units in
    All-push P promises (record { id = id; length = n }) apart none

-- promises stay distinct without one
pub once_left : (promises : List Promise) (id : UnitId) → HasDistinctPromises promises
    → HasDistinctPromises (filter (is_for_other id) promises)
once_left promises id once = AllPairs-filter (λ (p q : Promise). p.id ≢ q.id) (is_for_other id) promises once

-- promises stay apart from units without one
pub apart_left : (units : List Placed) (promises : List Promise) (id : UnitId) → HasApartPromises units promises
    → HasApartPromises units (filter (is_for_other id) promises)
apart_left units promises id apart =
    let P : Promise → Type 0 = λ p. HasNoUnit p.id units in
    All-filter (is_for_other id) P promises apart

-- a queue that has the promises of w, too, is sound
pub sound_grown : (w v : Inside) → IsSound w → IsGrown w v → v.rooms ≡ w.rooms → v.common ≡ w.common → v.charge ≡ w.charge
    → v.limit ≡ w.limit → IsSound v
sound_grown w v sound grown rooms common charge limit =
    sound_rooms w v sound grown (rw rooms sound.once) (rw rooms sound.apart) (rw (charge, rooms, common) sound.charge)
    (rw (charge, limit) sound.within)
