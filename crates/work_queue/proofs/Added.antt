-- A queue with one unit more.
use Rattle.std.proofs.Common.{◌≡◌, ◌≢◌, ◌<◌, ◌≤◌, ◌^◌, ℕ, ◌+◌, List, [], ◌∷◌, ◌++◌, length, get_or, Some, None, refl, sym, ap, ◌∙◌, All}
use Rattle.std.proofs.Common.{sum_by, arith, IsSome, is_some, true}
use Rattle.std.specs.List.Sorted.{IsPermutation}
use Rattle.std.proofs.lemmas.List.Elements.{All-push, All-weaker, filter_map-append}
use Rattle.std.proofs.lemmas.List.Quantifiers.{all_pairs_push}
use Rattle.std.proofs.lemmas.List.Sums.{sum_by_push}
use Rattle.std.specs.Prelude.{if◌then◌else◌}
use Rattle.adlb_unit.specs.Ids.{same_unit}
use Rattle.adlb_unit.specs.declared.names.UnitId.{UnitId}
use Rattle.adlb_unit.specs.declared.units.Unit.{Unit}
use Rattle.slab.specs.Slab.{HasRoomFor, Slab, get, Updates}
use Rattle.work_queue.proofs.Indexed.{indexed_come}
use Rattle.work_queue.proofs.Names.{named_come}
use Rattle.work_queue.proofs.Units.{units_one, units_same}
use Rattle.work_queue.specs.inside.{IsSound, queue_of}
use Rattle.work_queue.specs.Queue.{HasApartPromises, HasDistinctPromises, HasNoPromise, HasNoUnit, IsSmall, id_of, promised, size_of}
use Rattle.work_queue.specs.inside.Index.{IsInOrder, entry_of}
use Rattle.work_queue.specs.inside.Names.{spare_in, stamp_at}
use Rattle.work_queue.specs.inside.Units.{units_at}
use Rattle.work_queue.specs.declared.placing.Placed.{Placed}
use Rattle.work_queue.specs.declared.queues.WorkQueue.TheInside.{Inside}

-- an update after more room is one of the slab before
pub updates_from : (old mid new : Slab Placed) (key : ℕ) (p : Placed) → mid ≡ record old { capacity = mid.capacity }
    → Updates mid new key (Some p) → Updates old new key (Some p)
updates_from old mid new key p mid_is updates = record {
  changed = updates.changed;
  others = λ other differs. updates.others other differs ∙ ap (λ s. get s other) mid_is;
}

differs_from : (old : Slab Placed) (key k : ℕ) → IsSome (get old k) → get old key ≡ None → k ≢ key
differs_from old key k some vacant same = let e : get old k ≡ None = ap (λ x. get old x) same ∙ vacant in
    let no : is_some {T = Placed} None ≡ true = rw e at some in absurd (cc)

kept_at : (old new : Slab Placed) (key k : ℕ) (p : Placed) → get old key ≡ None → Updates old new key (Some p) → IsSome (get old k)
    → get new k ≡ get old k
kept_at old new key k p vacant updates some = updates.others k (differs_from old key k some vacant)

units_added : (old new : Slab Placed) (order : List ℕ) (key : ℕ) (p : Placed) → All (λ k. IsSome (get old k)) order → get old key ≡ None
    → Updates old new key (Some p) → units_at new (order ++ key ∷ []) ≡ units_at old order ++ p ∷ []
units_added old new order key p there vacant updates =
    let P : ℕ → Type 0 = λ k. IsSome (get old k) in
    let Q : ℕ → Type 0 = λ k. get new k ≡ get old k in
    let differ : All Q order = All-weaker P Q (λ k some. kept_at old new key k p vacant updates some) order there in
    rw (filter_map-append, units_same old new order differ, units_one new key, updates.changed) refl

-- a unit comes into the queue w under the key, and leaves the queue v
pub record Comes (w v : Inside) (key : ℕ) (unit : Unit) : Type 0 where
  pub vacant : get w.slots key ≡ None
  pub updates : Updates w.slots v.slots key (Some (record { unit = unit; pin = None }))
  pub order : v.order.items ≡ w.order.items ++ key ∷ []
  pub fresh : HasNoUnit unit.id (units_at w.slots w.order.items)
  pub small : length unit.body < 2 ^ 32
  pub once : HasDistinctPromises v.rooms
  pub apart : HasApartPromises (units_at w.slots w.order.items) v.rooms
  pub unpromised : HasNoPromise unit.id v.rooms
  pub charge : v.charge ≡ sum_by size_of (units_at w.slots w.order.items) + length unit.body + sum_by promised v.rooms + v.common
  pub within : v.charge ≤ v.limit
  pub entries : IsPermutation (entry_of (record { unit = unit; pin = None }) w.arrivals ∷ w.index.entries.items) v.index.entries.items
  pub in_order : IsInOrder v.index.entries.items
  pub stamps : v.index.stamps.items ≡ w.index.stamps.items ++ w.arrivals ∷ []
  pub names : (q : UnitId) → stamp_at v.names q ≡ (if same_unit unit.id q then Some w.arrivals else stamp_at w.names q)
  pub arrivals : v.arrivals ≡ w.arrivals + 1
  pub slots_room : HasRoomFor v.slots (length v.rooms)
  pub order_room : length v.order.items + length v.rooms ≤ v.order.capacity
  pub entries_room : length v.index.entries.items + length v.rooms ≤ v.index.entries.capacity
  pub stamps_room : length v.index.stamps.items + length v.rooms ≤ v.index.stamps.capacity
  pub names_room : length v.rooms ≤ spare_in v.names

module _ (w v : Inside) (key : ℕ) (unit : Unit) (sound : IsSound w) (comes : Comes w v key unit) where
  -- the units after one comes: those before, and the new one last
  pub units_come : units_at v.slots v.order.items ≡ units_at w.slots w.order.items ++ record { unit = unit; pin = None } ∷ []
  units_come = ap (λ o. units_at v.slots o) comes.order
      ∙ units_added w.slots v.slots w.order.items key (record { unit = unit; pin = None }) sound.there comes.vacant comes.updates

  keys_there : All (λ k. IsSome (get v.slots k)) (w.order.items ++ key ∷ [])
  keys_there =
      let now : Placed = record { unit = unit; pin = None } in
      let P : ℕ → Type 0 = λ k. IsSome (get v.slots k) in
      let O : ℕ → Type 0 = λ k. IsSome (get w.slots k) in
      let here : get v.slots key ≡ Some now = comes.updates.changed in
      All-push P w.order.items key
      (All-weaker O P (λ k some. rw (kept_at w.slots v.slots key k now comes.vacant comes.updates some) some) w.order.items sound.there)
      (rw here refl)

  apart_still : HasApartPromises (units_at w.slots w.order.items ++ record { unit = unit; pin = None } ∷ []) v.rooms
  apart_still k d within =
      let now : Placed = record { unit = unit; pin = None } in
      let id = (get_or v.rooms k d).id in
      let P : Placed → Type 0 = λ q. id_of q ≢ id in
      All-push P (units_at w.slots w.order.items) now (comes.apart k d within) (λ same. comes.unpromised k d within (sym same))

  -- a queue is sound after a unit comes
  pub sound_come : IsSound v
  sound_come =
      let now : Placed = record { unit = unit; pin = None } in
      let units : List Placed = units_at w.slots w.order.items in
      let S : Placed → Type 0 = λ q. IsSmall q in
      record {
        there = rw comes.order keys_there;
        distinct = rw units_come (all_pairs_push (λ a b. id_of a ≢ id_of b) units now sound.distinct comes.fresh);
        small = rw units_come (All-push S units now sound.small comes.small);
        once = comes.once;
        apart = rw units_come apart_still;
        charge = comes.charge ∙ rw units_come (omega (arith, sum_by_push size_of units now));
        within = comes.within;
        indexed = rw (
          units_come,
          comes.arrivals,
        ) (indexed_come units w.arrivals w.index sound.indexed v.index now refl comes.entries comes.in_order comes.stamps);
        named = rw (
          units_come,
          comes.stamps,
        ) (named_come units now w.index.stamps.items w.arrivals w.names v.names sound.named sound.indexed.long comes.fresh comes.names);
        slots_room = comes.slots_room;
        order_room = comes.order_room;
        entries_room = comes.entries_room;
        stamps_room = comes.stamps_room;
        names_room = comes.names_room;
      }

  -- the queue after a unit comes, as its model says
  pub view_come : queue_of v ≡ record {
    units = units_at w.slots w.order.items ++ record { unit = unit; pin = None } ∷ [];
    promises = v.rooms;
    common = v.common;
    arrivals = v.arrivals;
    limit = v.limit;
  }
  view_come = rw units_come refl
