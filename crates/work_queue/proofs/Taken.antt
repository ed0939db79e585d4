-- A queue with one unit less.
use Rattle.std.proofs.Common.{◌≡◌, ◌≢◌, ◌≤◌, ◌+◌, ◌-◌, ℕ, suc, List, ◌∷◌, ◌++◌, get_or, take, drop, None, refl, sym, ap, ◌∙◌, All, arith}
use Rattle.std.proofs.Common.{IsSome, sum_by, length}
use Rattle.std.specs.List.{filter, remove}
use Rattle.std.proofs.lemmas.List.Elements.{All-append, All-take, All-drop, All-filter, filter_map-append}
use Rattle.std.proofs.lemmas.List.Kept.{AllPairs-filter}
use Rattle.std.proofs.lemmas.List.Sums.{sum_by-append, sum_by-cons}
use Rattle.std.specs.Prelude.{if◌then◌else◌}
use Rattle.adlb_unit.specs.Ids.{same_unit}
use Rattle.adlb_unit.specs.declared.names.UnitId.{UnitId}
use Rattle.slab.specs.Slab.{Slab, get, slab_len, Updates}
use Rattle.work_queue.proofs.Found.{IsFound}
use Rattle.work_queue.proofs.Ids.{filter_at}
use Rattle.work_queue.proofs.Standing.{ForgetsUnit, LosesName, indexed_after_take, named_after_take}
use Rattle.work_queue.proofs.Units.{Parts, parts_at, units_besides, units_parted}
use Rattle.work_queue.specs.inside.{IsSound, queue_of}
use Rattle.work_queue.specs.Queue.{HasNoUnit, IsSmall, has_other_id, id_of, size_of, without}
use Rattle.work_queue.specs.inside.Names.{stamp_at}
use Rattle.work_queue.specs.inside.Units.{units_at}
use Rattle.work_queue.specs.declared.placing.Placed.{Placed}
use Rattle.work_queue.specs.declared.queues.WorkQueue.TheInside.{Inside}

module _ (old new : Slab Placed) (order front back : List ℕ) (key : ℕ) (p : Placed) (parts : Parts old order key p front back)
    (updates : Updates old new key None) where
  units_left : units_at new (front ++ back) ≡ units_at old front ++ units_at old back
  units_left =
      filter_map-append (λ k. get new k) front back
      ∙ ap (λ f. f ++ units_at new back) (units_besides old new key None front updates parts.before)
      ∙ ap (λ b. units_at old front ++ b) (units_besides old new key None back updates parts.after)

  -- without the unit under the key, the units are those of other ids
  units_taken : (id : UnitId) → id_of p ≡ id → units_at new (front ++ back) ≡ filter (has_other_id id) (units_at old order)
  units_taken id is =
      units_left
      ∙ sym (filter_at (units_at old front) (units_at old back) p id parts.distinct is)
      ∙ sym (ap (λ l. filter (has_other_id id) l) (units_parted old order key p front back parts))

  sizes_taken : sum_by size_of (units_at old order) ≡ size_of p + sum_by size_of (units_at new (front ++ back))
  sizes_taken =
      let a : sum_by size_of (units_at old order) ≡ sum_by size_of (units_at old front) + sum_by size_of (p ∷ units_at old back) =
      ap (λ l. sum_by size_of l) (units_parted old order key p front back parts)
      ∙ sum_by-append size_of (units_at old front) (p ∷ units_at old back) in
      let b : sum_by size_of (units_at new (front ++ back)) ≡ sum_by size_of (units_at old front) + sum_by size_of (units_at old back) =
      ap (λ l. sum_by size_of l) units_left ∙ sum_by-append size_of (units_at old front) (units_at old back) in
      let e : sum_by size_of (p ∷ units_at old back) ≡ size_of p + sum_by size_of (units_at old back) =
      sum_by-cons size_of p (units_at old back) in
      omega arith

  others_there : (keys : List ℕ) → All (λ k. IsSome (get old k)) keys → All (λ k. k ≢ key) keys → All (λ k. IsSome (get new k)) keys
  others_there keys there others k d within = rw (updates.others (get_or keys k d) (others k d within)) (there k d within)

module _ (w : Inside) (new : Slab Placed) (place key : ℕ) (p : Placed) (id : UnitId) (sound : IsSound w) (at : IsFound w place key p id)
    (updates : Updates w.slots new key None) where
  parts : Parts w.slots w.order.items key p (take place w.order.items) (drop (suc place) w.order.items)
  parts = parts_at w.slots w.order.items place key p sound.distinct at.within at.key_is at.found

  sizes : sum_by size_of (units_at w.slots w.order.items) ≡ size_of p + sum_by size_of (units_at new (remove w.order.items place))
  sizes = sizes_taken w.slots new w.order.items (take place w.order.items) (drop (suc place) w.order.items) key p parts updates

  units : units_at new (remove w.order.items place) ≡ filter (has_other_id id) (units_at w.slots w.order.items)
  units = units_taken w.slots new w.order.items (take place w.order.items) (drop (suc place) w.order.items) key p parts updates id at.has_id

  apart_left : (old : List Placed) (other : UnitId) → HasNoUnit other old → HasNoUnit other (filter (has_other_id id) old)
  apart_left old other apart =
      let P : Placed → Type 0 = λ q. id_of q ≢ other in
      All-filter (has_other_id id) P old apart

  -- the unit's bytes are within the charge
  pub size_within : size_of p ≤ w.charge
  size_within = omega (arith, sizes, sound.charge)

  -- a queue is sound after a unit is taken
  pub sound_taken : (v : Inside) → v.slots ≡ new → v.order.items ≡ remove w.order.items place → v.charge ≡ w.charge - size_of p
      → v.limit ≡ w.limit → v.rooms ≡ w.rooms → v.common ≡ w.common → slab_len new + 1 ≡ slab_len w.slots → new.capacity ≡ w.slots.capacity
      → length v.order.items + 1 ≡ length w.order.items → v.order.capacity ≡ w.order.capacity → v.arrivals ≡ w.arrivals
      → ForgetsUnit w place p v.index → LosesName w id v.names → IsSound v
  sound_taken v slots order charge limit rooms common slab_less slab_same order_less order_same arrivals forgets loses =
      let O : ℕ → Type 0 = λ k. IsSome (get w.slots k) in
      let P : ℕ → Type 0 = λ k. IsSome (get new k) in
      let S : Placed → Type 0 = λ q. IsSmall q in
      let front = take place w.order.items in
      let back = drop (suc place) w.order.items in
      let before : All P front = others_there w.slots new w.order.items front back key p parts updates front
      (All-take O place w.order.items sound.there) parts.before in
      let after : All P back = others_there w.slots new w.order.items front back key p parts updates back
      (All-drop O (suc place) w.order.items sound.there) parts.after in
      record {
        there = rw (slots, order) (All-append P front back before after);
        distinct = rw (
          slots,
          order,
          units,
        ) (AllPairs-filter (λ a b. id_of a ≢ id_of b) (has_other_id id) (units_at w.slots w.order.items) sound.distinct);
        small = rw (slots, order, units) (All-filter (has_other_id id) S (units_at w.slots w.order.items) sound.small);
        once = rw rooms sound.once;
        apart = rw (rooms, slots, order, units)
            (λ k d within. apart_left (units_at w.slots w.order.items) (get_or w.rooms k d).id (sound.apart k d within));
        charge = rw (charge, slots, order, rooms, common) (omega (arith, sizes, sound.charge));
        within = omega (arith, charge, limit, sound.within);
        indexed = rw (slots, order, arrivals, units_left w.slots new w.order.items front back key p parts updates)
            (indexed_after_take w place key p id sound at v.index forgets);
        named = rw (slots, order, forgets.stamps, units_left w.slots new w.order.items front back key p parts updates)
            (named_after_take w place key p id sound at v.names
            (λ q. loses.less q ∙ ap (λ i. if same_unit i q then None else stamp_at w.names q) (sym at.has_id)));
        slots_room = rw (slots, rooms) (omega (arith, slab_less, slab_same, sound.slots_room));
        order_room = rw rooms (omega (arith, order_less, order_same, sound.order_room));
        entries_room = rw rooms (omega (arith, forgets.fewer, forgets.same, sound.entries_room));
        stamps_room = rw rooms (omega (arith, forgets.stamps_fewer, forgets.stamps_same, sound.stamps_room));
        names_room = rw rooms (omega (arith, loses.room, sound.names_room));
      }

  -- the queue after a unit is taken, as its model says
  pub view_taken : (v : Inside) → v.slots ≡ new → v.order.items ≡ remove w.order.items place → v.arrivals ≡ w.arrivals → v.limit ≡ w.limit
      → v.rooms ≡ w.rooms → v.common ≡ w.common → queue_of v ≡ without (queue_of w) id
  view_taken v slots order arrivals limit rooms common = rw (slots, order, units, arrivals, limit, rooms, common) refl
