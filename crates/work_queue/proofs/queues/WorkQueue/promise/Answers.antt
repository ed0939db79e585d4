use Rattle.std.proofs.Common.{◌≡◌, ◌≤◌, ◌+◌, ◌++◌, ◌∷◌, [], ap, ◌∙◌, refl, sym, subst, arith, rules, length}
use Rattle.std.proofs.lemmas.List.{length-append}
use Rattle.std.proofs.lemmas.List.Sums.{sum_by_push}
use Rattle.slab.specs.Slab.{HasRoomFor, slab_len}
use Rattle.work_queue.specs.Queue.{HasNoPromise, HasNoUnit, Promise, Queue, promised}
use Rattle.work_queue.specs.inside.Names.{spare_in}
use Rattle.work_queue.specs.inside.Units.{units_at}
use Rattle.work_queue.proofs.Grown.{apart_more, once_more, sound_grown, sound_rooms}
use Rattle.work_queue.proofs.queues.WorkQueue.promise.Goals as goal

pub invariant_of-self-2 : goal.invariant_of-self-2
invariant_of-self-2 c =
    let w = c.self.inside in
    let room : Promise = record { id = c.args.id; length = c.args.n } in
    let New : Queue → Type 0 = λ q. HasNoUnit c.args.id q.units in
    let Unpromised : Queue → Type 0 = λ q. HasNoPromise c.args.id q.promises in
    let added : c.add.new.self ≡ w.rooms ++ room ∷ [] = search rules in
    let long : length c.add.new.self ≡ length w.rooms + 1 = ap (λ l. length l) added ∙ length-append w.rooms (room ∷ []) in
    let slots : HasRoomFor c.make_room-grown.new.slots (c.len-more.result + 1) = search rules in
    let keys : length c.make_room-grown.new.order.items + (c.len-more.result + 1) ≤ c.make_room-grown.new.order.capacity = search rules in
    let entries : length c.make_room-grown.new.index.entries.items + (c.len-more.result + 1) ≤ c.make_room-grown.new.index.entries.capacity =
    search rules in
    let stamps : length c.make_room-grown.new.index.stamps.items + (c.len-more.result + 1) ≤ c.make_room-grown.new.index.stamps.capacity =
    search rules in
    let names : c.len-more.result + 1 ≤ spare_in c.make_room-grown.new.names = search rules in
    sound_rooms w _ c.self.invariant
    (record {
      slots = c.make_room-grown.ensures.slots;
      items = c.make_room-grown.ensures.items;
      entries = c.make_room-grown.ensures.entries;
      stamps = c.make_room-grown.ensures.stamps;
      names = c.make_room-grown.ensures.names;
      arrivals = refl;
      slots_room = omega arith;
      order_room = omega arith;
      entries_room = omega arith;
      stamps_room = omega arith;
      names_room = omega arith;
    })
    (rw added (once_more w.rooms c.args.id c.args.n c.self.invariant.once (subst Unpromised (sym c.self.view_is) c.requires.unpromised)))
    (rw added
    (apart_more (units_at w.slots w.order.items) w.rooms c.args.id c.args.n c.self.invariant.apart
    (subst New (sym c.self.view_is) c.requires.new)))
    (rw added (omega (arith, sum_by_push promised w.rooms room)))
    (omega arith)

pub invariant_of-self : goal.invariant_of-self
invariant_of-self c = sound_grown c.self.inside _ c.self.invariant (record {
  slots = c.make_room-grown.ensures.slots;
  items = c.make_room-grown.ensures.items;
  entries = c.make_room-grown.ensures.entries;
  stamps = c.make_room-grown.ensures.stamps;
  names = c.make_room-grown.ensures.names;
  arrivals = refl;
  slots_room = let same = ap (λ s. slab_len s) c.make_room-grown.ensures.slots in omega (arith, same);
  order_room = let same = ap (λ l. length l) c.make_room-grown.ensures.items in omega (arith, same);
  entries_room = let same = ap (λ l. length l) c.make_room-grown.ensures.entries in omega (arith, same);
  stamps_room = let same = ap (λ l. length l) c.make_room-grown.ensures.stamps in omega (arith, same);
  names_room = omega arith;
}) refl refl refl refl

pub invariant_of-self-then-is_err-2 : goal.invariant_of-self-then-is_err-2
invariant_of-self-then-is_err-2 c =
    let rooms : c.add.new.self ≡ c.self.inside.rooms = search rules in
    let long = ap (λ l. length l) rooms in
    let same = ap (λ s. slab_len s) c.make_room-grown.ensures.slots in
    sound_grown c.self.inside _ c.self.invariant (record {
      slots = c.make_room-grown.ensures.slots;
      items = c.make_room-grown.ensures.items;
      entries = c.make_room-grown.ensures.entries;
      stamps = c.make_room-grown.ensures.stamps;
      names = c.make_room-grown.ensures.names;
      arrivals = refl;
      slots_room = omega (arith, same, long);
      order_room = let keys = ap (λ l. length l) c.make_room-grown.ensures.items in omega (arith, long, keys);
      entries_room = let listed = ap (λ l. length l) c.make_room-grown.ensures.entries in omega (arith, long, listed);
      stamps_room = let stamps = ap (λ l. length l) c.make_room-grown.ensures.stamps in omega (arith, long, stamps);
      names_room = omega (arith, long);
    }) rooms refl refl refl
