use Rattle.std.proofs.Common.{◌≡◌, ◌+◌, ◌++◌, ◌∷◌, [], None, refl, ap, ◌∙◌, sym, subst, arith, length}
use Rattle.std.specs.List.{filter}
use Rattle.work_queue.specs.Queue.{HasRoom, Queue, is_for_other, with_unit}
use Rattle.work_queue.specs.inside.Units.{units_at}
use Rattle.work_queue.specs.declared.queues.WorkQueue.TheInside.{Inside}
use Rattle.work_queue.specs.declared.entries.Entry.{Entry}
use Rattle.work_queue.proofs.Indexed.{stamps_below}
use Rattle.work_queue.proofs.Added.{Comes, sound_come, view_come}
use Rattle.work_queue.proofs.Grown.{apart_left, once_left}
use Rattle.work_queue.proofs.Promises.{none_left, room_apart, room_told}
use Rattle.work_queue.proofs.queues.WorkQueue.arrive.Goals as goal

abbrev after : goal.After-self-1 → Inside
after c =
    record {
      slots = c.insert_reserved-key.new.self;
      order = c.push.new.self;
      index = c.add-2.new.self;
      names = c.add.new.self;
      rooms = c.remove.new.self;
      common = c.self.inside.common;
      charge = c.self.inside.charge;
      arrivals = c.self.inside.arrivals + 1;
      limit = c.self.inside.limit;
    }

comes : (c : goal.After-self-1) → Comes c.self.inside (after c) c.insert_reserved-key.result c.args.unit
comes c =
    let w = c.self.inside in
    let id = c.args.unit.id in
    let units = units_at w.slots w.order.items in
    let Promised : Queue → Type 0 = λ q. HasRoom id (length c.args.unit.body) q.promises in
    let room : HasRoom id (length c.args.unit.body) w.rooms = subst Promised (sym c.self.view_is) c.requires.promised in
    let told : c.remove.result ≡ length c.args.unit.body =
    room_told w.rooms id (length c.args.unit.body) c.remove.result c.remove.ensures.length room in
    record {
      vacant = c.insert_reserved-key.ensures.was_vacant;
      updates = c.insert_reserved-key.ensures.updates;
      order = c.push.ensures.items;
      fresh = room_apart units w.rooms id (length c.args.unit.body) c.self.invariant.apart room;
      small = omega arith;
      once = rw c.remove.ensures.removed (once_left w.rooms id c.self.invariant.once);
      apart = rw c.remove.ensures.removed (apart_left units w.rooms id c.self.invariant.apart);
      unpromised = rw c.remove.ensures.removed (none_left id w.rooms);
      charge = omega arith;
      within = c.self.invariant.within;
      entries = rw (sym c.entry_for.ensures) c.add-2.ensures.entries;
      in_order = c.add-2.ensures.order;
      stamps = c.add-2.ensures.stamps ∙ ap (λ (e : Entry). c.self.inside.index.stamps.items ++ e.stamp ∷ []) c.entry_for.ensures;
      names = c.add.ensures.names;
      arrivals = refl;
      slots_room = omega arith;
      order_room = omega arith;
      entries_room = omega arith;
      stamps_room = omega arith;
      names_room = omega arith;
    }

pub invariant_of-self : goal.invariant_of-self
invariant_of-self c = sound_come c.self.inside (after c) c.insert_reserved-key.result c.args.unit c.self.invariant (comes c)

pub returns : goal.returns
returns c =
    view_come c.self.inside (after c) c.insert_reserved-key.result c.args.unit c.self.invariant (comes c)
    ∙ ap (λ (q : Queue). record q {
      units = q.units ++ record { unit = c.args.unit; pin = None } ∷ [];
      promises = c.remove.new.self;
      arrivals = q.arrivals + 1;
    }) c.self.view_is
    ∙ ap (λ promises. record (with_unit c.args.self.now c.args.unit) { promises = promises })
    (c.remove.ensures.removed ∙ ap (λ (q : Queue). filter (is_for_other c.args.unit.id) q.promises) c.self.view_is)

pub add-requires-2-clause-last : goal.add-requires-2-clause-last
add-requires-2-clause-last c = rw c.entry_for.ensures (stamps_below _ c.self.inside.arrivals c.self.inside.index c.self.invariant.indexed)
