use Rattle.std.proofs.Common.{refl, arith}
use Rattle.work_queue.specs.inside.Units.{units_at}
use Rattle.work_queue.proofs.Grown.{apart_left, once_left, sound_rooms}
use Rattle.work_queue.proofs.queues.WorkQueue.withdraw.Goals as goal

pub invariant_of-self : goal.invariant_of-self
invariant_of-self c =
    let w = c.self.inside in
    sound_rooms w _ c.self.invariant
    (record {
      slots = refl;
      items = refl;
      entries = refl;
      stamps = refl;
      names = λ q. refl;
      arrivals = refl;
      slots_room = omega arith;
      order_room = omega arith;
      entries_room = omega arith;
      stamps_room = omega arith;
      names_room = omega arith;
    })
    (rw c.remove-length.ensures.removed (once_left w.rooms c.args.id c.self.invariant.once))
    (rw c.remove-length.ensures.removed (apart_left (units_at w.slots w.order.items) w.rooms c.args.id c.self.invariant.apart))
    (omega arith)
    (omega arith)
