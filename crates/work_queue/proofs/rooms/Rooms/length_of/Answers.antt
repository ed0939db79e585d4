use Rattle.std.proofs.Common.{◌≡◌, ◌<◌, ◌↔◌, ℕ, Some, ap, ◌∙◌, get_or, length, rules, subst, sym}
use Rattle.work_queue.specs.Queue.{HasRoom, Promise}
use Rattle.work_queue.proofs.Promises.{room_found}
use Rattle.work_queue.proofs.rooms.Rooms.length_of.Goals as goal

pub returns-then-eq : goal.returns-then-eq
returns-then-eq c =
    let r = c.room-item.result in
    let items = c.deref-room-items.ensures.value ∙ c.self.view_is in
    let read : r ≡ get_or c.args.self.now c.loop-room.room-index r = c.room-item.is ∙ ap (λ l. get_or l c.loop-room.room-index r) items in
    let within : c.loop-room.room-index < length c.args.self.now = rw items at c.loop-room-test.true in
    let here : c.room.inside.id ≡ c.args.id = search rules in
    let is : r.id ≡ c.args.id = sym (ap (λ (p : Promise). p.id) c.room.view_is) ∙ here in
    let Told : Promise → Type 0 = λ p. (n : ℕ) → (Some p.length ≡ Some n) ↔ HasRoom c.args.id n c.args.self.now in
    subst Told (sym c.room.view_is) (room_found c.args.self.now c.loop-room.room-index r c.args.id c.requires.once within read is)
