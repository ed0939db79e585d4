use Rattle.std.proofs.Common.{◌≡◌, ◌++◌, ◌∷◌, [], List, false, sym, subst, arith, length-append}
use Rattle.server_components.proofs.Sound.{parked_sound, waiting_few}
use Rattle.server_components.specs.inside.Reserving.{parked_of}
use Rattle.server_components.specs.Parked.{IsParked, IsWaiting, ParkedModel, is_parked, with_waiting}
use Rattle.server_components.specs.declared.waits.Waiting.{Waiting}
use Rattle.server_components.proofs.parking.Parked.park.Goals as goal

pub push_reserved-requires : goal.push_reserved-requires
push_reserved-requires c =
    let m = parked_of c.self.inside in
    let waits = c.args.waits in
    let each = subst (λ (m : ParkedModel). IsWaiting m.config m.me waits) (sym c.self.view_is) c.requires.each in
    let new = subst (λ (m : ParkedModel). is_parked m waits.wish.rank ≡ false) (sym c.self.view_is) c.requires.new in
    let all : List Waiting = m.parked.waiting ++ waits ∷ [] in
    let few = waiting_few (with_waiting m all) (parked_sound m waits each new c.self.invariant.sound) waits in
    omega (arith, few, length-append m.parked.waiting (waits ∷ []), c.self.invariant.room)

pub invariant_of-self : goal.invariant_of-self
invariant_of-self c =
    let m = parked_of c.self.inside in
    let P : List Waiting → Type 0 = λ l. IsParked (with_waiting m l) in
    let each = subst (λ (m : ParkedModel). IsWaiting m.config m.me c.args.waits) (sym c.self.view_is) c.requires.each in
    let new = subst (λ (m : ParkedModel). is_parked m c.args.waits.wish.rank ≡ false) (sym c.self.view_is) c.requires.new in
    record {
      sound = subst P (sym c.push_reserved.ensures.items) (parked_sound m c.args.waits each new c.self.invariant.sound);
      room = omega (arith, c.push_reserved.ensures.capacity, c.self.invariant.room);
      wish_room = c.self.invariant.wish_room;
    }
